-- The chunk, and three runs of its entry, each where the one before ends (Writing).
use Rattle.std.proofs.Common.{◌≡◌, List, ◌++◌, ℕ, ◌+◌, length, refl, ap, ◌∙◌, arith}
use mathlib.Core.Path.{ap₂}
use Rattle.spec.specs.Bytes.{le_bytes, splice}
use Rattle.spec.specs.Store.{chunk_at}
use Rattle.spec.proofs.StoreLaws.{store-good, store-key-length}
use Rattle.compact.proofs.Writing.{chunk-put}
use Rattle.compact.proofs.put_chunk.Goals.{After-key_at-key}
use Rattle.compact.proofs.put_chunk.Goals as goal

-- the chunk and the key have their lengths
chunk-long : (c : After-key_at-key) → length c.chunk_at-chunk.result.now ≡ length (chunk_at c.args.store.now c.args.k)
chunk-long c = ap length c.chunk_at-chunk.ensures.0

key-long : (c : After-key_at-key) → length c.key_at-key.result.now ≡ 20
key-long c = ap length c.key_at-key.ensures ∙ store-key-length c.args.store.now (store-good c.args.store.now c.requires.checked) c.args.k c.requires.within

pub copy-requires-2 : goal.copy-requires-2
copy-requires-2 c = omega (arith, key-long (goal.at.copy-requires-2 c).After-key_at-key, c.requires.before, c.requires.room, c.copy.auto.out)

pub returns : goal.returns
returns c =
    let a = c.args in
    let at = (goal.at.returns c).After-key_at-key in
    let chunk = c.chunk_at-chunk.result.now in
    let put = chunk-put a.out.now c.copy.new.out c.copy-2.new.out c.write.new.out c.write-2.new.out
    c.key_at-key.result.now chunk a.place.entry a.place.at (length chunk) c.requires.before (omega (arith, chunk-long at, c.requires.room)) (key-long at)
    c.copy.ensures c.copy-2.ensures c.write.ensures c.write-2.ensures in (
      put
          ∙ ap₂ (λ (x y : List ℕ). splice (splice a.out.now a.place.at x) a.place.entry (y ++ le_bytes 4 a.place.at ++ le_bytes 4 (length x)))
          c.chunk_at-chunk.ensures.0 c.key_at-key.ensures,
      refl,
      ap (λ (n : ℕ). a.place.at + n) (chunk-long at),
    )
