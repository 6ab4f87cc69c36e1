-- What crosses a chunk's end, said by request #108's sentence, and by document 01's cell where the next chunk has no set. For all records, also
-- those that no chunk gives. Assumes nothing.
use mathlib.Core.Path.{◌≡◌, refl}
use mathlib.Core.Bool.{Bool, true, false, ◌&&◌, ◌||◌, and-false, or-false}
use mathlib.Core.List.{List, [], ◌∷◌}
use Prim.Native.Nat.{ℕ, ◌+◌, ◌-◌, ◌≤◌, ◌<◌}
use lib.ListN.{length, drop}
use Rattle.spec.specs.Bytes.{begins, in_set}
use Rattle.spec.specs.Records.{ChunkRecords, record_at}
use Rattle.spec.specs.Join.{crosses, starts, ends, goes_on, crosses_into}
use Rattle.spec.proofs.Tests.{leb-false}
use Rattle.spec.proofs.Sets.{none-empty}
use Rattle.spec.proofs.Point.{crosses-split, starts-over}

module _ (w : List ℕ) (k i : ℕ) where
  -- the keyword's first `left` bytes are the last of the recorded prefix, and it goes on in the chunks that follow
  pub crosses-sentence : (rest : List ChunkRecords) (left : ℕ) → i ≤ length w → crosses_into w k i rest left ≡ (starts w i left && goes_on w k left rest)
  unfolding goes_on ends
  crosses-sentence [] left h = rw and-false
  crosses-sentence (next ∷ rest) left h =
      rw (crosses-split w i (record_at next k).suffix left h)
      (distribute (starts w i left) (begins (drop left w) (drop (length w - (record_at next k).suffix) w)) (in_set (record_at next k).inner left && goes_on w k (left + next.size) rest))
    where
      distribute : (a b c : Bool) → ((a && b) || (a && c)) ≡ (a && (b || c))
      distribute true b c = refl
      distribute false b c = refl

  -- where the next chunk has no set, as in a form without sets, the cell says all
  pub crosses-cell : (next : ChunkRecords) (rest : List ChunkRecords) (left : ℕ) → (record_at next k).inner ≡ 0
      → crosses_into w k i (next ∷ rest) left ≡ crosses w i (record_at next k).suffix left
  crosses-cell next rest left e = rw (e, none-empty, and-false, or-false)

  -- nothing starts before the recorded prefix
  pub crosses-over : (rest : List ChunkRecords) (left : ℕ) → i < left → crosses_into w k i rest left ≡ false
  unfolding crosses
  crosses-over [] left h = refl
  crosses-over (next ∷ rest) left h = rw (leb-false left i h, starts-over w i left h)
