use Rattle.std.proofs.Common.{◌≡◌, List, ℕ, ◌+◌, ◌*◌, ◌<◌, ◌≤◌, length, get_or, refl, ap, ◌∙◌, arith}
use mathlib.Core.Path.{ap₂}
use mathlib.Core.Bool.{Bool, false}
use lib.ListN.{length-append}
use Rattle.spec.specs.Bytes.{splice}
use Rattle.spec.specs.Store.{Chunk, chunk_count}
use Rattle.compact.specs.Marking.{marked_at, marked_from, chunk_bytes}
use Rattle.compact.proofs.Marked.{marked_step, bytes-append}
use Rattle.compact.proofs.Writing.{directory_left, bytes_left, regions-start, regions-turn, regions-end}
use Rattle.compact.proofs.put_chunks.Goals.{In-loop-k}
use Rattle.compact.proofs.put_chunks.Goals as goal

-- in a turn: the entry is there, and the chunk that it may have has room
module _ (c : In-loop-k) where
  abbrev store : List ℕ
  store = c.args.store.now

  abbrev marks : List Bool
  marks = c.args.marks.now

  abbrev k : ℕ
  k = c.loop-k.k

  abbrev here : List Chunk
  here = marked_at store (get_or marks k false) k

  within : k < chunk_count store
  within = omega (arith, c.loop-k-test.true, c.requires.marked.counts)

  -- what is left is the entry's own and what is behind it
  split-count : length (marked_from store marks k) ≡ length here + length (marked_from store marks (k + 1))
  split-count = ap length (marked_step store marks k within) ∙ length-append here (marked_from store marks (k + 1))

  split-bytes : length (bytes_left store marks k) ≡ length (chunk_bytes here) + length (bytes_left store marks (k + 1))
  split-bytes =
      ap (λ (cs : List Chunk). length (chunk_bytes cs)) (marked_step store marks k within)
      ∙ ap length (bytes-append here (marked_from store marks (k + 1)))
      ∙ length-append (chunk_bytes here) (bytes_left store marks (k + 1))

  before : c.loop-k.place.entry + 28 * length (marked_from store marks k) ≤ c.loop-k.place.at
  before = omega (arith, c.loop-k.invariant.directory, c.loop-k.invariant.behind)

  room : c.loop-k.place.at + length (chunk_bytes here) ≤ length c.loop-k.out
  room = omega (arith, c.loop-k.auto.out, c.loop-k.invariant.chunks, split-bytes, c.requires.room)

pub loop-k-init : goal.loop-k-init
loop-k-init c =
    let a = c.args in
    record {
      directory = omega (arith, c.requires.number);
      behind = omega arith;
      chunks = refl;
      whole = regions-start a.store.now a.marks.now c.requires.marked.checked a.out.now a.n c.requires.number (omega (arith, c.requires.room));
    }

pub put_marked-place-requires : goal.put_marked-place-requires
put_marked-place-requires c =
    let t = (goal.at.put_marked-place-requires c).In-loop-k in
    record { checked = c.requires.marked.checked; within = within t; before = omega (arith, before t, split-count t); room = room t }

pub loop-k-preserved : goal.loop-k-preserved
loop-k-preserved c =
    let t = (goal.at.loop-k-preserved c).In-loop-k in
    let l = c.loop-k in
    let e = c.put_marked-place.ensures in
    let turn = regions-turn c.args.store.now c.args.marks.now c.requires.marked.checked l.k l.place.at l.place.entry (within t)
    l.out c.put_marked-place.new.out _ (before t) (room t) e.0 l.invariant.whole in
    record {
      directory = omega (arith, e.1, l.invariant.directory, split-count t);
      behind = omega (arith, e.2, l.invariant.behind);
      chunks = omega (arith, e.2, l.invariant.chunks, split-bytes t);
      whole = ap₂ (λ (d b : ℕ).
          splice (splice c.put_marked-place.new.out d (directory_left (store t) (marks t) b (l.k + 1))) b (bytes_left (store t) (marks t) (l.k + 1)))
          e.1 e.2
          ∙ turn;
    }

pub returns : goal.returns
returns c =
    let l = c.loop-k in
    regions-end c.args.store.now c.args.marks.now c.requires.marked.checked l.out _ l.place.entry l.place.at l.k
    (omega (arith, c.loop-k-test.false, c.requires.marked.counts)) l.invariant.whole
