use Rattle.std.proofs.Common.{◌≡◌, ℕ, ◌+◌, ◌*◌, ◌-◌, ◌≤◌, ◌<◌, length, get_or, refl, ap, ◌∙◌, zero-add, arith}
use borrow.Rule.Slice.PartMut.{same_len_mid, put_mid}
use Rattle.spec.specs.Bytes.{splice}
use Rattle.spec.specs.Store.{chunk_count}
use Rattle.spec.specs.Form.{newest}
use Rattle.spec.specs.Scan.{scan_body}
use Rattle.spec.proofs.StoreLaws.{store-good, store-key-length}
use Rattle.records.proofs.Beginning.{part_room}
use Rattle.chunkwalk.specs.Marks.{walked_moves}
use Rattle.chunkwalk.proofs.Walking.{equipped-on, written-size, written-moves}
use Rattle.index_writer.specs.Layout.{tail_bytes}
use Rattle.index_writer.proofs.Parts.{body, bodies-length, bodies-end, body-short, index-length}
use Rattle.index_writer.proofs.Turns.{regions-start, regions-turn, regions-end}
use Rattle.index_writer.proofs.Moves.{written_at, written_all, moves-step, moves-end, written-most}
use Rattle.index_writer.proofs.put_entries.Goals as goal
use Rattle.index_writer.proofs.put_entries.Goals.{In-loop-k, After-chunk_at-chunk, After-put-w}

pub loop-k-init : goal.loop-k-init
loop-k-init c =
    let a = c.args in
    let machine = a.machine.now in
    let w = c.requires.measures.walks in
    record {
      behind = omega arith;
      place = refl;
      bytes = regions-start machine.list.now a.store.now w.checked a.out.now a.count w.counted (omega (arith, c.requires.room));
      moves = zero-add _;
      most = omega arith;
    }

-- in a turn there is such a chunk, and its body and entry have room
module _ (i : In-loop-k) where
  within : i.loop-k.k < chunk_count i.args.store.now
  within = omega (arith, i.loop-k-test.true, i.requires.measures.walks.counted)

  few : i.loop-k.k < 65000
  few = omega (arith, within, (store-good i.args.store.now i.requires.measures.walks.checked).few)

  room : i.loop-k.at + length (body newest i.args.machine.now.list.now i.args.store.now i.loop-k.k) ≤ length i.loop-k.out
  room = omega (arith, bodies-length newest i.args.machine.now.list.now i.args.store.now i.loop-k.k within, i.loop-k.invariant.place, i.requires.room)

  entry-room : 8 + length i.args.machine.now.list.now + 32 * i.loop-k.k + 32 ≤ length i.loop-k.out
  entry-room = omega (arith, room, i.loop-k-test.true, i.loop-k.invariant.behind)

-- the chunk is short
short : (c : After-chunk_at-chunk) → length c.chunk_at-chunk.result.now ≤ 1048576
short c =
    let a = c.args in
    let machine = a.machine.now in
    let w = c.requires.measures.walks in
    let k : c.loop-k.k < chunk_count a.store.now = omega (arith, c.loop-k-test.true, w.counted) in
    omega (arith, ap length c.chunk_at-chunk.ensures.0, body-short machine.list.now a.store.now w.checked w.reads.accepted c.loop-k.k k)

pub bounds-marks-k : goal.bounds-marks-k
bounds-marks-k c = omega (arith, few (goal.at.bounds-marks-k c).In-loop-k, c.requires.measures.long)

pub put-w-requires : goal.put-w-requires
put-w-requires c =
    let g = goal.at.put-w-requires c in
    let p = c.loop-k in
    let e = c.chunk_at-chunk.ensures.0 in (
      equipped-on c.requires.measures.equipped p.auto.log p.auto.run1 p.auto.run2 p.auto.run3,
      short g.After-chunk_at-chunk,
      λ z. rw e (c.requires.usable p.k (within g.In-loop-k) z),
      part_room p.out p.at _ (omega (arith, ap (λ chunk. length (scan_body newest c.args.machine.now.list.now chunk)) e, room g.In-loop-k)),
    )

-- what writing said of the chunk, by its place in the store; the buffer is as long as it was when the part is back
module _ (b : After-put-w) where
  abbrev mark : ℕ
  mark = get_or b.args.marks.now b.loop-k.k 0

  same : let p = b.loop-k in length (put_mid p.at (length p.out - p.at) p.out b.put-w.new.out) ≡ length p.out
  same = let p = b.loop-k in same_len_mid p.at (length p.out - p.at) p.out b.put-w.new.out b.put-w.auto.out

  size_is : b.put-w.result.size ≡ length (scan_body newest b.args.machine.now.list.now b.chunk_at-chunk.result.now)
  size_is = written-size b.args.machine.now.list.now b.chunk_at-chunk.result.now mark b.put-w.result b.put-w.ensures.1

  measured : b.put-w.result.size ≡ length (body newest b.args.machine.now.list.now b.args.store.now b.loop-k.k)
  measured = size_is ∙ ap (λ chunk. length (scan_body newest b.args.machine.now.list.now chunk)) b.chunk_at-chunk.ensures.0

  moves-at : b.put-w.result.moves ≡ walked_moves b.args.machine.now.list.now b.chunk_at-chunk.result.now mark
  moves-at = written-moves b.args.machine.now.list.now b.chunk_at-chunk.result.now mark b.put-w.result b.put-w.ensures.1

  moves-is : b.put-w.result.moves ≡ written_at b.args.machine.now.list.now b.args.store.now b.args.marks.now b.loop-k.k
  moves-is = moves-at ∙ ap (λ chunk. walked_moves b.args.machine.now.list.now chunk mark) b.chunk_at-chunk.ensures.0

  moves-few : length b.chunk_at-chunk.result.now ≤ 1048576 → b.put-w.result.moves ≤ 2097152
  moves-few h = omega (arith, moves-at, written-most b.args.machine.now.list.now b.args.store.now b.chunk_at-chunk.result.now mark h)

pub put_entry-requires : goal.put_entry-requires
put_entry-requires c =
    let g = goal.at.put_entry-requires c in
    let good = store-good c.args.store.now c.requires.measures.walks.checked in
    record {
      long = ap length c.key_at-key.ensures ∙ store-key-length c.args.store.now good c.loop-k.k (within g.In-loop-k);
      room = omega (arith, same g.After-put-w, entry-room g.In-loop-k);
    }

pub overflow_add-at-in-loop-k : goal.overflow_add-at-in-loop-k
overflow_add-at-in-loop-k c =
    let g = goal.at.overflow_add-at-in-loop-k c in
    omega (arith, measured g.After-put-w, room g.In-loop-k)

pub overflow_add-moves : goal.overflow_add-moves
overflow_add-moves c =
    let g = goal.at.overflow_add-moves c in
    omega (arith, moves-few g.After-put-w (short g.After-chunk_at-chunk), c.loop-k.invariant.most, few g.In-loop-k)

pub loop-k-preserved : goal.loop-k-preserved
loop-k-preserved c =
    let a = c.args in
    let machine = a.machine.now in
    let p = c.loop-k in
    let g = goal.at.loop-k-preserved c in
    let i = g.In-loop-k in
    let b = g.After-put-w in
    let whole = splice a.out.now (8 + length machine.list.now) (tail_bytes newest machine.list.now a.store.now) in
    record {
      behind = omega (arith, p.invariant.behind);
      place = omega (arith, measured b, bodies-length newest machine.list.now a.store.now p.k (within i), p.invariant.place);
      bytes = regions-turn machine.list.now a.store.now c.requires.measures.walks.checked p.k p.at (within i)
          c.key_at-key.result.now c.chunk_at-chunk.result.now c.put-w.result.size c.chunk_at-chunk.ensures.0 c.key_at-key.ensures
          p.out c.put-w.new.out c.put_entry.new.out whole
          (omega (arith, p.invariant.behind, c.requires.measures.walks.counted)) (room i)
          c.put-w.ensures.0 (size_is b) c.put_entry.ensures p.invariant.bytes;
      moves = omega (arith, moves-is b, moves-step a.store.now (written_at machine.list.now a.store.now a.marks.now) p.k (within i), p.invariant.moves);
      most = omega (arith, moves-few b (short g.After-chunk_at-chunk), p.invariant.most);
    }

pub returns : goal.returns
returns c =
    let a = c.args in
    let machine = a.machine.now in
    let p = c.loop-k in
    let w = c.requires.measures.walks in
    let all : chunk_count a.store.now ≤ p.k = omega (arith, c.loop-k-test.false, w.counted) in
    let whole = splice a.out.now (8 + length machine.list.now) (tail_bytes newest machine.list.now a.store.now) in (
      regions-end machine.list.now a.store.now w.checked p.out whole p.at p.k all p.invariant.bytes,
      omega (
        arith,
        p.invariant.place,
        ap length (bodies-end newest machine.list.now a.store.now p.k all),
        index-length machine.list.now a.store.now w.checked,
        w.counted,
      ),
      omega (
        arith,
        p.invariant.moves,
        moves-end a.store.now (written_at machine.list.now a.store.now a.marks.now) p.k all,
        written_all machine.list.now a.store.now a.marks.now,
      ),
    )
