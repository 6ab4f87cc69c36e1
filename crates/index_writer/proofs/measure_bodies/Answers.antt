use Rattle.std.proofs.Common.{◌≡◌, ◌+◌, ◌≤◌, ◌<◌, length, ap, ◌∙◌, arith}
use Rattle.spec.specs.Bytes.{splice}
use Rattle.spec.specs.Store.{chunk_count, chunk_at}
use Rattle.spec.specs.Form.{newest}
use Rattle.spec.specs.Scan.{scan_body}
use Rattle.spec.proofs.StoreLaws.{store-good}
use Rattle.chunkwalk.specs.Marks.{chunk_moves, mark_of}
use Rattle.chunkwalk.proofs.Walking.{equipped-on, measured-size, measured-moves, measured-mark}
use Rattle.index_writer.specs.Layout.{bodies_from}
use Rattle.index_writer.proofs.Parts.{bodies-length, bodies-end, bodies-most, body-short}
use Rattle.index_writer.proofs.Moves.{moves_at, moves-all, moves-step, moves-end, moves-most}
use Rattle.index_writer.proofs.MarkLaws.{marks_left, marks-all, marks-turn, marks-end}
use Rattle.index_writer.proofs.measure_bodies.Goals as goal
use Rattle.index_writer.proofs.measure_bodies.Goals.{In-loop-j, After-chunk_at-chunk, After-measure-m}

-- in a turn there is such a chunk
within : (c : In-loop-j) → c.loop-j.j < chunk_count c.args.store.now
within c = omega (arith, c.loop-j-test.true, c.requires.walks.counted)

few : (c : In-loop-j) → c.loop-j.j < 65000
few c = omega (arith, within c, (store-good c.args.store.now c.requires.walks.checked).few)

-- the chunk is short
short : (c : After-chunk_at-chunk) → length c.chunk_at-chunk.result.now ≤ 1048576
short c =
    let a = c.args in
    let machine = a.machine.now in
    let w = c.requires.walks in
    let k : c.loop-j.j < chunk_count a.store.now = omega (arith, c.loop-j-test.true, w.counted) in
    omega (arith, ap length c.chunk_at-chunk.ensures.0, body-short machine.list.now a.store.now w.checked w.reads.accepted c.loop-j.j k)

pub measure-m-requires : goal.measure-m-requires
measure-m-requires c =
    let l = c.loop-j.auto in
    (equipped-on c.requires.equipped l.log l.run1 l.run2 l.run3, short (goal.at.measure-m-requires c).After-chunk_at-chunk)

-- what measuring said of the chunk, by its place in the store
module _ (c : After-measure-m) where
  size_is : c.measure-m.result.size ≡ length (scan_body newest c.args.machine.now.list.now (chunk_at c.args.store.now c.loop-j.j))
  size_is =
      measured-size c.args.machine.now.list.now c.chunk_at-chunk.result.now c.measure-m.result c.measure-m.ensures
      ∙ ap (λ chunk. length (scan_body newest c.args.machine.now.list.now chunk)) c.chunk_at-chunk.ensures.0

  moves-is : c.measure-m.result.moves ≡ moves_at c.args.machine.now.list.now c.args.store.now c.loop-j.j
  moves-is =
      measured-moves c.args.machine.now.list.now c.chunk_at-chunk.result.now c.measure-m.result c.measure-m.ensures
      ∙ ap (chunk_moves c.args.machine.now.list.now) c.chunk_at-chunk.ensures.0

  mark-is : c.measure-m.result.mark ≡ mark_of c.args.machine.now.list.now (chunk_at c.args.store.now c.loop-j.j)
  mark-is =
      measured-mark c.args.machine.now.list.now c.chunk_at-chunk.result.now c.measure-m.result c.measure-m.ensures
      ∙ ap (mark_of c.args.machine.now.list.now) c.chunk_at-chunk.ensures.0

  moves-few : length c.chunk_at-chunk.result.now ≤ 1048576 → c.measure-m.result.moves ≤ 2097152
  moves-few h =
      omega (
        arith,
        measured-moves c.args.machine.now.list.now c.chunk_at-chunk.result.now c.measure-m.result c.measure-m.ensures,
        moves-most c.args.machine.now.list.now c.args.store.now c.chunk_at-chunk.result.now h,
      )

  -- the body measured is the first of those left
  step : c.loop-j.j < chunk_count c.args.store.now → length (bodies_from newest c.args.machine.now.list.now c.args.store.now c.loop-j.j)
      ≡ c.measure-m.result.size + length (bodies_from newest c.args.machine.now.list.now c.args.store.now (c.loop-j.j + 1))
  step h = omega (arith, size_is, bodies-length newest c.args.machine.now.list.now c.args.store.now c.loop-j.j h)

pub overflow_add-size : goal.overflow_add-size
overflow_add-size c =
    let a = c.args in
    let machine = a.machine.now in
    let w = c.requires.walks in
    let g = goal.at.overflow_add-size c in
    let most = bodies-most machine.list.now a.store.now w.checked w.reads.accepted in
    omega (arith, step g.After-measure-m (within g.In-loop-j), c.loop-j.invariant.size, most, (store-good a.store.now w.checked).few)

pub overflow_add-moves : goal.overflow_add-moves
overflow_add-moves c =
    let g = goal.at.overflow_add-moves c in
    omega (arith, moves-few g.After-measure-m (short g.After-chunk_at-chunk), c.loop-j.invariant.most, few g.In-loop-j)

pub offset_bounds-marks-j : goal.offset_bounds-marks-j
offset_bounds-marks-j c = omega (arith, few (goal.at.offset_bounds-marks-j c).In-loop-j)

pub bounds-marks-j : goal.bounds-marks-j
bounds-marks-j c = omega (arith, few (goal.at.bounds-marks-j c).In-loop-j, c.requires.long)

pub loop-j-preserved : goal.loop-j-preserved
loop-j-preserved c =
    let a = c.args in
    let machine = a.machine.now in
    let l = c.loop-j in
    let g = goal.at.loop-j-preserved c in
    let i = g.In-loop-j in
    let m = g.After-measure-m in
    record {
      size = omega (arith, step m (within i), l.invariant.size);
      moves = omega (arith, moves-is m, moves-step a.store.now (moves_at machine.list.now a.store.now) l.j (within i), l.invariant.moves);
      most = omega (arith, moves-few m (short g.After-chunk_at-chunk), l.invariant.most);
      marks = marks-turn machine.list.now a.store.now l.marks (splice a.marks.now 0 (marks_left machine.list.now a.store.now 0)) l.j c.measure-m.result.mark
          (within i) (omega (arith, few i, c.requires.long)) (mark-is m) l.invariant.marks;
    }

pub returns : goal.returns
returns c =
    let a = c.args in
    let machine = a.machine.now in
    let l = c.loop-j in
    let all : chunk_count a.store.now ≤ l.j = omega (arith, c.loop-j-test.false, c.requires.walks.counted) in (
      omega (arith, l.invariant.size, ap length (bodies-end newest machine.list.now a.store.now l.j all)),
      omega (arith, l.invariant.moves, moves-end a.store.now (moves_at machine.list.now a.store.now) l.j all, moves-all machine.list.now a.store.now),
      marks-end machine.list.now a.store.now l.marks _ l.j all l.invariant.marks ∙ ap (splice a.marks.now 0) (marks-all machine.list.now a.store.now),
    )
