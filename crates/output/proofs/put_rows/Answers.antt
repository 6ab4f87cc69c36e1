-- After i turns the lines of the other occurrences are still to come.
use Rattle.std.proofs.Common.{arith, ◌≡◌, [], ◌+◌, ◌*◌, ℕ, ◌-◌, List}
use Rattle.spec.proofs.Writing.{Going, going_start, going-room, going_on, going_end, going-place}
use Rattle.output.specs.Lines.{row_text, rows_text}
use Rattle.output.proofs.Texts.{rows_more, rows_end}
use Rattle.output.proofs.put_rows.Goals as goal

start : (out : List ℕ) (at : ℕ) (list : List ℕ) (count : ℕ) → Going out out at at (rows_text list count 0) (rows_text list (count - 0) 0)
start out at list count = let z : count - 0 ≡ count = omega arith in rw z (going_start out at (rows_text list count 0))

pub loop-i-init : goal.loop-i-init
loop-i-init c = start c.args.out.now c.args.at c.args.list.now c.args.count

pub put_row-place-requires : goal.put_row-place-requires
put_row-place-requires c = (
  omega (arith, c.requires.0, c.loop-i-test.true),
  going-room c.args.out.now c.loop-i.out c.args.at c.loop-i.place
      (rows_text c.args.list.now c.args.count 0) (rows_text c.args.list.now (c.args.count - c.loop-i.i) (9 * c.loop-i.i)) c.loop-i.invariant
      (row_text c.args.list.now (9 * c.loop-i.i)) (rows_text c.args.list.now (c.args.count - (c.loop-i.i + 1)) (9 * (c.loop-i.i + 1)))
      c.requires.1 (rows_more c.args.list.now c.args.count c.loop-i.i c.loop-i-test.true),
)

pub loop-i-preserved : goal.loop-i-preserved
loop-i-preserved c =
    going_on c.args.out.now c.loop-i.out c.args.at c.loop-i.place
    (rows_text c.args.list.now c.args.count 0) (rows_text c.args.list.now (c.args.count - c.loop-i.i) (9 * c.loop-i.i)) c.loop-i.invariant
    c.put_row-place.new.out (row_text c.args.list.now (9 * c.loop-i.i))
    (rows_text c.args.list.now (c.args.count - (c.loop-i.i + 1)) (9 * (c.loop-i.i + 1))) c.put_row-place.result
    c.requires.1 (rows_more c.args.list.now c.args.count c.loop-i.i c.loop-i-test.true)
    c.put_row-place.ensures.0 c.put_row-place.ensures.1

pub returns : goal.returns
returns c =
    let z : rows_text c.args.list.now (c.args.count - c.loop-i.i) (9 * c.loop-i.i) ≡ [] =
    rows_end c.args.list.now c.args.count c.loop-i.i (omega (arith, c.loop-i-test.false)) in (
      going-place c.args.out.now c.loop-i.out c.args.at c.loop-i.place
          (rows_text c.args.list.now c.args.count 0) (rows_text c.args.list.now (c.args.count - c.loop-i.i) (9 * c.loop-i.i)) c.loop-i.invariant z,
      going_end c.args.out.now c.loop-i.out c.args.at c.loop-i.place
          (rows_text c.args.list.now c.args.count 0) (rows_text c.args.list.now (c.args.count - c.loop-i.i) (9 * c.loop-i.i)) c.loop-i.invariant z,
    )
