-- After i turns the lines of the other occurrences are still to come.
use Rattle.std.proofs.Common.{◌*◌, ◌-◌}
use Rattle.spec.proofs.Writing.{Going}
use Rattle.output.specs.Lines.{rows_text}
use Rattle.output.proofs.put_rows.Given as goal

abbrev pub invariant-loop-i : goal.invariant-loop-i
invariant-loop-i l =
    Going l.initial.out l.out l.at l.place (rows_text l.list l.count 0) (rows_text l.list (l.count - l.i) (9 * l.i))
