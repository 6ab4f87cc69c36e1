-- `print_front` is safe and ends: a part of `room` bytes has that length. Assumes nothing.
use borrow.Author.Rules.{rules}
use mathlib.Core.Path.{sym}
use lib.Seq.{length-take-le}
use Rattle.tests_outputs.proofs.outputs.print_front.Statement.{statement}
use Rattle.tests_outputs.proofs.outputs.print_front.Tie as tie

slice-relend-prefix-print-into : tie.Need-slice_bounds-print_into-end
slice-relend-prefix-print-into c = search rules

slice-aggregate-print-into : tie.Need-slice_bounds-print_into-end-then-room-out
slice-aggregate-print-into c =
    let then = c in
    let a = then.args in
    sym (length-take-le a.room a.out.now then.if-room-out.true)

print-into-requires : tie.Need-print_into-requires
print-into-requires c κs = search rules

same_length : tie.Need-shape_of-counts
same_length c = search rules

same-length-2 : tie.Need-shape_of-out
same-length-2 c = search rules

returns : tie.Need-returns-then-room-out
returns c = search rules

returns-2 : tie.Need-returns-else-room-out
returns-2 c = search rules

pub print_front_spec : {M : Type 1} → statement M
print_front_spec = tie.close (tie.spec
    slice-relend-prefix-print-into
    slice-aggregate-print-into
    print-into-requires
    same_length
    same-length-2
    returns
    returns-2)
