-- `put_rows` is safe and ends. Assumes nothing.
use borrow.Author.Rules.{rules}
use mathlib.Core.Path.{◌≡◌}
use Prim.Native.Nat.{◌≤◌, ◌-◌}
use lib.ListN.{length}
use Rattle.tests_outputs.proofs.border.put_rows.Statement.{statement}
use Rattle.tests_outputs.proofs.border.put_rows.Tie as tie

abbrev invariant-loop : tie.invariant-loop-row
invariant-loop f₀ n first step offset₀ row₀ f offset row = (row ≤ n) × (length f ≡ length f₀)

abbrev decreases-loop : tie.decreases-loop-row
decreases-loop f₀ n first step offset₀ row₀ f offset row = n - row

loop-holds : tie.Need-loop-row-init invariant-loop decreases-loop
loop-holds c = search rules

put-row-requires : tie.Need-put_row-requires invariant-loop decreases-loop
put-row-requires c κs = search rules

plus-requires : tie.Need-plus-offset-requires invariant-loop decreases-loop
plus-requires c κs = search rules

add_row : tie.Need-overflow_step-row invariant-loop decreases-loop
add_row c = search rules

loop-less : tie.Need-loop-row-smaller invariant-loop decreases-loop
loop-less c = search rules

loop-again : tie.Need-loop-row-preserved invariant-loop decreases-loop
loop-again c = search rules

put-4-requires : tie.Need-put_4-requires invariant-loop decreases-loop
put-4-requires c κs = search rules

same_length : tie.Need-shape_of-f invariant-loop decreases-loop
same_length c = search rules

returns : tie.Need-returns invariant-loop decreases-loop
returns c = search rules

pub put_rows_spec : {M : Type 1} → statement M
put_rows_spec = tie.close (tie.spec
    invariant-loop
    decreases-loop
    loop-holds
    put-row-requires
    plus-requires
    add_row
    loop-less
    loop-again
    put-4-requires
    same_length
    returns)
