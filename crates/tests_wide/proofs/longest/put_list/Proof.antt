-- `put_list` is safe and ends. Assumes nothing.
use borrow.Author.Rules.{rules}
use mathlib.Core.Path.{◌≡◌}
use Prim.Native.Nat.{◌≤◌, ◌-◌}
use lib.ListN.{length}
use Rattle.tests_wide.proofs.longest.put_list.Statement.{statement}
use Rattle.tests_wide.proofs.longest.put_list.Tie as tie

abbrev invariant-loop : tie.invariant-loop-i
invariant-loop out₀ n i₀ out i =
    (i ≤ n) × (length out ≡ length out₀)

abbrev decreases-loop : tie.decreases-loop-i
decreases-loop out₀ n i₀ out i =
    n - i

loop-holds : tie.Need-loop-i-init invariant-loop decreases-loop
loop-holds c = search rules

put-row-requires : tie.Need-put_row-requires invariant-loop decreases-loop
put-row-requires c κs = search rules

add-i : tie.Need-overflow_step-i invariant-loop decreases-loop
add-i c = search rules

loop-less : tie.Need-loop-i-smaller invariant-loop decreases-loop
loop-less c = search rules

loop-again : tie.Need-loop-i-preserved invariant-loop decreases-loop
loop-again c = search rules

same_length : tie.Need-shape_of-out invariant-loop decreases-loop
same_length c = search rules

returns : tie.Need-returns invariant-loop decreases-loop
returns c = search rules

pub put_list_spec : {M : Type 1} → statement M
put_list_spec = tie.close (tie.spec
    invariant-loop
    decreases-loop
    loop-holds
    put-row-requires
    add-i
    loop-less
    loop-again
    same_length
    returns)
