-- `put_offsets` is safe and ends. Assumes nothing.
use borrow.Author.Rules.{rules}
use mathlib.Core.Path.{◌≡◌}
use Prim.Native.Nat.{◌≤◌, ◌-◌}
use lib.ListN.{length}
use Rattle.tests_wide.proofs.longest.put_offsets.Statement.{statement}
use Rattle.tests_wide.proofs.longest.put_offsets.Tie as tie

abbrev invariant-loop : tie.invariant-loop-i
invariant-loop out₀ n i₀ out i =
    (i ≤ n) × (length out ≡ length out₀)

abbrev decreases-loop : tie.decreases-loop-i
decreases-loop out₀ n i₀ out i =
    n - i

loop-holds : tie.Need-loop-i-init invariant-loop decreases-loop
loop-holds c = search rules

mul-put-3 : tie.Need-overflow_mul-i invariant-loop decreases-loop
mul-put-3 c = search rules

add-put-3 : tie.Need-overflow_add-i invariant-loop decreases-loop
add-put-3 c = search rules

offset-requires : tie.Need-offset-requires invariant-loop decreases-loop
offset-requires c κs = search rules

put-3-requires : tie.Need-put_3-requires invariant-loop decreases-loop
put-3-requires c κs = search rules

add-i : tie.Need-overflow_step-i invariant-loop decreases-loop
add-i c = search rules

loop-less : tie.Need-loop-i-smaller invariant-loop decreases-loop
loop-less c = search rules

loop-again : tie.Need-loop-i-preserved invariant-loop decreases-loop
loop-again c = search rules

same_length : tie.Need-shape_of-out invariant-loop decreases-loop
same_length c = search rules

returns : tie.Need-returns invariant-loop decreases-loop
returns c = search rules

pub put_offsets_spec : {M : Type 1} → statement M
put_offsets_spec = tie.close (tie.spec
    invariant-loop
    decreases-loop
    loop-holds
    mul-put-3
    add-put-3
    offset-requires
    put-3-requires
    add-i
    loop-less
    loop-again
    same_length
    returns)
