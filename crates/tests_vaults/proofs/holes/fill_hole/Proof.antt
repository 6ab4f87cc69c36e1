-- `fill_hole` is safe and ends. Assumes nothing.
use borrow.Author.Rules.{rules}
use mathlib.Core.Path.{◌≡◌}
use Prim.Native.Nat.{◌≤◌, ◌-◌}
use lib.ListN.{length}
use Rattle.tests_vaults.proofs.holes.fill_hole.Statement.{statement}
use Rattle.tests_vaults.proofs.holes.fill_hole.Tie as tie

abbrev invariant-loop : tie.invariant-loop-i
invariant-loop out₀ at size m k first i₀ out i = (i ≤ size) × (length out ≡ length out₀)

abbrev decreases-loop : tie.decreases-loop-i
decreases-loop out₀ at size m k first i₀ out i = size - i

loop-holds : tie.Need-loop-i-init invariant-loop decreases-loop
loop-holds c = search rules

plus-requires : tie.Need-plus-requires invariant-loop decreases-loop
plus-requires c κs = search rules

letter-requires : tie.Need-letter-requires invariant-loop decreases-loop
letter-requires c κs = search rules

num-requires : tie.Need-num-requires invariant-loop decreases-loop
num-requires c κs = search rules

plus-requires-2 : tie.Need-plus-b-requires invariant-loop decreases-loop
plus-requires-2 c κs = search rules

plus-requires-3 : tie.Need-plus-requires-in-loop-i invariant-loop decreases-loop
plus-requires-3 c κs = search rules

cast-put : tie.Need-overflow_cast-b invariant-loop decreases-loop
cast-put c = search rules

put-requires : tie.Need-put-requires invariant-loop decreases-loop
put-requires c κs = search rules

add-i : tie.Need-overflow_step-i invariant-loop decreases-loop
add-i c = search rules

loop-less : tie.Need-loop-i-smaller invariant-loop decreases-loop
loop-less c = search rules

loop-again : tie.Need-loop-i-preserved invariant-loop decreases-loop
loop-again c = search rules

same_length : tie.Need-shape_of-out invariant-loop decreases-loop
same_length c = search rules

returns : tie.Need-returns invariant-loop decreases-loop
returns c = search rules

pub fill_hole_spec : {M : Type 1} → statement M
fill_hole_spec = tie.close (tie.spec
    invariant-loop
    decreases-loop
    loop-holds
    plus-requires
    letter-requires
    num-requires
    plus-requires-2
    plus-requires-3
    cast-put
    put-requires
    add-i
    loop-less
    loop-again
    same_length
    returns)
