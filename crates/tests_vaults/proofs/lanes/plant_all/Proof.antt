-- `plant_all` is safe and ends. Assumes nothing.
use borrow.Author.Rules.{rules}
use mathlib.Core.Path.{◌≡◌}
use Prim.Native.Nat.{◌≤◌, ◌-◌}
use lib.ListN.{length}
use Rattle.tests_vaults.proofs.lanes.plant_all.Statement.{statement}
use Rattle.tests_vaults.proofs.lanes.plant_all.Tie as tie

abbrev invariant-loop : tie.invariant-loop-q
invariant-loop m₀ size seed borders s₀ border₀ q₀ m s border q = (q ≤ borders) × (length m ≡ length m₀)

abbrev decreases-loop : tie.decreases-loop-q
decreases-loop m₀ size seed borders s₀ border₀ q₀ m s border q = borders - q

loop-holds : tie.Need-loop-q-init invariant-loop decreases-loop
loop-holds c = search rules

next-requires : tie.Need-next-s-requires invariant-loop decreases-loop
next-requires c κs = search rules

plant-requires : tie.Need-plant-requires invariant-loop decreases-loop
plant-requires c κs = search rules

plus-requires : tie.Need-plus-border-requires invariant-loop decreases-loop
plus-requires c κs = search rules

add-q : tie.Need-overflow_step-q invariant-loop decreases-loop
add-q c = search rules

loop-less : tie.Need-loop-q-smaller invariant-loop decreases-loop
loop-less c = search rules

loop-again : tie.Need-loop-q-preserved invariant-loop decreases-loop
loop-again c = search rules

same_length : tie.Need-shape_of-m invariant-loop decreases-loop
same_length c = search rules

returns : tie.Need-returns invariant-loop decreases-loop
returns c = search rules

pub plant_all_spec : {M : Type 1} → statement M
plant_all_spec = tie.close (tie.spec
    invariant-loop
    decreases-loop
    loop-holds
    next-requires
    plant-requires
    plus-requires
    add-q
    loop-less
    loop-again
    same_length
    returns)
