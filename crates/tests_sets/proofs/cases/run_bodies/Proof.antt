-- `run_bodies` is safe and ends. Assumes nothing.
use Rattle.std.proofs.Common.{◌≡◌, ◌-◌, ◌≤◌, length, rules}
use Rattle.tests_sets.proofs.cases.run_bodies.Statement.{statement}
use Rattle.tests_sets.proofs.cases.run_bodies.Tie as tie

abbrev invariant-loop : tie.invariant-loop-i
invariant-loop counts₀ form n i₀ counts i =
    (i ≤ n) × (length counts ≡ length counts₀)

abbrev decreases-loop : tie.decreases-loop-i
decreases-loop counts₀ form n i₀ counts i =
    n - i

loop-holds : tie.Need-loop-i-init invariant-loop decreases-loop
loop-holds c = search rules

run-body-requires : tie.Need-run_body-requires invariant-loop decreases-loop
run-body-requires c κs = search rules

add-i : tie.Need-overflow_step-i invariant-loop decreases-loop
add-i c = search rules

loop-less : tie.Need-loop-i-smaller invariant-loop decreases-loop
loop-less c = search rules

loop-again : tie.Need-loop-i-preserved invariant-loop decreases-loop
loop-again c = search rules

same_length : tie.Need-shape_of-counts invariant-loop decreases-loop
same_length c = search rules

returns : tie.Need-returns invariant-loop decreases-loop
returns c = search rules

pub run_bodies_spec : {M : Type 1} → statement M
run_bodies_spec = tie.close (tie.spec
    invariant-loop
    decreases-loop
    loop-holds
    run-body-requires
    add-i
    loop-less
    loop-again
    same_length
    returns)
