-- `all_bodies` is safe and ends. Assumes nothing.
use Rattle.std.proofs.Common.{◌≡◌, ◌-◌, ◌≤◌, length, rules}
use Rattle.tests_sets.proofs.cases.all_bodies.Statement.{statement}
use Rattle.tests_sets.proofs.cases.all_bodies.Tie as tie

abbrev invariant-loop : tie.invariant-loop-form
invariant-loop counts₀ end form₀ counts form =
    (form ≤ end) × (length counts ≡ length counts₀)

abbrev decreases-loop : tie.decreases-loop-form
decreases-loop counts₀ end form₀ counts form =
    end - form

add-end : tie.Need-overflow_add-end invariant-loop decreases-loop
add-end c = search rules

loop-holds : tie.Need-loop-form-init invariant-loop decreases-loop
loop-holds c = search rules

run-bodies-requires : tie.Need-run_bodies-requires invariant-loop decreases-loop
run-bodies-requires c κs = search rules

add-form : tie.Need-overflow_step-form invariant-loop decreases-loop
add-form c = search rules

loop-less : tie.Need-loop-form-smaller invariant-loop decreases-loop
loop-less c = search rules

loop-again : tie.Need-loop-form-preserved invariant-loop decreases-loop
loop-again c = search rules

same_length : tie.Need-shape_of-counts invariant-loop decreases-loop
same_length c = search rules

returns : tie.Need-returns invariant-loop decreases-loop
returns c = search rules

pub all_bodies_spec : {M : Type 1} → statement M
all_bodies_spec = tie.close (tie.spec
    invariant-loop
    decreases-loop
    add-end
    loop-holds
    run-bodies-requires
    add-form
    loop-less
    loop-again
    same_length
    returns)
