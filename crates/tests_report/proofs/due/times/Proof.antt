-- `times` is safe and ends. Assumes nothing.
use Rattle.std.proofs.Common.{◌-◌, ◌≤◌, rules}
use Rattle.tests_report.proofs.due.times.Statement.{statement}
use Rattle.tests_report.proofs.due.times.Tie as tie

abbrev invariant-loop : tie.invariant-loop-i
invariant-loop a b n₀ i₀ n i = (i ≤ a)

abbrev decreases-loop : tie.decreases-loop-i
decreases-loop a b n₀ i₀ n i = a - i

loop-holds : tie.Need-loop-i-init invariant-loop decreases-loop
loop-holds c = search rules

plus-requires : tie.Need-plus-n-requires invariant-loop decreases-loop
plus-requires c κs = search rules

add-i : tie.Need-overflow_step-i invariant-loop decreases-loop
add-i c = search rules

loop-less : tie.Need-loop-i-smaller invariant-loop decreases-loop
loop-less c = search rules

loop-again : tie.Need-loop-i-preserved invariant-loop decreases-loop
loop-again c = search rules

returns : tie.Need-returns invariant-loop decreases-loop
returns c = search rules

pub times_spec : {M : Type 1} → statement M
times_spec = tie.close (tie.spec
    invariant-loop
    decreases-loop
    loop-holds
    plus-requires
    add-i
    loop-less
    loop-again
    returns)
