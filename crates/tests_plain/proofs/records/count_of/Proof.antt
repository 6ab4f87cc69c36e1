-- `count_of` is safe and ends. Assumes nothing.
use Rattle.std.proofs.Common.{◌-◌, ◌≤◌, rules}
use Rattle.tests_plain.proofs.records.count_of.Statement.{statement}
use Rattle.tests_plain.proofs.records.count_of.Tie as tie

abbrev invariant-loop : tie.invariant-loop-p
invariant-loop m c k size n₀ p₀ n p = (p ≤ size)

abbrev decreases-loop : tie.decreases-loop-p
decreases-loop m c k size n₀ p₀ n p = size - p

loop-holds : tie.Need-loop-p-init invariant-loop decreases-loop
loop-holds c = search rules

is-marked-requires : tie.Need-is_marked-requires invariant-loop decreases-loop
is-marked-requires c κs = search rules

cast-plus : tie.Need-overflow_cast-is_marked invariant-loop decreases-loop
cast-plus c = search rules

plus-requires : tie.Need-plus-n-requires invariant-loop decreases-loop
plus-requires c κs = search rules

add-p : tie.Need-overflow_step-p invariant-loop decreases-loop
add-p c = search rules

loop-less : tie.Need-loop-p-smaller invariant-loop decreases-loop
loop-less c = search rules

loop-again : tie.Need-loop-p-preserved invariant-loop decreases-loop
loop-again c = search rules

returns : tie.Need-returns invariant-loop decreases-loop
returns c = search rules

pub count_of_spec : {M : Type 1} → statement M
count_of_spec = tie.close (tie.spec
    invariant-loop
    decreases-loop
    loop-holds
    is-marked-requires
    cast-plus
    plus-requires
    add-p
    loop-less
    loop-again
    returns)
