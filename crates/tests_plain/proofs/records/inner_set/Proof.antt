-- `inner_set` is safe and ends. Assumes nothing.
use Rattle.std.proofs.Common.{◌-◌, ◌≤◌, rules}
use Rattle.tests_plain.proofs.records.inner_set.Statement.{statement}
use Rattle.tests_plain.proofs.records.inner_set.Tie as tie

abbrev invariant-loop : tie.invariant-loop-p
invariant-loop m c k n set₀ p₀ set p =
    (p ≤ n)

abbrev decreases-loop : tie.decreases-loop-p
decreases-loop m c k n set₀ p₀ set p =
    n - p

loop-holds : tie.Need-loop-p-init invariant-loop decreases-loop
loop-holds c = search rules

lies-inside-requires : tie.Need-lies_inside-requires invariant-loop decreases-loop
lies-inside-requires c κs = search rules

bit-requires : tie.Need-bit-requires invariant-loop decreases-loop
bit-requires c κs = search rules

plus-requires : tie.Need-plus-set-requires invariant-loop decreases-loop
plus-requires c κs = search rules

add-p : tie.Need-overflow_step-p invariant-loop decreases-loop
add-p c = search rules

loop-less : tie.Need-loop-p-smaller invariant-loop decreases-loop
loop-less c = search rules

loop-again : tie.Need-loop-p-preserved invariant-loop decreases-loop
loop-again c = search rules

returns : tie.Need-returns invariant-loop decreases-loop
returns c = search rules

pub inner_set_spec : {M : Type 1} → statement M
inner_set_spec = tie.close (tie.spec
    invariant-loop
    decreases-loop
    loop-holds
    lies-inside-requires
    bit-requires
    plus-requires
    add-p
    loop-less
    loop-again
    returns)
