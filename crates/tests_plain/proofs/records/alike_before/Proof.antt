-- `alike_before` is safe and ends. Assumes nothing.
use Rattle.std.proofs.Common.{◌-◌, ◌≤◌, rules}
use Rattle.tests_plain.proofs.records.alike_before.Statement.{statement}
use Rattle.tests_plain.proofs.records.alike_before.Tie as tie

abbrev invariant-loop : tie.invariant-loop-j
invariant-loop m k j₀ j = (j ≤ k)

abbrev decreases-loop : tie.decreases-loop-j
decreases-loop m k j₀ j = k - j

loop-holds : tie.Need-loop-j-init invariant-loop decreases-loop
loop-holds c = search rules

two-alike-requires : tie.Need-two_alike-requires invariant-loop decreases-loop
two-alike-requires c κs = search rules

returns : tie.Need-returns-then-two_alike invariant-loop decreases-loop
returns c = search rules

add-j : tie.Need-overflow_step-j invariant-loop decreases-loop
add-j c = search rules

loop-less : tie.Need-loop-j-smaller invariant-loop decreases-loop
loop-less c = search rules

loop-again : tie.Need-loop-j-preserved invariant-loop decreases-loop
loop-again c = search rules

returns-2 : tie.Need-returns invariant-loop decreases-loop
returns-2 c = search rules

pub alike_before_spec : {M : Type 1} → statement M
alike_before_spec = tie.close (tie.spec
    invariant-loop
    decreases-loop
    loop-holds
    two-alike-requires
    returns
    add-j
    loop-less
    loop-again
    returns-2)
