-- `entry_of` is safe and ends. Assumes nothing.
use Rattle.std.proofs.Common.{◌-◌, ◌≤◌, rules}
use Rattle.tests_plain.proofs.codes.entry_of.Statement.{statement}
use Rattle.tests_plain.proofs.codes.entry_of.Tie as tie

abbrev invariant-loop : tie.invariant-loop-e
invariant-loop bytes start width n key at₀ e₀ at e =
    (e ≤ n)

abbrev decreases-loop : tie.decreases-loop-e
decreases-loop bytes start width n key at₀ e₀ at e =
    n - e

loop-holds : tie.Need-loop-e-init invariant-loop decreases-loop
loop-holds c = search rules

same-requires : tie.Need-same-requires invariant-loop decreases-loop
same-requires c κs = search rules

returns : tie.Need-returns-then-same invariant-loop decreases-loop
returns c = search rules

plus-requires : tie.Need-plus-at-requires invariant-loop decreases-loop
plus-requires c κs = search rules

add-e : tie.Need-overflow_step-e invariant-loop decreases-loop
add-e c = search rules

loop-less : tie.Need-loop-e-smaller invariant-loop decreases-loop
loop-less c = search rules

loop-again : tie.Need-loop-e-preserved invariant-loop decreases-loop
loop-again c = search rules

returns-2 : tie.Need-returns invariant-loop decreases-loop
returns-2 c = search rules

pub entry_of_spec : {M : Type 1} → statement M
entry_of_spec = tie.close (tie.spec
    invariant-loop
    decreases-loop
    loop-holds
    same-requires
    returns
    plus-requires
    add-e
    loop-less
    loop-again
    returns-2)
