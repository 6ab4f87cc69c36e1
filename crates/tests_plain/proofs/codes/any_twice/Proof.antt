-- `any_twice` is safe and ends. Assumes nothing.
use Rattle.std.proofs.Common.{◌-◌, ◌≤◌, rules}
use Rattle.tests_plain.proofs.codes.any_twice.Statement.{statement}
use Rattle.tests_plain.proofs.codes.any_twice.Tie as tie

abbrev invariant-loop : tie.invariant-loop-e
invariant-loop s n e₀ e =
    (e ≤ n)

abbrev decreases-loop : tie.decreases-loop-e
decreases-loop s n e₀ e =
    n - e

loop-holds : tie.Need-loop-e-init invariant-loop decreases-loop
loop-holds c = search rules

entry-at-requires : tie.Need-entry_at-at-requires invariant-loop decreases-loop
entry-at-requires c κs = search rules

part-requires : tie.Need-part-requires invariant-loop decreases-loop
part-requires c κs = search rules

entry-of-requires : tie.Need-entry_of-requires invariant-loop decreases-loop
entry-of-requires c κs = search rules

returns : tie.Need-returns-then-entry_of-at invariant-loop decreases-loop
returns c = search rules

add-e : tie.Need-overflow_step-e invariant-loop decreases-loop
add-e c = search rules

loop-less : tie.Need-loop-e-smaller invariant-loop decreases-loop
loop-less c = search rules

loop-again : tie.Need-loop-e-preserved invariant-loop decreases-loop
loop-again c = search rules

returns-2 : tie.Need-returns invariant-loop decreases-loop
returns-2 c = search rules

pub any_twice_spec : {M : Type 1} → statement M
any_twice_spec = tie.close (tie.spec
    invariant-loop
    decreases-loop
    loop-holds
    entry-at-requires
    part-requires
    entry-of-requires
    returns
    add-e
    loop-less
    loop-again
    returns-2)
