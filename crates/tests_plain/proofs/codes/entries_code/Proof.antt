-- `entries_code` is safe and ends. Assumes nothing.
use Rattle.std.proofs.Common.{◌-◌, ◌≤◌, rules}
use Rattle.tests_plain.proofs.codes.entries_code.Statement.{statement}
use Rattle.tests_plain.proofs.codes.entries_code.Tie as tie

abbrev invariant-loop : tie.invariant-loop-e
invariant-loop s n at₀ e₀ at e =
    (e ≤ n)

abbrev decreases-loop : tie.decreases-loop-e
decreases-loop s n at₀ e₀ at e =
    n - e

entry-at-requires : tie.Need-entry_at-at-requires invariant-loop decreases-loop
entry-at-requires c κs = search rules

loop-holds : tie.Need-loop-e-init invariant-loop decreases-loop
loop-holds c = search rules

entry-at-requires-2 : tie.Need-entry_at-requires invariant-loop decreases-loop
entry-at-requires-2 c κs = search rules

entry-code-requires : tie.Need-entry_code-code-requires invariant-loop decreases-loop
entry-code-requires c κs = search rules

returns : tie.Need-returns-then-code-ne0 invariant-loop decreases-loop
returns c = search rules

entry-at-requires-3 : tie.Need-entry_at-requires-in-loop-e invariant-loop decreases-loop
entry-at-requires-3 c κs = search rules

told-end-requires : tie.Need-told_end-at-requires invariant-loop decreases-loop
told-end-requires c κs = search rules

add-e : tie.Need-overflow_step-e invariant-loop decreases-loop
add-e c = search rules

loop-less : tie.Need-loop-e-smaller invariant-loop decreases-loop
loop-less c = search rules

loop-again : tie.Need-loop-e-preserved invariant-loop decreases-loop
loop-again c = search rules

returns-2 : tie.Need-returns-then-s-at invariant-loop decreases-loop
returns-2 c = search rules

returns-3 : tie.Need-returns-else-s-at invariant-loop decreases-loop
returns-3 c = search rules

pub entries_code_spec : {M : Type 1} → statement M
entries_code_spec = tie.close (tie.spec
    invariant-loop
    decreases-loop
    entry-at-requires
    loop-holds
    entry-at-requires-2
    entry-code-requires
    returns
    entry-at-requires-3
    told-end-requires
    add-e
    loop-less
    loop-again
    returns-2
    returns-3)
