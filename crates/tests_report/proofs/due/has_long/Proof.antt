-- `has_long` is safe and ends. Assumes nothing.
use Rattle.std.proofs.Common.{◌-◌, ◌≤◌, rules}
use Rattle.tests_report.proofs.due.has_long.Statement.{statement}
use Rattle.tests_report.proofs.due.has_long.Tie as tie

abbrev invariant-loop : tie.invariant-loop-c
invariant-loop f n size c₀ c = (c ≤ n)

abbrev decreases-loop : tie.decreases-loop-c
decreases-loop f n size c₀ c = n - c

loop-holds : tie.Need-loop-c-init invariant-loop decreases-loop
loop-holds c = search rules

store-entry-requires : tie.Need-store_entry-requires invariant-loop decreases-loop
store-entry-requires c κs = search rules

plus-requires : tie.Need-plus-requires invariant-loop decreases-loop
plus-requires c κs = search rules

get-4-requires : tie.Need-get_4-requires invariant-loop decreases-loop
get-4-requires c κs = search rules

returns : tie.Need-returns-then-size-get_4 invariant-loop decreases-loop
returns c = search rules

add-c : tie.Need-overflow_step-c invariant-loop decreases-loop
add-c c = search rules

loop-less : tie.Need-loop-c-smaller invariant-loop decreases-loop
loop-less c = search rules

loop-again : tie.Need-loop-c-preserved invariant-loop decreases-loop
loop-again c = search rules

returns-2 : tie.Need-returns invariant-loop decreases-loop
returns-2 c = search rules

pub has_long_spec : {M : Type 1} → statement M
has_long_spec = tie.close (tie.spec
    invariant-loop
    decreases-loop
    loop-holds
    store-entry-requires
    plus-requires
    get-4-requires
    returns
    add-c
    loop-less
    loop-again
    returns-2)
