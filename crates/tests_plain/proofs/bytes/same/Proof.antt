-- `same` is safe and ends. Assumes nothing.
use Rattle.std.proofs.Common.{◌-◌, ◌≤◌, rules}
use Rattle.tests_plain.proofs.bytes.same.Statement.{statement}
use Rattle.tests_plain.proofs.bytes.same.Tie as tie

abbrev invariant-loop : tie.invariant-loop-i
invariant-loop a at b bt n i₀ i = (i ≤ n)

abbrev decreases-loop : tie.decreases-loop-i
decreases-loop a at b bt n i₀ i = n - i

loop-holds : tie.Need-loop-i-init invariant-loop decreases-loop
loop-holds c = search rules

plus-requires : tie.Need-plus-requires invariant-loop decreases-loop
plus-requires c κs = search rules

get-requires : tie.Need-get-requires invariant-loop decreases-loop
get-requires c κs = search rules

plus-requires-2 : tie.Need-plus-requires-in-loop-i invariant-loop decreases-loop
plus-requires-2 c κs = search rules

get-requires-2 : tie.Need-get-requires-in-loop-i invariant-loop decreases-loop
get-requires-2 c κs = search rules

returns : tie.Need-returns-then-get invariant-loop decreases-loop
returns c = search rules

add-i : tie.Need-overflow_step-i invariant-loop decreases-loop
add-i c = search rules

loop-less : tie.Need-loop-i-smaller invariant-loop decreases-loop
loop-less c = search rules

loop-again : tie.Need-loop-i-preserved invariant-loop decreases-loop
loop-again c = search rules

returns-2 : tie.Need-returns invariant-loop decreases-loop
returns-2 c = search rules

pub same_spec : {M : Type 1} → statement M
same_spec = tie.close (tie.spec
    invariant-loop
    decreases-loop
    loop-holds
    plus-requires
    get-requires
    plus-requires-2
    get-requires-2
    returns
    add-i
    loop-less
    loop-again
    returns-2)
