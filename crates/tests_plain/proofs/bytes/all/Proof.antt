-- `all` is safe and ends. Assumes nothing.
use Rattle.std.proofs.Common.{◌-◌, ◌≤◌, rules}
use Rattle.tests_plain.proofs.bytes.all.Statement.{statement}
use Rattle.tests_plain.proofs.bytes.all.Tie as tie

abbrev invariant-loop : tie.invariant-loop-i
invariant-loop s at b n i₀ i = (i ≤ n)

abbrev decreases-loop : tie.decreases-loop-i
decreases-loop s at b n i₀ i = n - i

loop-holds : tie.Need-loop-i-init invariant-loop decreases-loop
loop-holds c = search rules

get-requires : tie.Need-get-requires invariant-loop decreases-loop
get-requires c κs = search rules

returns : tie.Need-returns-then-get-b invariant-loop decreases-loop
returns c = search rules

add-i : tie.Need-overflow_step-i invariant-loop decreases-loop
add-i c = search rules

loop-less : tie.Need-loop-i-smaller invariant-loop decreases-loop
loop-less c = search rules

loop-again : tie.Need-loop-i-preserved invariant-loop decreases-loop
loop-again c = search rules

returns-2 : tie.Need-returns invariant-loop decreases-loop
returns-2 c = search rules

pub all_spec : {M : Type 1} → statement M
all_spec = tie.close (tie.spec
    invariant-loop
    decreases-loop
    loop-holds
    get-requires
    returns
    add-i
    loop-less
    loop-again
    returns-2)
