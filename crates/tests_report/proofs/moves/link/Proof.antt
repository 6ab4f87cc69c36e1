-- `link` is safe and ends. Assumes nothing.
use Rattle.std.proofs.Common.{◌-◌, ◌≤◌, rules}
use Rattle.tests_report.proofs.moves.link.Statement.{statement}
use Rattle.tests_report.proofs.moves.link.Tie as tie

abbrev invariant-loop : tie.invariant-loop-i
invariant-loop m node n i₀ i = (i ≤ n)

abbrev decreases-loop : tie.decreases-loop-i
decreases-loop m node n i₀ i = n - i

length-of-requires : tie.Need-length_of-n-requires invariant-loop decreases-loop
length-of-requires c κs = search rules

loop-holds : tie.Need-loop-i-init invariant-loop decreases-loop
loop-holds c = search rules

plus-requires : tie.Need-plus-requires invariant-loop decreases-loop
plus-requires c κs = search rules

less-requires : tie.Need-less-left-requires invariant-loop decreases-loop
less-requires c κs = search rules

letters-of-requires : tie.Need-letters_of-requires invariant-loop decreases-loop
letters-of-requires c κs = search rules

less-requires-2 : tie.Need-less-requires invariant-loop decreases-loop
less-requires-2 c κs = search rules

plus-requires-2 : tie.Need-plus-requires-in-loop-i invariant-loop decreases-loop
plus-requires-2 c κs = search rules

node-at-requires : tie.Need-node_at-ending-requires invariant-loop decreases-loop
node-at-requires c κs = search rules

returns : tie.Need-returns-then-ending-ne0 invariant-loop decreases-loop
returns c = search rules

add-i : tie.Need-overflow_step-i invariant-loop decreases-loop
add-i c = search rules

loop-less : tie.Need-loop-i-smaller invariant-loop decreases-loop
loop-less c = search rules

loop-again : tie.Need-loop-i-preserved invariant-loop decreases-loop
loop-again c = search rules

returns-2 : tie.Need-returns invariant-loop decreases-loop
returns-2 c = search rules

pub link_spec : {M : Type 1} → statement M
link_spec = tie.close (tie.spec
    invariant-loop
    decreases-loop
    length-of-requires
    loop-holds
    plus-requires
    less-requires
    letters-of-requires
    less-requires-2
    plus-requires-2
    node-at-requires
    returns
    add-i
    loop-less
    loop-again
    returns-2)
