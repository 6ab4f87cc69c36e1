-- `child` is safe and ends. Assumes nothing.
use Rattle.std.proofs.Common.{◌-◌, ◌≤◌, rules}
use Rattle.tests_report.proofs.moves.child.Statement.{statement}
use Rattle.tests_report.proofs.moves.child.Tie as tie

abbrev invariant-loop : tie.invariant-loop-k
invariant-loop m node at words k₀ k = (k ≤ words)

abbrev decreases-loop : tie.decreases-loop-k
decreases-loop m node at words k₀ k = words - k

keywords-requires : tie.Need-keywords-words-requires invariant-loop decreases-loop
keywords-requires c κs = search rules

loop-holds : tie.Need-loop-k-init invariant-loop decreases-loop
loop-holds c = search rules

goes-on-requires : tie.Need-goes_on-requires invariant-loop decreases-loop
goes-on-requires c κs = search rules

length-of-requires : tie.Need-length_of-requires invariant-loop decreases-loop
length-of-requires c κs = search rules

plus-requires : tie.Need-plus-requires invariant-loop decreases-loop
plus-requires c κs = search rules

node-of-requires : tie.Need-node_of-requires invariant-loop decreases-loop
node-of-requires c κs = search rules

returns : tie.Need-returns-then-goes_on invariant-loop decreases-loop
returns c = search rules

add-k : tie.Need-overflow_step-k invariant-loop decreases-loop
add-k c = search rules

loop-less : tie.Need-loop-k-smaller invariant-loop decreases-loop
loop-less c = search rules

loop-again : tie.Need-loop-k-preserved invariant-loop decreases-loop
loop-again c = search rules

returns-2 : tie.Need-returns invariant-loop decreases-loop
returns-2 c = search rules

pub child_spec : {M : Type 1} → statement M
child_spec = tie.close (tie.spec
    invariant-loop
    decreases-loop
    keywords-requires
    loop-holds
    goes-on-requires
    length-of-requires
    plus-requires
    node-of-requires
    returns
    add-k
    loop-less
    loop-again
    returns-2)
