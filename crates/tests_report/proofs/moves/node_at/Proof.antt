-- `node_at` is safe and ends. Assumes nothing.
use Rattle.std.proofs.Common.{◌-◌, ◌≤◌, rules}
use Rattle.tests_report.proofs.moves.node_at.Statement.{statement}
use Rattle.tests_report.proofs.moves.node_at.Tie as tie

abbrev invariant-loop : tie.invariant-loop-k
invariant-loop m at n words k₀ k = (k ≤ words)

abbrev decreases-loop : tie.decreases-loop-k
decreases-loop m at n words k₀ k = words - k

keywords-requires : tie.Need-keywords-words-requires invariant-loop decreases-loop
keywords-requires c κs = search rules

loop-holds : tie.Need-loop-k-init invariant-loop decreases-loop
loop-holds c = search rules

begins-requires : tie.Need-begins-requires invariant-loop decreases-loop
begins-requires c κs = search rules

node-of-requires : tie.Need-node_of-requires invariant-loop decreases-loop
node-of-requires c κs = search rules

returns : tie.Need-returns-then-begins invariant-loop decreases-loop
returns c = search rules

add-k : tie.Need-overflow_step-k invariant-loop decreases-loop
add-k c = search rules

loop-less : tie.Need-loop-k-smaller invariant-loop decreases-loop
loop-less c = search rules

loop-again : tie.Need-loop-k-preserved invariant-loop decreases-loop
loop-again c = search rules

returns-2 : tie.Need-returns invariant-loop decreases-loop
returns-2 c = search rules

pub node_at_spec : {M : Type 1} → statement M
node_at_spec = tie.close (tie.spec
    invariant-loop
    decreases-loop
    keywords-requires
    loop-holds
    begins-requires
    node-of-requires
    returns
    add-k
    loop-less
    loop-again
    returns-2)
