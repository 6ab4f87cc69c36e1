-- `nodes` is safe and ends. Assumes nothing.
use Rattle.std.proofs.Common.{◌-◌, ◌≤◌, rules}
use Rattle.tests_report.proofs.moves.nodes.Statement.{statement}
use Rattle.tests_report.proofs.moves.nodes.Tie as tie

abbrev invariant-loop : tie.invariant-loop-t
invariant-loop m most n₀ t₀ n t = (t ≤ most)

abbrev decreases-loop : tie.decreases-loop-t
decreases-loop m most n₀ t₀ n t = most - t

loop-holds : tie.Need-loop-t-init invariant-loop decreases-loop
loop-holds c = search rules

add-is-first : tie.Need-overflow_add-t invariant-loop decreases-loop
add-is-first c = search rules

is-first-requires : tie.Need-is_first-requires invariant-loop decreases-loop
is-first-requires c κs = search rules

cast-plus : tie.Need-overflow_cast-is_first invariant-loop decreases-loop
cast-plus c = search rules

plus-requires : tie.Need-plus-n-requires invariant-loop decreases-loop
plus-requires c κs = search rules

add-t : tie.Need-overflow_step-t invariant-loop decreases-loop
add-t c = search rules

loop-less : tie.Need-loop-t-smaller invariant-loop decreases-loop
loop-less c = search rules

loop-again : tie.Need-loop-t-preserved invariant-loop decreases-loop
loop-again c = search rules

returns : tie.Need-returns invariant-loop decreases-loop
returns c = search rules

pub nodes_spec : {M : Type 1} → statement M
nodes_spec = tie.close (tie.spec
    invariant-loop
    decreases-loop
    loop-holds
    add-is-first
    is-first-requires
    cast-plus
    plus-requires
    add-t
    loop-less
    loop-again
    returns)
