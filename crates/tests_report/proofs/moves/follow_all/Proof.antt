-- `follow_all` is safe and ends. Assumes nothing.
use Rattle.std.proofs.Common.{◌-◌, ◌≤◌, rules}
use Rattle.tests_report.proofs.moves.follow_all.Statement.{statement}
use Rattle.tests_report.proofs.moves.follow_all.Tie as tie

abbrev invariant-loop : tie.invariant-loop-i
invariant-loop m node at most step₀ i₀ step i = (i ≤ most)

abbrev decreases-loop : tie.decreases-loop-i
decreases-loop m node at most step₀ i₀ step i = most - i

loop-holds : tie.Need-loop-i-init invariant-loop decreases-loop
loop-holds c = search rules

follow-requires : tie.Need-follow-after-requires invariant-loop decreases-loop
follow-requires c κs = search rules

returns : tie.Need-returns-then-after-step invariant-loop decreases-loop
returns c = search rules

add-i : tie.Need-overflow_step-i invariant-loop decreases-loop
add-i c = search rules

loop-less : tie.Need-loop-i-smaller invariant-loop decreases-loop
loop-less c = search rules

loop-again : tie.Need-loop-i-preserved invariant-loop decreases-loop
loop-again c = search rules

returns-2 : tie.Need-returns invariant-loop decreases-loop
returns-2 c = search rules

pub follow_all_spec : {M : Type 1} → statement M
follow_all_spec = tie.close (tie.spec
    invariant-loop
    decreases-loop
    loop-holds
    follow-requires
    returns
    add-i
    loop-less
    loop-again
    returns-2)
