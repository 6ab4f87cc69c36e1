-- `lines` is safe and ends. Assumes nothing.
use Rattle.std.proofs.Common.{◌-◌, ◌≤◌, rules}
use Rattle.tests_report.proofs.report.lines.Statement.{statement}
use Rattle.tests_report.proofs.report.lines.Tie as tie

abbrev invariant-loop : tie.invariant-loop-i
invariant-loop names counts from n i₀ i =
    (i ≤ n)

abbrev decreases-loop : tie.decreases-loop-i
decreases-loop names counts from n i₀ i =
    n - i

loop-holds : tie.Need-loop-i-init invariant-loop decreases-loop
loop-holds c = search rules

mul-part : tie.Need-overflow_mul-i invariant-loop decreases-loop
mul-part c = search rules

part-requires : tie.Need-part-requires invariant-loop decreases-loop
part-requires c κs = search rules

plus-requires : tie.Need-plus-requires invariant-loop decreases-loop
plus-requires c κs = search rules

count-at-requires : tie.Need-count_at-requires invariant-loop decreases-loop
count-at-requires c κs = search rules

line-requires : tie.Need-line-requires invariant-loop decreases-loop
line-requires c κs = search rules

add-i : tie.Need-overflow_step-i invariant-loop decreases-loop
add-i c = search rules

loop-less : tie.Need-loop-i-smaller invariant-loop decreases-loop
loop-less c = search rules

loop-again : tie.Need-loop-i-preserved invariant-loop decreases-loop
loop-again c = search rules

returns : tie.Need-returns invariant-loop decreases-loop
returns c = search rules

pub lines_spec : {M : Type 1} → statement M
lines_spec = tie.close (tie.spec
    invariant-loop
    decreases-loop
    loop-holds
    mul-part
    part-requires
    plus-requires
    count-at-requires
    line-requires
    add-i
    loop-less
    loop-again
    returns)
