-- `any_alike` is safe and ends. Assumes nothing.
use Rattle.std.proofs.Common.{◌-◌, ◌≤◌, rules}
use Rattle.tests_plain.proofs.records.any_alike.Statement.{statement}
use Rattle.tests_plain.proofs.records.any_alike.Tie as tie

abbrev invariant-loop : tie.invariant-loop-k
invariant-loop m n k₀ k = (k ≤ n)

abbrev decreases-loop : tie.decreases-loop-k
decreases-loop m n k₀ k = n - k

keywords-requires : tie.Need-keywords-n-requires invariant-loop decreases-loop
keywords-requires c κs = search rules

loop-holds : tie.Need-loop-k-init invariant-loop decreases-loop
loop-holds c = search rules

alike-before-requires : tie.Need-alike_before-requires invariant-loop decreases-loop
alike-before-requires c κs = search rules

returns : tie.Need-returns-then-alike_before invariant-loop decreases-loop
returns c = search rules

add-k : tie.Need-overflow_step-k invariant-loop decreases-loop
add-k c = search rules

loop-less : tie.Need-loop-k-smaller invariant-loop decreases-loop
loop-less c = search rules

loop-again : tie.Need-loop-k-preserved invariant-loop decreases-loop
loop-again c = search rules

returns-2 : tie.Need-returns invariant-loop decreases-loop
returns-2 c = search rules

pub any_alike_spec : {M : Type 1} → statement M
any_alike_spec = tie.close (tie.spec
    invariant-loop
    decreases-loop
    keywords-requires
    loop-holds
    alike-before-requires
    returns
    add-k
    loop-less
    loop-again
    returns-2)
