-- `longest` is safe and ends. Assumes nothing.
use Rattle.std.proofs.Common.{◌-◌, ◌≤◌, rules}
use Rattle.tests_plain.proofs.codes.longest.Statement.{statement}
use Rattle.tests_plain.proofs.codes.longest.Tie as tie

abbrev invariant-loop : tie.invariant-loop-k
invariant-loop m n most₀ k₀ most k = (k ≤ n)

abbrev decreases-loop : tie.decreases-loop-k
decreases-loop m n most₀ k₀ most k = n - k

keywords-requires : tie.Need-keywords-n-requires invariant-loop decreases-loop
keywords-requires c κs = search rules

loop-holds : tie.Need-loop-k-init invariant-loop decreases-loop
loop-holds c = search rules

keyword-size-requires : tie.Need-keyword_size-size-requires invariant-loop decreases-loop
keyword-size-requires c κs = search rules

add-k : tie.Need-overflow_step-k invariant-loop decreases-loop
add-k c = search rules

loop-less : tie.Need-loop-k-smaller invariant-loop decreases-loop
loop-less c = search rules

loop-again : tie.Need-loop-k-preserved invariant-loop decreases-loop
loop-again c = search rules

returns : tie.Need-returns invariant-loop decreases-loop
returns c = search rules

pub longest_spec : {M : Type 1} → statement M
longest_spec = tie.close (tie.spec
    invariant-loop
    decreases-loop
    keywords-requires
    loop-holds
    keyword-size-requires
    add-k
    loop-less
    loop-again
    returns)
