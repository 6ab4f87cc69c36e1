-- `crosses_any` is safe and ends. Assumes nothing.
use Rattle.std.proofs.Common.{◌-◌, ◌≤◌, rules}
use Rattle.tests_plain.proofs.joins.crosses_any.Statement.{statement}
use Rattle.tests_plain.proofs.joins.crosses_any.Tie as tie

abbrev invariant-loop : tie.invariant-loop-j
invariant-loop m k f i left n p₀ j₀ p j =
    (j ≤ n)

abbrev decreases-loop : tie.decreases-loop-j
decreases-loop m k f i left n p₀ j₀ p j =
    n - j

file-size-requires : tie.Need-file_size-n-requires invariant-loop decreases-loop
file-size-requires c κs = search rules

chunk-of-requires : tie.Need-chunk_of-requires invariant-loop decreases-loop
chunk-of-requires c κs = search rules

begun-requires : tie.Need-begun-p-requires invariant-loop decreases-loop
begun-requires c κs = search rules

loop-holds : tie.Need-loop-j-init invariant-loop decreases-loop
loop-holds c = search rules

chunk-of-requires-2 : tie.Need-chunk_of-requires-then-i-j invariant-loop decreases-loop
chunk-of-requires-2 c κs = search rules

passed-requires : tie.Need-passed-p-requires invariant-loop decreases-loop
passed-requires c κs = search rules

add-j : tie.Need-overflow_step-j invariant-loop decreases-loop
add-j c = search rules

loop-less : tie.Need-loop-j-smaller invariant-loop decreases-loop
loop-less c = search rules

loop-again : tie.Need-loop-j-preserved invariant-loop decreases-loop
loop-again c = search rules

returns : tie.Need-returns invariant-loop decreases-loop
returns c = search rules

pub crosses_any_spec : {M : Type 1} → statement M
crosses_any_spec = tie.close (tie.spec
    invariant-loop
    decreases-loop
    file-size-requires
    chunk-of-requires
    begun-requires
    loop-holds
    chunk-of-requires-2
    passed-requires
    add-j
    loop-less
    loop-again
    returns)
