-- `end_of` is safe and ends. Assumes nothing.
use Rattle.std.proofs.Common.{◌-◌, ◌≤◌, rules}
use Rattle.tests_plain.proofs.joins.end_of.Statement.{statement}
use Rattle.tests_plain.proofs.joins.end_of.Tie as tie

abbrev invariant-loop : tie.invariant-loop-i
invariant-loop m f n end₀ i₀ end i =
    (i ≤ n)

abbrev decreases-loop : tie.decreases-loop-i
decreases-loop m f n end₀ i₀ end i =
    n - i

loop-holds : tie.Need-loop-i-init invariant-loop decreases-loop
loop-holds c = search rules

chunk-of-requires : tie.Need-chunk_of-requires invariant-loop decreases-loop
chunk-of-requires c κs = search rules

chunk-size-requires : tie.Need-chunk_size-requires invariant-loop decreases-loop
chunk-size-requires c κs = search rules

plus-requires : tie.Need-plus-end-requires invariant-loop decreases-loop
plus-requires c κs = search rules

add-i : tie.Need-overflow_step-i invariant-loop decreases-loop
add-i c = search rules

loop-less : tie.Need-loop-i-smaller invariant-loop decreases-loop
loop-less c = search rules

loop-again : tie.Need-loop-i-preserved invariant-loop decreases-loop
loop-again c = search rules

returns : tie.Need-returns invariant-loop decreases-loop
returns c = search rules

pub end_of_spec : {M : Type 1} → statement M
end_of_spec = tie.close (tie.spec
    invariant-loop
    decreases-loop
    loop-holds
    chunk-of-requires
    chunk-size-requires
    plus-requires
    add-i
    loop-less
    loop-again
    returns)
