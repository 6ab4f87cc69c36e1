-- `mark` is safe and ends. Assumes nothing.
use Rattle.std.proofs.Common.{◌≡◌, ◌-◌, ◌≤◌, length, rules}
use Rattle.tests_plain.proofs.records.mark.Statement.{statement}
use Rattle.tests_plain.proofs.records.mark.Tie as tie

abbrev invariant-loop : tie.invariant-loop-p
invariant-loop m₀ c k size p₀ m p = (p ≤ size) × (length m ≡ length m₀)

abbrev decreases-loop : tie.decreases-loop-p
decreases-loop m₀ c k size p₀ m p = size - p

loop-holds : tie.Need-loop-p-init invariant-loop decreases-loop
loop-holds c = search rules

chunk-at-requires : tie.Need-chunk_at-requires invariant-loop decreases-loop
chunk-at-requires c κs = search rules

stands-requires : tie.Need-stands-b-requires invariant-loop decreases-loop
stands-requires c κs = search rules

cast-b : tie.Need-overflow_cast-b invariant-loop decreases-loop
cast-b c = search rules

mark-at-requires : tie.Need-mark_at-requires invariant-loop decreases-loop
mark-at-requires c κs = search rules

put-requires : tie.Need-put-requires invariant-loop decreases-loop
put-requires c κs = search rules

add-p : tie.Need-overflow_step-p invariant-loop decreases-loop
add-p c = search rules

loop-less : tie.Need-loop-p-smaller invariant-loop decreases-loop
loop-less c = search rules

loop-again : tie.Need-loop-p-preserved invariant-loop decreases-loop
loop-again c = search rules

same_length : tie.Need-shape_of-m invariant-loop decreases-loop
same_length c = search rules

returns : tie.Need-returns invariant-loop decreases-loop
returns c = search rules

pub mark_spec : {M : Type 1} → statement M
mark_spec = tie.close (tie.spec
    invariant-loop
    decreases-loop
    loop-holds
    chunk-at-requires
    stands-requires
    cast-b
    mark-at-requires
    put-requires
    add-p
    loop-less
    loop-again
    same_length
    returns)
