-- `chunk_bytes` is safe and ends. Assumes nothing.
use Rattle.std.proofs.Common.{◌-◌, ◌≤◌, rules}
use Rattle.tests_report.proofs.holes.chunk_bytes.Statement.{statement}
use Rattle.tests_report.proofs.holes.chunk_bytes.Tie as tie

abbrev invariant-loop : tie.invariant-loop-c
invariant-loop f n bytes₀ c₀ bytes c = (c ≤ n)

abbrev decreases-loop : tie.decreases-loop-c
decreases-loop f n bytes₀ c₀ bytes c = n - c

chunk-count-requires : tie.Need-chunk_count-n-requires invariant-loop decreases-loop
chunk-count-requires c κs = search rules

loop-holds : tie.Need-loop-c-init invariant-loop decreases-loop
loop-holds c = search rules

chunk-size-requires : tie.Need-chunk_size-requires invariant-loop decreases-loop
chunk-size-requires c κs = search rules

plus-requires : tie.Need-plus-bytes-requires invariant-loop decreases-loop
plus-requires c κs = search rules

add-c : tie.Need-overflow_step-c invariant-loop decreases-loop
add-c c = search rules

loop-less : tie.Need-loop-c-smaller invariant-loop decreases-loop
loop-less c = search rules

loop-again : tie.Need-loop-c-preserved invariant-loop decreases-loop
loop-again c = search rules

returns : tie.Need-returns invariant-loop decreases-loop
returns c = search rules

pub chunk_bytes_spec : {M : Type 1} → statement M
chunk_bytes_spec = tie.close (tie.spec
    invariant-loop
    decreases-loop
    chunk-count-requires
    loop-holds
    chunk-size-requires
    plus-requires
    add-c
    loop-less
    loop-again
    returns)
