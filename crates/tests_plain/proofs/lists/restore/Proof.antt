-- `restore` is safe and ends. Assumes nothing.
use Rattle.std.proofs.Common.{◌≡◌, ◌-◌, ◌≤◌, length, rules}
use Rattle.tests_plain.proofs.lists.restore.Statement.{statement}
use Rattle.tests_plain.proofs.lists.restore.Tie as tie

abbrev invariant-loop : tie.invariant-loop-i
invariant-loop m f whole₀ n at₀ i₀ whole at i = (i ≤ n) × (length whole ≡ length whole₀)

abbrev decreases-loop : tie.decreases-loop-i
decreases-loop m f whole₀ n at₀ i₀ whole at i = n - i

file-size-requires : tie.Need-file_size-n-requires invariant-loop decreases-loop
file-size-requires c κs = search rules

loop-holds : tie.Need-loop-i-init invariant-loop decreases-loop
loop-holds c = search rules

chunk-of-requires : tie.Need-chunk_of-c-requires invariant-loop decreases-loop
chunk-of-requires c κs = search rules

chunk-at-requires : tie.Need-chunk_at-requires invariant-loop decreases-loop
chunk-at-requires c κs = search rules

chunk-size-requires : tie.Need-chunk_size-requires invariant-loop decreases-loop
chunk-size-requires c κs = search rules

copy-requires : tie.Need-copy-requires invariant-loop decreases-loop
copy-requires c κs = search rules

chunk-size-requires-2 : tie.Need-chunk_size-requires-in-loop-i invariant-loop decreases-loop
chunk-size-requires-2 c κs = search rules

plus-requires : tie.Need-plus-at-requires invariant-loop decreases-loop
plus-requires c κs = search rules

add-i : tie.Need-overflow_step-i invariant-loop decreases-loop
add-i c = search rules

loop-less : tie.Need-loop-i-smaller invariant-loop decreases-loop
loop-less c = search rules

loop-again : tie.Need-loop-i-preserved invariant-loop decreases-loop
loop-again c = search rules

same_length : tie.Need-shape_of-whole invariant-loop decreases-loop
same_length c = search rules

returns : tie.Need-returns invariant-loop decreases-loop
returns c = search rules

pub restore_spec : {M : Type 1} → statement M
restore_spec = tie.close (tie.spec
    invariant-loop
    decreases-loop
    file-size-requires
    loop-holds
    chunk-of-requires
    chunk-at-requires
    chunk-size-requires
    copy-requires
    chunk-size-requires-2
    plus-requires
    add-i
    loop-less
    loop-again
    same_length
    returns)
