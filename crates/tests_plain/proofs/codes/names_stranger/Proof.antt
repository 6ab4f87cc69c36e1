-- `names_stranger` is safe and ends. Assumes nothing.
use Rattle.std.proofs.Common.{◌-◌, ◌≤◌, rules}
use Rattle.tests_plain.proofs.codes.names_stranger.Statement.{statement}
use Rattle.tests_plain.proofs.codes.names_stranger.Tie as tie

abbrev invariant-loop : tie.invariant-loop-i
invariant-loop m f n i₀ i =
    (i ≤ n)

abbrev decreases-loop : tie.decreases-loop-i
decreases-loop m f n i₀ i =
    n - i

file-size-requires : tie.Need-file_size-n-requires invariant-loop decreases-loop
file-size-requires c κs = search rules

loop-holds : tie.Need-loop-i-init invariant-loop decreases-loop
loop-holds c = search rules

chunks-requires : tie.Need-chunks-requires invariant-loop decreases-loop
chunks-requires c κs = search rules

chunk-of-requires : tie.Need-chunk_of-requires invariant-loop decreases-loop
chunk-of-requires c κs = search rules

returns : tie.Need-returns-then-chunks-chunk_of invariant-loop decreases-loop
returns c = search rules

add-i : tie.Need-overflow_step-i invariant-loop decreases-loop
add-i c = search rules

loop-less : tie.Need-loop-i-smaller invariant-loop decreases-loop
loop-less c = search rules

loop-again : tie.Need-loop-i-preserved invariant-loop decreases-loop
loop-again c = search rules

returns-2 : tie.Need-returns invariant-loop decreases-loop
returns-2 c = search rules

pub names_stranger_spec : {M : Type 1} → statement M
names_stranger_spec = tie.close (tie.spec
    invariant-loop
    decreases-loop
    file-size-requires
    loop-holds
    chunks-requires
    chunk-of-requires
    returns
    add-i
    loop-less
    loop-again
    returns-2)
