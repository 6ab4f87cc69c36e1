-- `chunk_moves` is safe and ends. Assumes nothing.
use Rattle.std.proofs.Common.{◌-◌, ◌≤◌, rules}
use Rattle.tests_report.proofs.moves.chunk_moves.Statement.{statement}
use Rattle.tests_report.proofs.moves.chunk_moves.Tie as tie

abbrev invariant-loop : tie.invariant-loop-i
invariant-loop m c n node₀ moves₀ i₀ node moves i = (i ≤ n)

abbrev decreases-loop : tie.decreases-loop-i
decreases-loop m c n node₀ moves₀ i₀ node moves i = n - i

chunk-size-requires : tie.Need-chunk_size-n-requires invariant-loop decreases-loop
chunk-size-requires c κs = search rules

loop-holds : tie.Need-loop-i-init invariant-loop decreases-loop
loop-holds c = search rules

chunk-at-requires : tie.Need-chunk_at-requires invariant-loop decreases-loop
chunk-at-requires c κs = search rules

plus-requires : tie.Need-plus-at-requires invariant-loop decreases-loop
plus-requires c κs = search rules

follow-all-requires : tie.Need-follow_all-step-requires invariant-loop decreases-loop
follow-all-requires c κs = search rules

plus-requires-2 : tie.Need-plus-requires invariant-loop decreases-loop
plus-requires-2 c κs = search rules

plus-requires-3 : tie.Need-plus-moves-requires invariant-loop decreases-loop
plus-requires-3 c κs = search rules

child-requires : tie.Need-child-node-requires invariant-loop decreases-loop
child-requires c κs = search rules

add-i : tie.Need-overflow_step-i invariant-loop decreases-loop
add-i c = search rules

loop-less : tie.Need-loop-i-smaller invariant-loop decreases-loop
loop-less c = search rules

loop-again : tie.Need-loop-i-preserved invariant-loop decreases-loop
loop-again c = search rules

returns : tie.Need-returns invariant-loop decreases-loop
returns c = search rules

pub chunk_moves_spec : {M : Type 1} → statement M
chunk_moves_spec = tie.close (tie.spec
    invariant-loop
    decreases-loop
    chunk-size-requires
    loop-holds
    chunk-at-requires
    plus-requires
    follow-all-requires
    plus-requires-2
    plus-requires-3
    child-requires
    add-i
    loop-less
    loop-again
    returns)
