-- `all_moves` is safe and ends. Assumes nothing.
use Rattle.std.proofs.Common.{◌-◌, ◌≤◌, rules}
use Rattle.tests_report.proofs.moves.all_moves.Statement.{statement}
use Rattle.tests_report.proofs.moves.all_moves.Tie as tie

abbrev invariant-loop : tie.invariant-loop-c
invariant-loop m n moves₀ c₀ moves c = (c ≤ n)

abbrev decreases-loop : tie.decreases-loop-c
decreases-loop m n moves₀ c₀ moves c = n - c

chunks-requires : tie.Need-chunks-n-requires invariant-loop decreases-loop
chunks-requires c κs = search rules

loop-holds : tie.Need-loop-c-init invariant-loop decreases-loop
loop-holds c = search rules

chunk-moves-requires : tie.Need-chunk_moves-requires invariant-loop decreases-loop
chunk-moves-requires c κs = search rules

plus-requires : tie.Need-plus-moves-requires invariant-loop decreases-loop
plus-requires c κs = search rules

add-c : tie.Need-overflow_step-c invariant-loop decreases-loop
add-c c = search rules

loop-less : tie.Need-loop-c-smaller invariant-loop decreases-loop
loop-less c = search rules

loop-again : tie.Need-loop-c-preserved invariant-loop decreases-loop
loop-again c = search rules

returns : tie.Need-returns invariant-loop decreases-loop
returns c = search rules

pub all_moves_spec : {M : Type 1} → statement M
all_moves_spec = tie.close (tie.spec
    invariant-loop
    decreases-loop
    chunks-requires
    loop-holds
    chunk-moves-requires
    plus-requires
    add-c
    loop-less
    loop-again
    returns)
