-- `note_chunk` is safe and ends. Assumes nothing.
use Rattle.std.proofs.Common.{◌≡◌, ◌-◌, ◌≤◌, length, rules}
use Rattle.tests_plain.proofs.records.note_chunk.Statement.{statement}
use Rattle.tests_plain.proofs.records.note_chunk.Tie as tie

abbrev invariant-loop : tie.invariant-loop-k
invariant-loop m₀ c n k₀ m k = (k ≤ n) × (length m ≡ length m₀)

abbrev decreases-loop : tie.decreases-loop-k
decreases-loop m₀ c n k₀ m k = n - k

loop-holds : tie.Need-loop-k-init invariant-loop decreases-loop
loop-holds c = search rules

note-requires : tie.Need-note-requires invariant-loop decreases-loop
note-requires c κs = search rules

add-k : tie.Need-overflow_step-k invariant-loop decreases-loop
add-k c = search rules

loop-less : tie.Need-loop-k-smaller invariant-loop decreases-loop
loop-less c = search rules

loop-again : tie.Need-loop-k-preserved invariant-loop decreases-loop
loop-again c = search rules

same_length : tie.Need-shape_of-m invariant-loop decreases-loop
same_length c = search rules

returns : tie.Need-returns invariant-loop decreases-loop
returns c = search rules

pub note_chunk_spec : {M : Type 1} → statement M
note_chunk_spec = tie.close (tie.spec
    invariant-loop
    decreases-loop
    loop-holds
    note-requires
    add-k
    loop-less
    loop-again
    same_length
    returns)
