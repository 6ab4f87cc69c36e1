-- `note_all` is safe and ends. Assumes nothing.
use Rattle.std.proofs.Common.{◌≡◌, ◌-◌, ◌≤◌, length, rules}
use Rattle.tests_plain.proofs.records.note_all.Statement.{statement}
use Rattle.tests_plain.proofs.records.note_all.Tie as tie

abbrev invariant-loop : tie.invariant-loop-c
invariant-loop m₀ n words c₀ m c = (c ≤ n) × (length m ≡ length m₀)

abbrev decreases-loop : tie.decreases-loop-c
decreases-loop m₀ n words c₀ m c = n - c

chunks-requires : tie.Need-chunks-n-requires invariant-loop decreases-loop
chunks-requires c κs = search rules

keywords-requires : tie.Need-keywords-words-requires invariant-loop decreases-loop
keywords-requires c κs = search rules

loop-holds : tie.Need-loop-c-init invariant-loop decreases-loop
loop-holds c = search rules

note-chunk-requires : tie.Need-note_chunk-requires invariant-loop decreases-loop
note-chunk-requires c κs = search rules

add-c : tie.Need-overflow_step-c invariant-loop decreases-loop
add-c c = search rules

loop-less : tie.Need-loop-c-smaller invariant-loop decreases-loop
loop-less c = search rules

loop-again : tie.Need-loop-c-preserved invariant-loop decreases-loop
loop-again c = search rules

same_length : tie.Need-shape_of-m invariant-loop decreases-loop
same_length c = search rules

returns : tie.Need-returns invariant-loop decreases-loop
returns c = search rules

pub note_all_spec : {M : Type 1} → statement M
note_all_spec = tie.close (tie.spec
    invariant-loop
    decreases-loop
    chunks-requires
    keywords-requires
    loop-holds
    note-chunk-requires
    add-c
    loop-less
    loop-again
    same_length
    returns)
