-- `search_files` is safe and ends. Assumes nothing.
use Rattle.std.proofs.Common.{◌≡◌, ◌-◌, ◌≤◌, length, rules}
use Rattle.tests_plain.proofs.lists.search_files.Statement.{statement}
use Rattle.tests_plain.proofs.lists.search_files.Tie as tie

abbrev invariant-loop : tie.invariant-loop-f
invariant-loop m whole₀ out₀ n row₀ f₀ whole out row f =
    (f ≤ n) × (length whole ≡ length whole₀) × (length out ≡ length out₀)

abbrev decreases-loop : tie.decreases-loop-f
decreases-loop m whole₀ out₀ n row₀ f₀ whole out row f =
    n - f

files-requires : tie.Need-files-n-requires invariant-loop decreases-loop
files-requires c κs = search rules

loop-holds : tie.Need-loop-f-init invariant-loop decreases-loop
loop-holds c = search rules

restore-requires : tie.Need-restore-size-requires invariant-loop decreases-loop
restore-requires c κs = search rules

list-text-requires : tie.Need-list_text-row-requires invariant-loop decreases-loop
list-text-requires c κs = search rules

add-f : tie.Need-overflow_step-f invariant-loop decreases-loop
add-f c = search rules

loop-less : tie.Need-loop-f-smaller invariant-loop decreases-loop
loop-less c = search rules

loop-again : tie.Need-loop-f-preserved invariant-loop decreases-loop
loop-again c = search rules

same_length : tie.Need-shape_of-whole invariant-loop decreases-loop
same_length c = search rules

same-length-2 : tie.Need-shape_of-out invariant-loop decreases-loop
same-length-2 c = search rules

returns : tie.Need-returns invariant-loop decreases-loop
returns c = search rules

pub search_files_spec : {M : Type 1} → statement M
search_files_spec = tie.close (tie.spec
    invariant-loop
    decreases-loop
    files-requires
    loop-holds
    restore-requires
    list-text-requires
    add-f
    loop-less
    loop-again
    same_length
    same-length-2
    returns)
