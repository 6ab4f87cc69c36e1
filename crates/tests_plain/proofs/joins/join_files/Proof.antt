-- `join_files` is safe and ends. Assumes nothing.
use Rattle.std.proofs.Common.{◌≡◌, ◌-◌, ◌≤◌, length, rules}
use Rattle.tests_plain.proofs.joins.join_files.Statement.{statement}
use Rattle.tests_plain.proofs.joins.join_files.Tie as tie

abbrev invariant-loop : tie.invariant-loop-f
invariant-loop m form out₀ n row₀ f₀ out row f =
    (f ≤ n) × (length out ≡ length out₀)

abbrev decreases-loop : tie.decreases-loop-f
decreases-loop m form out₀ n row₀ f₀ out row f =
    n - f

files-requires : tie.Need-files-n-requires invariant-loop decreases-loop
files-requires c κs = search rules

loop-holds : tie.Need-loop-f-init invariant-loop decreases-loop
loop-holds c = search rules

join-file-requires : tie.Need-join_file-row-requires invariant-loop decreases-loop
join-file-requires c κs = search rules

add-f : tie.Need-overflow_step-f invariant-loop decreases-loop
add-f c = search rules

loop-less : tie.Need-loop-f-smaller invariant-loop decreases-loop
loop-less c = search rules

loop-again : tie.Need-loop-f-preserved invariant-loop decreases-loop
loop-again c = search rules

same_length : tie.Need-shape_of-out invariant-loop decreases-loop
same_length c = search rules

returns : tie.Need-returns invariant-loop decreases-loop
returns c = search rules

pub join_files_spec : {M : Type 1} → statement M
join_files_spec = tie.close (tie.spec
    invariant-loop
    decreases-loop
    files-requires
    loop-holds
    join-file-requires
    add-f
    loop-less
    loop-again
    same_length
    returns)
