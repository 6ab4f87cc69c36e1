-- `see_spans` is safe and ends. Assumes nothing.
use Rattle.std.proofs.Common.{◌≡◌, ◌-◌, ◌≤◌, length, rules}
use Rattle.tests_report.proofs.sets.see_spans.Statement.{statement}
use Rattle.tests_report.proofs.sets.see_spans.Tie as tie

abbrev invariant-loop : tie.invariant-loop-r
invariant-loop counts₀ m f n r₀ counts r =
    (r ≤ n) × (length counts ≡ length counts₀)

abbrev decreases-loop : tie.decreases-loop-r
decreases-loop counts₀ m f n r₀ counts r =
    n - r

joined-rows-requires : tie.Need-joined_rows-n-requires invariant-loop decreases-loop
joined-rows-requires c κs = search rules

loop-holds : tie.Need-loop-r-init invariant-loop decreases-loop
loop-holds c = search rules

span-requires : tie.Need-span-requires invariant-loop decreases-loop
span-requires c κs = search rules

saw-span-requires : tie.Need-saw_span-requires invariant-loop decreases-loop
saw-span-requires c κs = search rules

add_r : tie.Need-overflow_step-r invariant-loop decreases-loop
add_r c = search rules

loop-less : tie.Need-loop-r-smaller invariant-loop decreases-loop
loop-less c = search rules

loop-again : tie.Need-loop-r-preserved invariant-loop decreases-loop
loop-again c = search rules

same_length : tie.Need-shape_of-counts invariant-loop decreases-loop
same_length c = search rules

returns : tie.Need-returns invariant-loop decreases-loop
returns c = search rules

pub see_spans_spec : {M : Type 1} → statement M
see_spans_spec = tie.close (tie.spec
    invariant-loop
    decreases-loop
    joined-rows-requires
    loop-holds
    span-requires
    saw-span-requires
    add_r
    loop-less
    loop-again
    same_length
    returns)
