-- `is_of` is safe and ends. Assumes nothing.
use Rattle.std.proofs.Common.{◌-◌, ◌≤◌, rules}
use Rattle.tests_report.proofs.kinds.is_of.Statement.{statement}
use Rattle.tests_report.proofs.kinds.is_of.Tie as tie

abbrev invariant-loop : tie.invariant-loop-t
invariant-loop m f kind n t₀ t =
    (t ≤ n)

abbrev decreases-loop : tie.decreases-loop-t
decreases-loop m f kind n t₀ t =
    n - t

witnesses-requires : tie.Need-witnesses-n-requires invariant-loop decreases-loop
witnesses-requires c κs = search rules

loop-holds : tie.Need-loop-t-init invariant-loop decreases-loop
loop-holds c = search rules

shows-requires : tie.Need-shows-requires invariant-loop decreases-loop
shows-requires c κs = search rules

returns : tie.Need-returns-then-shows invariant-loop decreases-loop
returns c = search rules

add-t : tie.Need-overflow_step-t invariant-loop decreases-loop
add-t c = search rules

loop-less : tie.Need-loop-t-smaller invariant-loop decreases-loop
loop-less c = search rules

loop-again : tie.Need-loop-t-preserved invariant-loop decreases-loop
loop-again c = search rules

returns-2 : tie.Need-returns invariant-loop decreases-loop
returns-2 c = search rules

pub is_of_spec : {M : Type 1} → statement M
is_of_spec = tie.close (tie.spec
    invariant-loop
    decreases-loop
    witnesses-requires
    loop-holds
    shows-requires
    returns
    add-t
    loop-less
    loop-again
    returns-2)
