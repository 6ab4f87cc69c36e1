-- `recipes_code` is safe and ends. Assumes nothing.
use Rattle.std.proofs.Common.{◌-◌, ◌≤◌, rules}
use Rattle.tests_plain.proofs.codes.recipes_code.Statement.{statement}
use Rattle.tests_plain.proofs.codes.recipes_code.Tie as tie

abbrev invariant-loop : tie.invariant-loop-f
invariant-loop m form n due f₀ f =
    (f ≤ n)

abbrev decreases-loop : tie.decreases-loop-f
decreases-loop m form n due f₀ f =
    n - f

files-requires : tie.Need-files-n-requires invariant-loop decreases-loop
files-requires c κs = search rules

least-inside-requires : tie.Need-least_inside-due-requires invariant-loop decreases-loop
least-inside-requires c κs = search rules

loop-holds : tie.Need-loop-f-init invariant-loop decreases-loop
loop-holds c = search rules

file-code-requires : tie.Need-file_code-code-requires invariant-loop decreases-loop
file-code-requires c κs = search rules

returns : tie.Need-returns-then-code-ne0 invariant-loop decreases-loop
returns c = search rules

add-f : tie.Need-overflow_step-f invariant-loop decreases-loop
add-f c = search rules

loop-less : tie.Need-loop-f-smaller invariant-loop decreases-loop
loop-less c = search rules

loop-again : tie.Need-loop-f-preserved invariant-loop decreases-loop
loop-again c = search rules

returns-2 : tie.Need-returns invariant-loop decreases-loop
returns-2 c = search rules

pub recipes_code_spec : {M : Type 1} → statement M
recipes_code_spec = tie.close (tie.spec
    invariant-loop
    decreases-loop
    files-requires
    least-inside-requires
    loop-holds
    file-code-requires
    returns
    add-f
    loop-less
    loop-again
    returns-2)
