-- `run_full` is safe and ends. Assumes nothing.
use borrow.Author.Rules.{rules}
use mathlib.Core.Path.{◌≡◌}
use Prim.Native.Nat.{◌≤◌, ◌-◌}
use lib.ListN.{length}
use Rattle.tests_outputs.proofs.printed.run_full.Statement.{statement}
use Rattle.tests_outputs.proofs.printed.run_full.Tie as tie

abbrev invariant-loop : tie.invariant-loop-i
invariant-loop counts₀ f₀ p₀ out₀ n i₀ counts f p out i =
    (i ≤ n) × (length counts ≡ length counts₀) × (length f ≡ length f₀) × (length p ≡ length p₀) × (length out ≡ length out₀)

abbrev decreases-loop : tie.decreases-loop-i
decreases-loop counts₀ f₀ p₀ out₀ n i₀ counts f p out i =
    n - i

loop-holds : tie.Need-loop-i-init invariant-loop decreases-loop
loop-holds c = search rules

full-requires : tie.Need-full-requires invariant-loop decreases-loop
full-requires c κs = search rules

add-i : tie.Need-overflow_step-i invariant-loop decreases-loop
add-i c = search rules

loop-less : tie.Need-loop-i-smaller invariant-loop decreases-loop
loop-less c = search rules

loop-again : tie.Need-loop-i-preserved invariant-loop decreases-loop
loop-again c = search rules

same_length : tie.Need-shape_of-counts invariant-loop decreases-loop
same_length c = search rules

same-length-2 : tie.Need-shape_of-f invariant-loop decreases-loop
same-length-2 c = search rules

same-length-3 : tie.Need-shape_of-p invariant-loop decreases-loop
same-length-3 c = search rules

same-length-4 : tie.Need-shape_of-out invariant-loop decreases-loop
same-length-4 c = search rules

returns : tie.Need-returns invariant-loop decreases-loop
returns c = search rules

pub run_full_spec : {M : Type 1} → statement M
run_full_spec = tie.close (tie.spec
    invariant-loop
    decreases-loop
    loop-holds
    full-requires
    add-i
    loop-less
    loop-again
    same_length
    same-length-2
    same-length-3
    same-length-4
    returns)
