-- `make_files` is safe and ends. Assumes nothing.
use borrow.Author.Rules.{rules}
use mathlib.Core.Path.{◌≡◌}
use Prim.Native.Nat.{◌≤◌, ◌-◌}
use lib.ListN.{length}
use Rattle.tests_vaults.proofs.make.make_files.Statement.{statement}
use Rattle.tests_vaults.proofs.make.make_files.Tie as tie

abbrev invariant-loop : tie.invariant-loop-f
invariant-loop m₀ n most chunks seed s₀ f₀ m s f =
    (f ≤ n) × (length m ≡ length m₀)

abbrev decreases-loop : tie.decreases-loop-f
decreases-loop m₀ n most chunks seed s₀ f₀ m s f =
    n - f

loop-holds : tie.Need-loop-f-init invariant-loop decreases-loop
loop-holds c = search rules

next-requires : tie.Need-next-s-requires invariant-loop decreases-loop
next-requires c κs = search rules

pick-requires : tie.Need-pick-requires invariant-loop decreases-loop
pick-requires c κs = search rules

make-file-requires : tie.Need-make_file-s-requires invariant-loop decreases-loop
make-file-requires c κs = search rules

add-f : tie.Need-overflow_step-f invariant-loop decreases-loop
add-f c = search rules

loop-less : tie.Need-loop-f-smaller invariant-loop decreases-loop
loop-less c = search rules

loop-again : tie.Need-loop-f-preserved invariant-loop decreases-loop
loop-again c = search rules

same_length : tie.Need-shape_of-m invariant-loop decreases-loop
same_length c = search rules

returns : tie.Need-returns invariant-loop decreases-loop
returns c = search rules

pub make_files_spec : {M : Type 1} → statement M
make_files_spec = tie.close (tie.spec
    invariant-loop
    decreases-loop
    loop-holds
    next-requires
    pick-requires
    make-file-requires
    add-f
    loop-less
    loop-again
    same_length
    returns)
