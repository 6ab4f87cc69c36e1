-- `put_files` is safe and ends. Assumes nothing.
use borrow.Author.Rules.{rules}
use mathlib.Core.Path.{◌≡◌}
use Prim.Native.Nat.{◌≤◌, ◌-◌}
use lib.ListN.{length}
use Rattle.tests_vaults.proofs.encode.put_files.Statement.{statement}
use Rattle.tests_vaults.proofs.encode.put_files.Tie as tie

abbrev invariant-loop : tie.invariant-loop-f
invariant-loop out₀ start m n at₀ f₀ out at f =
    (f ≤ n) × (length out ≡ length out₀)

abbrev decreases-loop : tie.decreases-loop-f
decreases-loop out₀ start m n at₀ f₀ out at f =
    n - f

loop-holds : tie.Need-loop-f-init invariant-loop decreases-loop
loop-holds c = search rules

put-file-requires : tie.Need-put_file-at-requires invariant-loop decreases-loop
put-file-requires c κs = search rules

add-f : tie.Need-overflow_step-f invariant-loop decreases-loop
add-f c = search rules

loop-less : tie.Need-loop-f-smaller invariant-loop decreases-loop
loop-less c = search rules

loop-again : tie.Need-loop-f-preserved invariant-loop decreases-loop
loop-again c = search rules

same_length : tie.Need-shape_of-out invariant-loop decreases-loop
same_length c = search rules

returns : tie.Need-returns invariant-loop decreases-loop
returns c = search rules

pub put_files_spec : {M : Type 1} → statement M
put_files_spec = tie.close (tie.spec
    invariant-loop
    decreases-loop
    loop-holds
    put-file-requires
    add-f
    loop-less
    loop-again
    same_length
    returns)
