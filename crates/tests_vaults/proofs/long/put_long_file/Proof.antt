-- `put_long_file` is safe and ends. Assumes nothing.
use borrow.Author.Rules.{rules}
use mathlib.Core.Path.{◌≡◌}
use Prim.Native.Nat.{◌≤◌, ◌-◌}
use lib.ListN.{length}
use Rattle.tests_vaults.proofs.long.put_long_file.Statement.{statement}
use Rattle.tests_vaults.proofs.long.put_long_file.Tie as tie

abbrev invariant-loop : tie.invariant-loop-i
invariant-loop out₀ n i₀ out i = (i ≤ n) × (length out ≡ length out₀)

abbrev decreases-loop : tie.decreases-loop-i
decreases-loop out₀ n i₀ out i = n - i

loop-holds : tie.Need-loop-i-init invariant-loop decreases-loop
loop-holds c = search rules

mul-put-key : tie.Need-overflow_mul-i invariant-loop decreases-loop
mul-put-key c = search rules

add-put-key : tie.Need-overflow_add-i invariant-loop decreases-loop
add-put-key c = search rules

put-key-requires : tie.Need-put_key-requires invariant-loop decreases-loop
put-key-requires c κs = search rules

add-i : tie.Need-overflow_step-i invariant-loop decreases-loop
add-i c = search rules

loop-less : tie.Need-loop-i-smaller invariant-loop decreases-loop
loop-less c = search rules

loop-again : tie.Need-loop-i-preserved invariant-loop decreases-loop
loop-again c = search rules

same_length : tie.Need-shape_of-out invariant-loop decreases-loop
same_length c = search rules

returns : tie.Need-returns invariant-loop decreases-loop
returns c = search rules

pub put_long_file_spec : {M : Type 1} → statement M
put_long_file_spec = tie.close (tie.spec
    invariant-loop
    decreases-loop
    loop-holds
    mul-put-key
    add-put-key
    put-key-requires
    add-i
    loop-less
    loop-again
    same_length
    returns)
