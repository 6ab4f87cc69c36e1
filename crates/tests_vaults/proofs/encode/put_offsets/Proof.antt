-- `put_offsets` is safe and ends. Assumes nothing.
use borrow.Author.Rules.{rules}
use mathlib.Core.Path.{◌≡◌}
use Prim.Native.Nat.{◌≤◌, ◌-◌}
use lib.ListN.{length}
use Rattle.tests_vaults.proofs.encode.put_offsets.Statement.{statement}
use Rattle.tests_vaults.proofs.encode.put_offsets.Tie as tie

abbrev invariant-loop : tie.invariant-loop-p
invariant-loop out₀ at form m c k size a₀ p₀ out a p = (p ≤ size) × (length out ≡ length out₀)

abbrev decreases-loop : tie.decreases-loop-p
decreases-loop out₀ at form m c k size a₀ p₀ out a p = size - p

loop-holds : tie.Need-loop-p-init invariant-loop decreases-loop
loop-holds c = search rules

is-marked-requires : tie.Need-is_marked-requires invariant-loop decreases-loop
is-marked-requires c κs = search rules

put-offset-requires : tie.Need-put_offset-a-requires invariant-loop decreases-loop
put-offset-requires c κs = search rules

add-p : tie.Need-overflow_step-p invariant-loop decreases-loop
add-p c = search rules

loop-less : tie.Need-loop-p-smaller invariant-loop decreases-loop
loop-less c = search rules

loop-again : tie.Need-loop-p-preserved invariant-loop decreases-loop
loop-again c = search rules

same_length : tie.Need-shape_of-out invariant-loop decreases-loop
same_length c = search rules

returns : tie.Need-returns invariant-loop decreases-loop
returns c = search rules

pub put_offsets_spec : {M : Type 1} → statement M
put_offsets_spec = tie.close (tie.spec
    invariant-loop
    decreases-loop
    loop-holds
    is-marked-requires
    put-offset-requires
    add-p
    loop-less
    loop-again
    same_length
    returns)
