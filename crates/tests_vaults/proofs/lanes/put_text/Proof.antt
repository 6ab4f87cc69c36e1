-- `put_text` is safe and ends. Assumes nothing.
use borrow.Author.Rules.{rules}
use mathlib.Core.Path.{◌≡◌}
use Prim.Native.Nat.{◌≤◌, ◌-◌}
use lib.ListN.{length}
use Rattle.tests_vaults.proofs.lanes.put_text.Statement.{statement}
use Rattle.tests_vaults.proofs.lanes.put_text.Tie as tie

abbrev invariant-loop : tie.invariant-loop-i
invariant-loop m₀ c size seed at₀ s₀ i₀ m at s i = (i ≤ size) × (length m ≡ length m₀)

abbrev decreases-loop : tie.decreases-loop-i
decreases-loop m₀ c size seed at₀ s₀ i₀ m at s i = size - i

put-size-requires : tie.Need-put_size-requires invariant-loop decreases-loop
put-size-requires c κs = search rules

loop-holds : tie.Need-loop-i-init invariant-loop decreases-loop
loop-holds c = search rules

next-requires : tie.Need-next-s-requires invariant-loop decreases-loop
next-requires c κs = search rules

put-piece-requires : tie.Need-put_piece-at-requires invariant-loop decreases-loop
put-piece-requires c κs = search rules

add-i : tie.Need-overflow_step-i invariant-loop decreases-loop
add-i c = search rules

loop-less : tie.Need-loop-i-smaller invariant-loop decreases-loop
loop-less c = search rules

loop-again : tie.Need-loop-i-preserved invariant-loop decreases-loop
loop-again c = search rules

same_length : tie.Need-shape_of-m invariant-loop decreases-loop
same_length c = search rules

returns : tie.Need-returns invariant-loop decreases-loop
returns c = search rules

pub put_text_spec : {M : Type 1} → statement M
put_text_spec = tie.close (tie.spec
    invariant-loop
    decreases-loop
    put-size-requires
    loop-holds
    next-requires
    put-piece-requires
    add-i
    loop-less
    loop-again
    same_length
    returns)
