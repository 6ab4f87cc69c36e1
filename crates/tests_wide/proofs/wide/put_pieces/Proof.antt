-- `put_pieces` is safe and ends. Assumes nothing.
use borrow.Author.Rules.{rules}
use mathlib.Core.Path.{◌≡◌}
use Prim.Native.Nat.{◌≤◌, ◌-◌}
use lib.ListN.{length}
use Rattle.tests_wide.proofs.wide.put_pieces.Statement.{statement}
use Rattle.tests_wide.proofs.wide.put_pieces.Tie as tie

abbrev invariant-loop : tie.invariant-loop-i
invariant-loop m₀ size gap seed at₀ s₀ i₀ m at s i =
    (i ≤ size) × (length m ≡ length m₀)

abbrev decreases-loop : tie.decreases-loop-i
decreases-loop m₀ size gap seed at₀ s₀ i₀ m at s i =
    size - i

loop-holds : tie.Need-loop-i-init invariant-loop decreases-loop
loop-holds c = search rules

next-requires : tie.Need-next-requires invariant-loop decreases-loop
next-requires c κs = search rules

next-requires-2 : tie.Need-next-s-requires invariant-loop decreases-loop
next-requires-2 c κs = search rules

put-piece-requires : tie.Need-put_piece-requires invariant-loop decreases-loop
put-piece-requires c κs = search rules

next-requires-3 : tie.Need-next-requires-in-loop-i invariant-loop decreases-loop
next-requires-3 c κs = search rules

pick-requires : tie.Need-pick-requires invariant-loop decreases-loop
pick-requires c κs = search rules

plus-requires : tie.Need-plus-at-requires invariant-loop decreases-loop
plus-requires c κs = search rules

add-i : tie.Need-overflow_step-i invariant-loop decreases-loop
add-i c = search rules

loop-less : tie.Need-loop-i-smaller invariant-loop decreases-loop
loop-less c = search rules

loop-again : tie.Need-loop-i-preserved invariant-loop decreases-loop
loop-again c = search rules

same_length : tie.Need-shape_of-m invariant-loop decreases-loop
same_length c = search rules

returns : tie.Need-returns invariant-loop decreases-loop
returns c = search rules

pub put_pieces_spec : {M : Type 1} → statement M
put_pieces_spec = tie.close (tie.spec
    invariant-loop
    decreases-loop
    loop-holds
    next-requires
    next-requires-2
    put-piece-requires
    next-requires-3
    pick-requires
    plus-requires
    add-i
    loop-less
    loop-again
    same_length
    returns)
