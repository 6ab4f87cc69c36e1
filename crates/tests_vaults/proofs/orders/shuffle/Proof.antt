-- `shuffle` is safe and ends. Assumes nothing.

use borrow.Author.Rules.{rules}
use mathlib.Core.Path.{◌≡◌}
use Prim.Native.Nat.{◌≤◌, ◌-◌}
use lib.ListN.{length}
use Rattle.tests_vaults.proofs.orders.shuffle.Statement.{statement}
use Rattle.tests_vaults.proofs.orders.shuffle.Tie as tie

abbrev invariant-loop : tie.invariant-loop-i
invariant-loop order₀ n seed s₀ i₀ order s i =
    (i ≤ n) × (length order ≡ length order₀)

abbrev decreases-loop : tie.decreases-loop-i
decreases-loop order₀ n seed s₀ i₀ order s i =
    n - i

loop-holds : tie.Need-loop-i-init invariant-loop decreases-loop
loop-holds c = search rules

next-requires : tie.Need-next-s-requires invariant-loop decreases-loop
next-requires c κs = search rules

less-requires : tie.Need-less-requires invariant-loop decreases-loop
less-requires c κs = search rules

pick-requires : tie.Need-pick-requires invariant-loop decreases-loop
pick-requires c κs = search rules

plus-requires : tie.Need-plus-requires invariant-loop decreases-loop
plus-requires c κs = search rules

swap-requires : tie.Need-swap-requires invariant-loop decreases-loop
swap-requires c κs = search rules

add-i : tie.Need-overflow_step-i invariant-loop decreases-loop
add-i c = search rules

loop-less : tie.Need-loop-i-smaller invariant-loop decreases-loop
loop-less c = search rules

loop-again : tie.Need-loop-i-preserved invariant-loop decreases-loop
loop-again c = search rules

same_length : tie.Need-shape_of-order invariant-loop decreases-loop
same_length c = search rules

returns : tie.Need-returns invariant-loop decreases-loop
returns c = search rules

pub shuffle_spec : {M : Type 1} → statement M
shuffle_spec = tie.close (tie.spec
    invariant-loop
    decreases-loop
    loop-holds
    next-requires
    less-requires
    pick-requires
    plus-requires
    swap-requires
    add-i
    loop-less
    loop-again
    same_length
    returns)
