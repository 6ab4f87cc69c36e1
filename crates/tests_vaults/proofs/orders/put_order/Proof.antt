-- `put_order` is safe and ends. Assumes nothing.

use borrow.Author.Rules.{rules}
use mathlib.Core.Path.{◌≡◌}
use Prim.Native.Nat.{◌≤◌, ◌-◌}
use lib.ListN.{length}
use Rattle.tests_vaults.proofs.orders.put_order.Statement.{statement}
use Rattle.tests_vaults.proofs.orders.put_order.Tie as tie

abbrev invariant-loop : tie.invariant-loop-p
invariant-loop order₀ way n p₀ order p =
    (p ≤ n) × (length order ≡ length order₀)

abbrev decreases-loop : tie.decreases-loop-p
decreases-loop order₀ way n p₀ order p =
    n - p

loop-holds : tie.Need-loop-p-init invariant-loop decreases-loop
loop-holds c = search rules

chunk-for-requires : tie.Need-chunk_for-requires invariant-loop decreases-loop
chunk-for-requires c κs = search rules

cast-put : tie.Need-overflow_cast-chunk_for invariant-loop decreases-loop
cast-put c = search rules

put-requires : tie.Need-put-requires invariant-loop decreases-loop
put-requires c κs = search rules

add-p : tie.Need-overflow_step-p invariant-loop decreases-loop
add-p c = search rules

loop-less : tie.Need-loop-p-smaller invariant-loop decreases-loop
loop-less c = search rules

loop-again : tie.Need-loop-p-preserved invariant-loop decreases-loop
loop-again c = search rules

same_length : tie.Need-shape_of-order invariant-loop decreases-loop
same_length c = search rules

returns : tie.Need-returns invariant-loop decreases-loop
returns c = search rules

pub put_order_spec : {M : Type 1} → statement M
put_order_spec = tie.close (tie.spec
    invariant-loop
    decreases-loop
    loop-holds
    chunk-for-requires
    cast-put
    put-requires
    add-p
    loop-less
    loop-again
    same_length
    returns)
