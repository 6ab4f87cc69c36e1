-- `put_chunks` is safe and ends. Assumes nothing.

use borrow.Author.Rules.{rules}
use mathlib.Core.Path.{◌≡◌}
use Prim.Native.Nat.{◌≤◌, ◌-◌}
use lib.ListN.{length}
use Rattle.tests_vaults.proofs.orders.put_chunks.Statement.{statement}
use Rattle.tests_vaults.proofs.orders.put_chunks.Tie as tie

abbrev invariant-loop : tie.invariant-loop-p
invariant-loop g₀ f order n bits seed s₀ at₀ p₀ g s at p =
    (p ≤ n) × (length g ≡ length g₀)

abbrev decreases-loop : tie.decreases-loop-p
decreases-loop g₀ f order n bits seed s₀ at₀ p₀ g s at p =
    n - p

mul-plus : tie.Need-overflow_mul-n invariant-loop decreases-loop
mul-plus c = search rules

add-plus : tie.Need-overflow_add-n invariant-loop decreases-loop
add-plus c = search rules

hole-length-requires : tie.Need-hole_length-requires invariant-loop decreases-loop
hole-length-requires c κs = search rules

plus-requires : tie.Need-plus-at-requires invariant-loop decreases-loop
plus-requires c κs = search rules

loop-holds : tie.Need-loop-p-init invariant-loop decreases-loop
loop-holds c = search rules

next-requires : tie.Need-next-s-requires invariant-loop decreases-loop
next-requires c κs = search rules

num-requires : tie.Need-num-requires invariant-loop decreases-loop
num-requires c κs = search rules

put-chunk-requires : tie.Need-put_chunk-end-requires invariant-loop decreases-loop
put-chunk-requires c κs = search rules

plus-requires-2 : tie.Need-plus-requires invariant-loop decreases-loop
plus-requires-2 c κs = search rules

hole-length-requires-2 : tie.Need-hole_length-requires-in-loop-p invariant-loop decreases-loop
hole-length-requires-2 c κs = search rules

plus-requires-3 : tie.Need-plus-at-requires-in-loop-p invariant-loop decreases-loop
plus-requires-3 c κs = search rules

add-p : tie.Need-overflow_step-p invariant-loop decreases-loop
add-p c = search rules

loop-less : tie.Need-loop-p-smaller invariant-loop decreases-loop
loop-less c = search rules

loop-again : tie.Need-loop-p-preserved invariant-loop decreases-loop
loop-again c = search rules

same_length : tie.Need-shape_of-g invariant-loop decreases-loop
same_length c = search rules

returns : tie.Need-returns invariant-loop decreases-loop
returns c = search rules

pub put_chunks_spec : {M : Type 1} → statement M
put_chunks_spec = tie.close (tie.spec
    invariant-loop
    decreases-loop
    mul-plus
    add-plus
    hole-length-requires
    plus-requires
    loop-holds
    next-requires
    num-requires
    put-chunk-requires
    plus-requires-2
    hole-length-requires-2
    plus-requires-3
    add-p
    loop-less
    loop-again
    same_length
    returns)
