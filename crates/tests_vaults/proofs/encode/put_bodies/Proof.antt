-- `put_bodies` is safe and ends. Assumes nothing.
use borrow.Author.Rules.{rules}
use mathlib.Core.Path.{◌≡◌}
use Prim.Native.Nat.{◌≤◌, ◌-◌}
use lib.ListN.{length}
use Rattle.tests_vaults.proofs.encode.put_bodies.Statement.{statement}
use Rattle.tests_vaults.proofs.encode.put_bodies.Tie as tie

abbrev invariant-loop : tie.invariant-loop-c
invariant-loop out₀ start form m n words at₀ c₀ out at c = (c ≤ n) × (length out ≡ length out₀)

abbrev decreases-loop : tie.decreases-loop-c
decreases-loop out₀ start form m n words at₀ c₀ out at c = n - c

mul-plus : tie.Need-overflow_mul-n invariant-loop decreases-loop
mul-plus c = search rules

plus-requires : tie.Need-plus-at-requires invariant-loop decreases-loop
plus-requires c κs = search rules

loop-holds : tie.Need-loop-c-init invariant-loop decreases-loop
loop-holds c = search rules

put-body-requires : tie.Need-put_body-end-requires invariant-loop decreases-loop
put-body-requires c κs = search rules

mul-plus-2 : tie.Need-overflow_mul-c invariant-loop decreases-loop
mul-plus-2 c = search rules

plus-requires-2 : tie.Need-plus-requires invariant-loop decreases-loop
plus-requires-2 c κs = search rules

chunk-size-requires : tie.Need-chunk_size-requires invariant-loop decreases-loop
chunk-size-requires c κs = search rules

put-entry-requires : tie.Need-put_entry-requires invariant-loop decreases-loop
put-entry-requires c κs = search rules

add-c : tie.Need-overflow_step-c invariant-loop decreases-loop
add-c c = search rules

loop-less : tie.Need-loop-c-smaller invariant-loop decreases-loop
loop-less c = search rules

loop-again : tie.Need-loop-c-preserved invariant-loop decreases-loop
loop-again c = search rules

same_length : tie.Need-shape_of-out invariant-loop decreases-loop
same_length c = search rules

returns : tie.Need-returns invariant-loop decreases-loop
returns c = search rules

pub put_bodies_spec : {M : Type 1} → statement M
put_bodies_spec = tie.close (tie.spec
    invariant-loop
    decreases-loop
    mul-plus
    plus-requires
    loop-holds
    put-body-requires
    mul-plus-2
    plus-requires-2
    chunk-size-requires
    put-entry-requires
    add-c
    loop-less
    loop-again
    same_length
    returns)
