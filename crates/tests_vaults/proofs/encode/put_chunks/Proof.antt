-- `put_chunks` is safe and ends. Assumes nothing.
use borrow.Author.Rules.{rules}
use mathlib.Core.Path.{◌≡◌}
use Prim.Native.Nat.{◌≤◌, ◌-◌}
use lib.ListN.{length}
use Rattle.tests_vaults.proofs.encode.put_chunks.Statement.{statement}
use Rattle.tests_vaults.proofs.encode.put_chunks.Tie as tie

abbrev invariant-loop : tie.invariant-loop-c
invariant-loop out₀ m n at₀ c₀ out at c = (c ≤ n) × (length out ≡ length out₀)

abbrev decreases-loop : tie.decreases-loop-c
decreases-loop out₀ m n at₀ c₀ out at c = n - c

mul_at : tie.Need-overflow_mul-at invariant-loop decreases-loop
mul_at c = search rules

add_at : tie.Need-overflow_add-at invariant-loop decreases-loop
add_at c = search rules

loop-holds : tie.Need-loop-c-init invariant-loop decreases-loop
loop-holds c = search rules

put-hole-requires : tie.Need-put_hole-start-requires invariant-loop decreases-loop
put-hole-requires c κs = search rules

chunk-size-requires : tie.Need-chunk_size-requires invariant-loop decreases-loop
chunk-size-requires c κs = search rules

put-chunk-requires : tie.Need-put_chunk-at-requires invariant-loop decreases-loop
put-chunk-requires c κs = search rules

add-c : tie.Need-overflow_step-c invariant-loop decreases-loop
add-c c = search rules

loop-less : tie.Need-loop-c-smaller invariant-loop decreases-loop
loop-less c = search rules

loop-again : tie.Need-loop-c-preserved invariant-loop decreases-loop
loop-again c = search rules

same_length : tie.Need-shape_of-out invariant-loop decreases-loop
same_length c = search rules

returns : tie.Need-returns invariant-loop decreases-loop
returns c = search rules

pub put_chunks_spec : {M : Type 1} → statement M
put_chunks_spec = tie.close (tie.spec
    invariant-loop
    decreases-loop
    mul_at
    add_at
    loop-holds
    put-hole-requires
    chunk-size-requires
    put-chunk-requires
    add-c
    loop-less
    loop-again
    same_length
    returns)
