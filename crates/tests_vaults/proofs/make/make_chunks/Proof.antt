-- `make_chunks` is safe and ends. Assumes nothing.
use borrow.Author.Rules.{rules}
use mathlib.Core.Path.{◌≡◌}
use Prim.Native.Nat.{◌≤◌, ◌-◌}
use lib.ListN.{length}
use Rattle.tests_vaults.proofs.make.make_chunks.Statement.{statement}
use Rattle.tests_vaults.proofs.make.make_chunks.Tie as tie

abbrev invariant-loop : tie.invariant-loop-c
invariant-loop m₀ n kind alphabet seed s₀ c₀ m s c = (c ≤ n) × (length m ≡ length m₀)

abbrev decreases-loop : tie.decreases-loop-c
decreases-loop m₀ n kind alphabet seed s₀ c₀ m s c = n - c

loop-holds : tie.Need-loop-c-init invariant-loop decreases-loop
loop-holds c = search rules

next-requires : tie.Need-next-s-requires invariant-loop decreases-loop
next-requires c κs = search rules

chunk-length-requires : tie.Need-chunk_length-size-requires invariant-loop decreases-loop
chunk-length-requires c κs = search rules

put-size-requires : tie.Need-put_size-requires invariant-loop decreases-loop
put-size-requires c κs = search rules

chunk-at-requires : tie.Need-chunk_at-requires invariant-loop decreases-loop
chunk-at-requires c κs = search rules

spell-requires : tie.Need-spell-s-requires invariant-loop decreases-loop
spell-requires c κs = search rules

add-c : tie.Need-overflow_step-c invariant-loop decreases-loop
add-c c = search rules

loop-less : tie.Need-loop-c-smaller invariant-loop decreases-loop
loop-less c = search rules

loop-again : tie.Need-loop-c-preserved invariant-loop decreases-loop
loop-again c = search rules

same_length : tie.Need-shape_of-m invariant-loop decreases-loop
same_length c = search rules

returns : tie.Need-returns invariant-loop decreases-loop
returns c = search rules

pub make_chunks_spec : {M : Type 1} → statement M
make_chunks_spec = tie.close (tie.spec
    invariant-loop
    decreases-loop
    loop-holds
    next-requires
    chunk-length-requires
    put-size-requires
    chunk-at-requires
    spell-requires
    add-c
    loop-less
    loop-again
    same_length
    returns)
