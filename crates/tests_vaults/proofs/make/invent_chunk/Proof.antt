-- `invent_chunk` is safe and ends. Assumes nothing.
use borrow.Author.Rules.{rules}
use mathlib.Core.Path.{◌≡◌}
use Prim.Native.Nat.{◌≤◌, ◌-◌}
use lib.ListN.{length}
use Rattle.tests_vaults.proofs.make.invent_chunk.Statement.{statement}
use Rattle.tests_vaults.proofs.make.invent_chunk.Tie as tie

abbrev invariant-loop : tie.invariant-loop-k
invariant-loop m₀ c n seed s₀ k₀ m s k = (k ≤ n) × (length m ≡ length m₀)

abbrev decreases-loop : tie.decreases-loop-k
decreases-loop m₀ c n seed s₀ k₀ m s k = n - k

loop-holds : tie.Need-loop-k-init invariant-loop decreases-loop
loop-holds c = search rules

invent-record-requires : tie.Need-invent_record-s-requires invariant-loop decreases-loop
invent-record-requires c κs = search rules

add-k : tie.Need-overflow_step-k invariant-loop decreases-loop
add-k c = search rules

loop-less : tie.Need-loop-k-smaller invariant-loop decreases-loop
loop-less c = search rules

loop-again : tie.Need-loop-k-preserved invariant-loop decreases-loop
loop-again c = search rules

same_length : tie.Need-shape_of-m invariant-loop decreases-loop
same_length c = search rules

returns : tie.Need-returns invariant-loop decreases-loop
returns c = search rules

pub invent_chunk_spec : {M : Type 1} → statement M
invent_chunk_spec = tie.close (tie.spec
    invariant-loop
    decreases-loop
    loop-holds
    invent-record-requires
    add-k
    loop-less
    loop-again
    same_length
    returns)
