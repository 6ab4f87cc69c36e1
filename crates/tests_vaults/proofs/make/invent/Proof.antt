-- `invent` is safe and ends. Assumes nothing.
use borrow.Author.Rules.{rules}
use mathlib.Core.Path.{◌≡◌}
use Prim.Native.Nat.{◌≤◌, ◌-◌}
use lib.ListN.{length}
use Rattle.tests_vaults.proofs.make.invent.Statement.{statement}
use Rattle.tests_vaults.proofs.make.invent.Tie as tie

abbrev invariant-loop : tie.invariant-loop-c
invariant-loop m₀ i n words s₀ c₀ m s c =
    (c ≤ n) × (length m ≡ length m₀)

abbrev decreases-loop : tie.decreases-loop-c
decreases-loop m₀ i n words s₀ c₀ m s c =
    n - c

chunks-requires : tie.Need-chunks-n-requires invariant-loop decreases-loop
chunks-requires c κs = search rules

keywords-requires : tie.Need-keywords-words-requires invariant-loop decreases-loop
keywords-requires c κs = search rules

add-s : tie.Need-overflow_add-s invariant-loop decreases-loop
add-s c = search rules

loop-holds : tie.Need-loop-c-init invariant-loop decreases-loop
loop-holds c = search rules

invent-chunk-requires : tie.Need-invent_chunk-s-requires invariant-loop decreases-loop
invent-chunk-requires c κs = search rules

add-c : tie.Need-overflow_step-c invariant-loop decreases-loop
add-c c = search rules

loop-less : tie.Need-loop-c-smaller invariant-loop decreases-loop
loop-less c = search rules

loop-again : tie.Need-loop-c-preserved invariant-loop decreases-loop
loop-again c = search rules

same_length : tie.Need-shape_of-m invariant-loop decreases-loop
same_length c = search rules

returns : tie.Need-returns invariant-loop decreases-loop
returns c = search rules

pub invent_spec : {M : Type 1} → statement M
invent_spec = tie.close (tie.spec
    invariant-loop
    decreases-loop
    chunks-requires
    keywords-requires
    add-s
    loop-holds
    invent-chunk-requires
    add-c
    loop-less
    loop-again
    same_length
    returns)
