-- `put_long_words` is safe and ends. Assumes nothing.
use borrow.Author.Rules.{rules}
use mathlib.Core.Path.{◌≡◌}
use Prim.Native.Nat.{◌≤◌, ◌-◌}
use lib.ListN.{length}
use Rattle.tests_vaults.proofs.lanes.put_long_words.Statement.{statement}
use Rattle.tests_vaults.proofs.lanes.put_long_words.Tie as tie

abbrev invariant-loop : tie.invariant-loop-k
invariant-loop m₀ n periodic seed s₀ k₀ m s k = (k ≤ n) × (length m ≡ length m₀)

abbrev decreases-loop : tie.decreases-loop-k
decreases-loop m₀ n periodic seed s₀ k₀ m s k = n - k

cast-put : tie.Need-overflow_cast-n invariant-loop decreases-loop
cast-put c = search rules

put-requires : tie.Need-put-requires invariant-loop decreases-loop
put-requires c κs = search rules

loop-holds : tie.Need-loop-k-init invariant-loop decreases-loop
loop-holds c = search rules

next-requires : tie.Need-next-s-requires invariant-loop decreases-loop
next-requires c κs = search rules

put-long-word-requires : tie.Need-put_long_word-requires invariant-loop decreases-loop
put-long-word-requires c κs = search rules

add-k : tie.Need-overflow_step-k invariant-loop decreases-loop
add-k c = search rules

loop-less : tie.Need-loop-k-smaller invariant-loop decreases-loop
loop-less c = search rules

loop-again : tie.Need-loop-k-preserved invariant-loop decreases-loop
loop-again c = search rules

same_length : tie.Need-shape_of-m invariant-loop decreases-loop
same_length c = search rules

returns : tie.Need-returns invariant-loop decreases-loop
returns c = search rules

pub put_long_words_spec : {M : Type 1} → statement M
put_long_words_spec = tie.close (tie.spec
    invariant-loop
    decreases-loop
    cast-put
    put-requires
    loop-holds
    next-requires
    put-long-word-requires
    add-k
    loop-less
    loop-again
    same_length
    returns)
