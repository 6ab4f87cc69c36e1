-- `put_words` is safe and ends. Assumes nothing.
use borrow.Author.Rules.{rules}
use mathlib.Core.Path.{◌≡◌}
use Prim.Native.Nat.{◌≤◌, ◌-◌}
use lib.ListN.{length}
use Rattle.tests_vaults.proofs.small.put_words.Statement.{statement}
use Rattle.tests_vaults.proofs.small.put_words.Tie as tie

abbrev invariant-loop : tie.invariant-loop-k
invariant-loop m₀ n words at₀ k₀ m at k = (k ≤ n) × (length m ≡ length m₀)

abbrev decreases-loop : tie.decreases-loop-k
decreases-loop m₀ n words at₀ k₀ m at k = n - k

cast-put : tie.Need-overflow_cast-n invariant-loop decreases-loop
cast-put c = search rules

put-requires : tie.Need-put-requires invariant-loop decreases-loop
put-requires c κs = search rules

loop-holds : tie.Need-loop-k-init invariant-loop decreases-loop
loop-holds c = search rules

num-requires : tie.Need-num-requires invariant-loop decreases-loop
num-requires c κs = search rules

plus-requires : tie.Need-plus-size-requires invariant-loop decreases-loop
plus-requires c κs = search rules

keyword-at-requires : tie.Need-keyword_at-requires invariant-loop decreases-loop
keyword-at-requires c κs = search rules

copy-requires : tie.Need-copy-requires invariant-loop decreases-loop
copy-requires c κs = search rules

plus-requires-2 : tie.Need-plus-at-requires invariant-loop decreases-loop
plus-requires-2 c κs = search rules

add-k : tie.Need-overflow_step-k invariant-loop decreases-loop
add-k c = search rules

loop-less : tie.Need-loop-k-smaller invariant-loop decreases-loop
loop-less c = search rules

loop-again : tie.Need-loop-k-preserved invariant-loop decreases-loop
loop-again c = search rules

same_length : tie.Need-shape_of-m invariant-loop decreases-loop
same_length c = search rules

returns : tie.Need-returns invariant-loop decreases-loop
returns c = search rules

pub put_words_spec : {M : Type 1} → statement M
put_words_spec = tie.close (tie.spec
    invariant-loop
    decreases-loop
    cast-put
    put-requires
    loop-holds
    num-requires
    plus-requires
    keyword-at-requires
    copy-requires
    plus-requires-2
    add-k
    loop-less
    loop-again
    same_length
    returns)
