-- `make_keywords` is safe and ends. Assumes nothing.
use borrow.Author.Rules.{rules}
use mathlib.Core.Path.{◌≡◌}
use Prim.Native.Nat.{◌≤◌, ◌-◌}
use lib.ListN.{length}
use Rattle.tests_vaults.proofs.make.make_keywords.Statement.{statement}
use Rattle.tests_vaults.proofs.make.make_keywords.Tie as tie

abbrev invariant-loop : tie.invariant-loop-k
invariant-loop m₀ n kind alphabet seed s₀ k₀ m s k = (k ≤ n) × (length m ≡ length m₀)

abbrev decreases-loop : tie.decreases-loop-k
decreases-loop m₀ n kind alphabet seed s₀ k₀ m s k = n - k

loop-holds : tie.Need-loop-k-init invariant-loop decreases-loop
loop-holds c = search rules

next-requires : tie.Need-next-s-requires invariant-loop decreases-loop
next-requires c κs = search rules

keyword-length-requires : tie.Need-keyword_length-size-requires invariant-loop decreases-loop
keyword-length-requires c κs = search rules

keyword-at-requires : tie.Need-keyword_at-requires invariant-loop decreases-loop
keyword-at-requires c κs = search rules

cast-put : tie.Need-overflow_cast-size invariant-loop decreases-loop
cast-put c = search rules

put-requires : tie.Need-put-requires invariant-loop decreases-loop
put-requires c κs = search rules

keyword-at-requires-2 : tie.Need-keyword_at-requires-in-loop-k invariant-loop decreases-loop
keyword-at-requires-2 c κs = search rules

plus-requires : tie.Need-plus-requires invariant-loop decreases-loop
plus-requires c κs = search rules

spell-requires : tie.Need-spell-s-requires invariant-loop decreases-loop
spell-requires c κs = search rules

add-k : tie.Need-overflow_step-k invariant-loop decreases-loop
add-k c = search rules

loop-less : tie.Need-loop-k-smaller invariant-loop decreases-loop
loop-less c = search rules

loop-again : tie.Need-loop-k-preserved invariant-loop decreases-loop
loop-again c = search rules

same_length : tie.Need-shape_of-m invariant-loop decreases-loop
same_length c = search rules

returns : tie.Need-returns invariant-loop decreases-loop
returns c = search rules

pub make_keywords_spec : {M : Type 1} → statement M
make_keywords_spec = tie.close (tie.spec
    invariant-loop
    decreases-loop
    loop-holds
    next-requires
    keyword-length-requires
    keyword-at-requires
    cast-put
    put-requires
    keyword-at-requires-2
    plus-requires
    spell-requires
    add-k
    loop-less
    loop-again
    same_length
    returns)
