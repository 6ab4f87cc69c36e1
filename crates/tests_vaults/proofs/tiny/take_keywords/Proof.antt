-- `take_keywords` is safe and ends. Assumes nothing.
use borrow.Author.Rules.{rules}
use mathlib.Core.Path.{◌≡◌}
use Prim.Native.Nat.{◌≤◌, ◌-◌}
use lib.ListN.{length}
use Rattle.tests_vaults.proofs.tiny.take_keywords.Statement.{statement}
use Rattle.tests_vaults.proofs.tiny.take_keywords.Tie as tie

abbrev invariant-loop : tie.invariant-loop-k
invariant-loop m₀ n text end seed s₀ size₀ k₀ m s size k =
    (k ≤ n) × (length m ≡ length m₀)

abbrev decreases-loop : tie.decreases-loop-k
decreases-loop m₀ n text end seed s₀ size₀ k₀ m s size k =
    n - k

pick-requires : tie.Need-pick-size-requires invariant-loop decreases-loop
pick-requires c κs = search rules

loop-holds : tie.Need-loop-k-init invariant-loop decreases-loop
loop-holds c = search rules

next-requires : tie.Need-next-s-requires invariant-loop decreases-loop
next-requires c κs = search rules

plus-requires : tie.Need-plus-size-requires invariant-loop decreases-loop
plus-requires c κs = search rules

plus-requires-2 : tie.Need-plus-requires invariant-loop decreases-loop
plus-requires-2 c κs = search rules

add-less : tie.Need-overflow_add-size invariant-loop decreases-loop
add-less c = search rules

less-requires : tie.Need-less-requires invariant-loop decreases-loop
less-requires c κs = search rules

pick-requires-2 : tie.Need-pick-requires invariant-loop decreases-loop
pick-requires-2 c κs = search rules

add-put-keyword : tie.Need-overflow_add-size-in-loop-k invariant-loop decreases-loop
add-put-keyword c = search rules

put-keyword-requires : tie.Need-put_keyword-requires invariant-loop decreases-loop
put-keyword-requires c κs = search rules

add-k : tie.Need-overflow_step-k invariant-loop decreases-loop
add-k c = search rules

loop-less : tie.Need-loop-k-smaller invariant-loop decreases-loop
loop-less c = search rules

loop-again : tie.Need-loop-k-preserved invariant-loop decreases-loop
loop-again c = search rules

same_length : tie.Need-shape_of-m invariant-loop decreases-loop
same_length c = search rules

returns : tie.Need-returns invariant-loop decreases-loop
returns c = search rules

pub take_keywords_spec : {M : Type 1} → statement M
take_keywords_spec = tie.close (tie.spec
    invariant-loop
    decreases-loop
    pick-requires
    loop-holds
    next-requires
    plus-requires
    plus-requires-2
    add-less
    less-requires
    pick-requires-2
    add-put-keyword
    put-keyword-requires
    add-k
    loop-less
    loop-again
    same_length
    returns)
