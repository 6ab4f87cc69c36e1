-- `put_keywords` is safe and ends. Assumes nothing.
use borrow.Author.Rules.{rules}
use mathlib.Core.Path.{◌≡◌}
use Prim.Native.Nat.{◌≤◌, ◌-◌}
use lib.ListN.{length}
use Rattle.tests_vaults.proofs.encode.put_keywords.Statement.{statement}
use Rattle.tests_vaults.proofs.encode.put_keywords.Tie as tie

abbrev invariant-loop : tie.invariant-loop-k
invariant-loop out₀ start m n at₀ k₀ out at k =
    (k ≤ n) × (length out ≡ length out₀)

abbrev decreases-loop : tie.decreases-loop-k
decreases-loop out₀ start m n at₀ k₀ out at k =
    n - k

loop-holds : tie.Need-loop-k-init invariant-loop decreases-loop
loop-holds c = search rules

keyword-size-requires : tie.Need-keyword_size-requires invariant-loop decreases-loop
keyword-size-requires c κs = search rules

plus-requires : tie.Need-plus-size-requires invariant-loop decreases-loop
plus-requires c κs = search rules

keyword-at-requires : tie.Need-keyword_at-requires invariant-loop decreases-loop
keyword-at-requires c κs = search rules

copy-requires : tie.Need-copy-requires invariant-loop decreases-loop
copy-requires c κs = search rules

plus-requires-2 : tie.Need-plus-at-requires invariant-loop decreases-loop
plus-requires-2 c κs = search rules

add-k : tie.Need-overflow_step-k invariant-loop decreases-loop
add-k c = search rules

loop-less : tie.Need-loop-k-smaller invariant-loop decreases-loop
loop-less c = search rules

loop-again : tie.Need-loop-k-preserved invariant-loop decreases-loop
loop-again c = search rules

same_length : tie.Need-shape_of-out invariant-loop decreases-loop
same_length c = search rules

returns : tie.Need-returns invariant-loop decreases-loop
returns c = search rules

pub put_keywords_spec : {M : Type 1} → statement M
put_keywords_spec = tie.close (tie.spec
    invariant-loop
    decreases-loop
    loop-holds
    keyword-size-requires
    plus-requires
    keyword-at-requires
    copy-requires
    plus-requires-2
    add-k
    loop-less
    loop-again
    same_length
    returns)
