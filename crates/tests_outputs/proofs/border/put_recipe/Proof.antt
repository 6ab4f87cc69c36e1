-- `put_recipe` is safe and ends. Assumes nothing.
use borrow.Author.Rules.{rules}
use mathlib.Core.Path.{◌≡◌}
use Prim.Native.Nat.{◌≤◌, ◌-◌}
use lib.ListN.{length}
use Rattle.tests_outputs.proofs.border.put_recipe.Statement.{statement}
use Rattle.tests_outputs.proofs.border.put_recipe.Tie as tie

abbrev invariant-loop : tie.invariant-loop-i
invariant-loop p₀ start c n at₀ i₀ p at i = (i ≤ n) × (length p ≡ length p₀)

abbrev decreases-loop : tie.decreases-loop-i
decreases-loop p₀ start c n at₀ i₀ p at i = n - i

put-4-requires : tie.Need-put_4-requires invariant-loop decreases-loop
put-4-requires c κs = search rules

plus-requires : tie.Need-plus-at-requires invariant-loop decreases-loop
plus-requires c κs = search rules

loop-holds : tie.Need-loop-i-init invariant-loop decreases-loop
loop-holds c = search rules

put-key-requires : tie.Need-put_key-requires invariant-loop decreases-loop
put-key-requires c κs = search rules

plus-requires-2 : tie.Need-plus-at-requires-in-loop-i invariant-loop decreases-loop
plus-requires-2 c κs = search rules

add-i : tie.Need-overflow_step-i invariant-loop decreases-loop
add-i c = search rules

loop-less : tie.Need-loop-i-smaller invariant-loop decreases-loop
loop-less c = search rules

loop-again : tie.Need-loop-i-preserved invariant-loop decreases-loop
loop-again c = search rules

same_length : tie.Need-shape_of-p invariant-loop decreases-loop
same_length c = search rules

returns : tie.Need-returns invariant-loop decreases-loop
returns c = search rules

pub put_recipe_spec : {M : Type 1} → statement M
put_recipe_spec = tie.close (tie.spec
    invariant-loop
    decreases-loop
    put-4-requires
    plus-requires
    loop-holds
    put-key-requires
    plus-requires-2
    add-i
    loop-less
    loop-again
    same_length
    returns)
