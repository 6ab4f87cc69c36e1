-- `spell` is safe and ends. Assumes nothing.
use borrow.Author.Rules.{rules}
use mathlib.Core.Path.{◌≡◌}
use Prim.Native.Nat.{◌≤◌, ◌-◌}
use lib.ListN.{length}
use Rattle.tests_vaults.proofs.make.spell.Statement.{statement}
use Rattle.tests_vaults.proofs.make.spell.Tie as tie

abbrev invariant-loop : tie.invariant-loop-i
invariant-loop m₀ at n alphabet seed s₀ i₀ m s i = (i ≤ n) × (length m ≡ length m₀)

abbrev decreases-loop : tie.decreases-loop-i
decreases-loop m₀ at n alphabet seed s₀ i₀ m s i = n - i

loop-holds : tie.Need-loop-i-init invariant-loop decreases-loop
loop-holds c = search rules

next-requires : tie.Need-next-s-requires invariant-loop decreases-loop
next-requires c κs = search rules

plus-requires : tie.Need-plus-requires invariant-loop decreases-loop
plus-requires c κs = search rules

pick-requires : tie.Need-pick-requires invariant-loop decreases-loop
pick-requires c κs = search rules

letter-requires : tie.Need-letter-requires invariant-loop decreases-loop
letter-requires c κs = search rules

put-requires : tie.Need-put-requires invariant-loop decreases-loop
put-requires c κs = search rules

add-i : tie.Need-overflow_step-i invariant-loop decreases-loop
add-i c = search rules

loop-less : tie.Need-loop-i-smaller invariant-loop decreases-loop
loop-less c = search rules

loop-again : tie.Need-loop-i-preserved invariant-loop decreases-loop
loop-again c = search rules

same_length : tie.Need-shape_of-m invariant-loop decreases-loop
same_length c = search rules

returns : tie.Need-returns invariant-loop decreases-loop
returns c = search rules

pub spell_spec : {M : Type 1} → statement M
spell_spec = tie.close (tie.spec
    invariant-loop
    decreases-loop
    loop-holds
    next-requires
    plus-requires
    pick-requires
    letter-requires
    put-requires
    add-i
    loop-less
    loop-again
    same_length
    returns)
