-- `put_letters` is safe and ends. Assumes nothing.
use borrow.Author.Rules.{rules}
use mathlib.Core.Path.{◌≡◌}
use Prim.Native.Nat.{◌≤◌, ◌-◌}
use lib.ListN.{length}
use Rattle.tests_wide.proofs.longest.put_letters.Statement.{statement}
use Rattle.tests_wide.proofs.longest.put_letters.Tie as tie

abbrev invariant-loop : tie.invariant-loop-i
invariant-loop s₀ n i₀ s i =
    (i ≤ n) × (length s ≡ length s₀)

abbrev decreases-loop : tie.decreases-loop-i
decreases-loop s₀ n i₀ s i =
    n - i

loop-holds : tie.Need-loop-i-init invariant-loop decreases-loop
loop-holds c = search rules

offset-requires : tie.Need-offset-requires invariant-loop decreases-loop
offset-requires c κs = search rules

plus-requires : tie.Need-plus-requires invariant-loop decreases-loop
plus-requires c κs = search rules

put-requires : tie.Need-put-requires invariant-loop decreases-loop
put-requires c κs = search rules

add-i : tie.Need-overflow_step-i invariant-loop decreases-loop
add-i c = search rules

loop-less : tie.Need-loop-i-smaller invariant-loop decreases-loop
loop-less c = search rules

loop-again : tie.Need-loop-i-preserved invariant-loop decreases-loop
loop-again c = search rules

same_length : tie.Need-shape_of-s invariant-loop decreases-loop
same_length c = search rules

returns : tie.Need-returns invariant-loop decreases-loop
returns c = search rules

pub put_letters_spec : {M : Type 1} → statement M
put_letters_spec = tie.close (tie.spec
    invariant-loop
    decreases-loop
    loop-holds
    offset-requires
    plus-requires
    put-requires
    add-i
    loop-less
    loop-again
    same_length
    returns)
