-- `first_number` is safe and ends. Assumes nothing.
use borrow.Author.Rules.{rules}
use Prim.Native.Nat.{◌≤◌, ◌-◌}
use Rattle.tests_vaults.proofs.encode.first_of.Statement.{statement}
use Rattle.tests_vaults.proofs.encode.first_of.Tie as tie

abbrev invariant-loop : tie.invariant-loop-p
invariant-loop m c k size p₀ p = (p ≤ size)

abbrev decreases-loop : tie.decreases-loop-p
decreases-loop m c k size p₀ p = size - p

loop-holds : tie.Need-loop-p-init invariant-loop decreases-loop
loop-holds c = search rules

is-marked-requires : tie.Need-is_marked-requires invariant-loop decreases-loop
is-marked-requires c κs = search rules

returns : tie.Need-returns-then-is_marked invariant-loop decreases-loop
returns c = search rules

add-p : tie.Need-overflow_step-p invariant-loop decreases-loop
add-p c = search rules

loop-less : tie.Need-loop-p-smaller invariant-loop decreases-loop
loop-less c = search rules

loop-again : tie.Need-loop-p-preserved invariant-loop decreases-loop
loop-again c = search rules

returns-2 : tie.Need-returns invariant-loop decreases-loop
returns-2 c = search rules

pub first_of_spec : {M : Type 1} → statement M
first_of_spec = tie.close (tie.spec
    invariant-loop
    decreases-loop
    loop-holds
    is-marked-requires
    returns
    add-p
    loop-less
    loop-again
    returns-2)
