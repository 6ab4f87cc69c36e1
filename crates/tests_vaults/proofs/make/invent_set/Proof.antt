-- `invent_set` is safe and ends. Assumes nothing.
use borrow.Author.Rules.{rules}
use Prim.Native.Nat.{◌≤◌, ◌-◌}
use Rattle.tests_vaults.proofs.make.invent_set.Statement.{statement}
use Rattle.tests_vaults.proofs.make.invent_set.Tie as tie

abbrev invariant-loop : tie.invariant-loop-p
invariant-loop m c k often seed n set₀ s₀ p₀ set s p =
    (p ≤ n)

abbrev decreases-loop : tie.decreases-loop-p
decreases-loop m c k often seed n set₀ s₀ p₀ set s p =
    n - p

loop-holds : tie.Need-loop-p-init invariant-loop decreases-loop
loop-holds c = search rules

next-requires : tie.Need-next-s-requires invariant-loop decreases-loop
next-requires c κs = search rules

is-inner-requires : tie.Need-is_inner-requires invariant-loop decreases-loop
is-inner-requires c κs = search rules

is-often-requires : tie.Need-is_often-requires invariant-loop decreases-loop
is-often-requires c κs = search rules

bit-requires : tie.Need-bit-requires invariant-loop decreases-loop
bit-requires c κs = search rules

plus-requires : tie.Need-plus-set-requires invariant-loop decreases-loop
plus-requires c κs = search rules

add-p : tie.Need-overflow_step-p invariant-loop decreases-loop
add-p c = search rules

loop-less : tie.Need-loop-p-smaller invariant-loop decreases-loop
loop-less c = search rules

loop-again : tie.Need-loop-p-preserved invariant-loop decreases-loop
loop-again c = search rules

returns : tie.Need-returns invariant-loop decreases-loop
returns c = search rules

pub invent_set_spec : {M : Type 1} → statement M
invent_set_spec = tie.close (tie.spec
    invariant-loop
    decreases-loop
    loop-holds
    next-requires
    is-inner-requires
    is-often-requires
    bit-requires
    plus-requires
    add-p
    loop-less
    loop-again
    returns)
