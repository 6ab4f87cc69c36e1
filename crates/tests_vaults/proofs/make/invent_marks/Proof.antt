-- `invent_marks` is safe and ends. Assumes nothing.
use borrow.Author.Rules.{rules}
use mathlib.Core.Path.{◌≡◌}
use Prim.Native.Nat.{◌≤◌, ◌-◌}
use lib.ListN.{length}
use Rattle.tests_vaults.proofs.make.invent_marks.Statement.{statement}
use Rattle.tests_vaults.proofs.make.invent_marks.Tie as tie

abbrev invariant-loop : tie.invariant-loop-p
invariant-loop m₀ c k n size often seed s₀ p₀ m s p =
    (p ≤ size) × (length m ≡ length m₀)

abbrev decreases-loop : tie.decreases-loop-p
decreases-loop m₀ c k n size often seed s₀ p₀ m s p =
    size - p

loop-holds : tie.Need-loop-p-init invariant-loop decreases-loop
loop-holds c = search rules

next-requires : tie.Need-next-s-requires invariant-loop decreases-loop
next-requires c κs = search rules

plus-requires : tie.Need-plus-requires invariant-loop decreases-loop
plus-requires c κs = search rules

is-often-requires : tie.Need-is_often-there-requires invariant-loop decreases-loop
is-often-requires c κs = search rules

mark-at-requires : tie.Need-mark_at-requires invariant-loop decreases-loop
mark-at-requires c κs = search rules

cast-put : tie.Need-overflow_cast-there invariant-loop decreases-loop
cast-put c = search rules

put-requires : tie.Need-put-requires invariant-loop decreases-loop
put-requires c κs = search rules

add-p : tie.Need-overflow_step-p invariant-loop decreases-loop
add-p c = search rules

loop-less : tie.Need-loop-p-smaller invariant-loop decreases-loop
loop-less c = search rules

loop-again : tie.Need-loop-p-preserved invariant-loop decreases-loop
loop-again c = search rules

same_length : tie.Need-shape_of-m invariant-loop decreases-loop
same_length c = search rules

returns : tie.Need-returns invariant-loop decreases-loop
returns c = search rules

pub invent_marks_spec : {M : Type 1} → statement M
invent_marks_spec = tie.close (tie.spec
    invariant-loop
    decreases-loop
    loop-holds
    next-requires
    plus-requires
    is-often-requires
    mark-at-requires
    cast-put
    put-requires
    add-p
    loop-less
    loop-again
    same_length
    returns)
