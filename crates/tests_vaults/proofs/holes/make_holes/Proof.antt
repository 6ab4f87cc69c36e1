-- `make_holes` is safe and ends. Assumes nothing.
use borrow.Author.Rules.{rules}
use mathlib.Core.Path.{◌≡◌}
use Prim.Native.Nat.{◌≤◌, ◌-◌}
use lib.ListN.{length}
use Rattle.tests_vaults.proofs.holes.make_holes.Statement.{statement}
use Rattle.tests_vaults.proofs.holes.make_holes.Tie as tie

abbrev invariant-loop : tie.invariant-loop-c
invariant-loop m₀ bits seed n all s₀ c₀ m s c = (c ≤ all) × (length m ≡ length m₀)

abbrev decreases-loop : tie.decreases-loop-c
decreases-loop m₀ bits seed n all s₀ c₀ m s c = all - c

chunks-requires : tie.Need-chunks-n-requires invariant-loop decreases-loop
chunks-requires c κs = search rules

plus-requires : tie.Need-plus-all-requires invariant-loop decreases-loop
plus-requires c κs = search rules

loop-holds : tie.Need-loop-c-init invariant-loop decreases-loop
loop-holds c = search rules

next-requires : tie.Need-next-s-requires invariant-loop decreases-loop
next-requires c κs = search rules

hole-length-requires : tie.Need-hole_length-requires invariant-loop decreases-loop
hole-length-requires c κs = search rules

make-hole-requires : tie.Need-make_hole-requires invariant-loop decreases-loop
make-hole-requires c κs = search rules

add-c : tie.Need-overflow_step-c invariant-loop decreases-loop
add-c c = search rules

loop-less : tie.Need-loop-c-smaller invariant-loop decreases-loop
loop-less c = search rules

loop-again : tie.Need-loop-c-preserved invariant-loop decreases-loop
loop-again c = search rules

same_length : tie.Need-shape_of-m invariant-loop decreases-loop
same_length c = search rules

returns : tie.Need-returns invariant-loop decreases-loop
returns c = search rules

pub make_holes_spec : {M : Type 1} → statement M
make_holes_spec = tie.close (tie.spec
    invariant-loop
    decreases-loop
    chunks-requires
    plus-requires
    loop-holds
    next-requires
    hole-length-requires
    make-hole-requires
    add-c
    loop-less
    loop-again
    same_length
    returns)
