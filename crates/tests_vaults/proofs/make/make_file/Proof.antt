-- `make_file` is safe and ends. Assumes nothing.
use borrow.Author.Rules.{rules}
use mathlib.Core.Path.{◌≡◌}
use Prim.Native.Nat.{◌≤◌, ◌-◌}
use lib.ListN.{length}
use Rattle.tests_vaults.proofs.make.make_file.Statement.{statement}
use Rattle.tests_vaults.proofs.make.make_file.Tie as tie

abbrev invariant-loop : tie.invariant-loop-i
invariant-loop m₀ f n chunks seed s₀ i₀ m s i = (i ≤ n) × (length m ≡ length m₀)

abbrev decreases-loop : tie.decreases-loop-i
decreases-loop m₀ f n chunks seed s₀ i₀ m s i = n - i

file-at-requires : tie.Need-file_at-requires invariant-loop decreases-loop
file-at-requires c κs = search rules

cast-put : tie.Need-overflow_cast-n invariant-loop decreases-loop
cast-put c = search rules

put-requires : tie.Need-put-requires invariant-loop decreases-loop
put-requires c κs = search rules

loop-holds : tie.Need-loop-i-init invariant-loop decreases-loop
loop-holds c = search rules

next-requires : tie.Need-next-s-requires invariant-loop decreases-loop
next-requires c κs = search rules

file-at-requires-2 : tie.Need-file_at-requires-in-loop-i invariant-loop decreases-loop
file-at-requires-2 c κs = search rules

plus-requires : tie.Need-plus-requires invariant-loop decreases-loop
plus-requires c κs = search rules

plus-requires-2 : tie.Need-plus-requires-in-loop-i invariant-loop decreases-loop
plus-requires-2 c κs = search rules

pick-requires : tie.Need-pick-requires invariant-loop decreases-loop
pick-requires c κs = search rules

cast-put-2 : tie.Need-overflow_cast-pick invariant-loop decreases-loop
cast-put-2 c = search rules

put-requires-2 : tie.Need-put-requires-in-loop-i invariant-loop decreases-loop
put-requires-2 c κs = search rules

add-i : tie.Need-overflow_step-i invariant-loop decreases-loop
add-i c = search rules

loop-less : tie.Need-loop-i-smaller invariant-loop decreases-loop
loop-less c = search rules

loop-again : tie.Need-loop-i-preserved invariant-loop decreases-loop
loop-again c = search rules

same_length : tie.Need-shape_of-m invariant-loop decreases-loop
same_length c = search rules

returns : tie.Need-returns invariant-loop decreases-loop
returns c = search rules

pub make_file_spec : {M : Type 1} → statement M
make_file_spec = tie.close (tie.spec
    invariant-loop
    decreases-loop
    file-at-requires
    cast-put
    put-requires
    loop-holds
    next-requires
    file-at-requires-2
    plus-requires
    plus-requires-2
    pick-requires
    cast-put-2
    put-requires-2
    add-i
    loop-less
    loop-again
    same_length
    returns)
