-- `list_at` is safe and ends. Assumes nothing.
use Rattle.std.proofs.Common.{◌≡◌, ◌-◌, ◌≤◌, length, rules}
use Rattle.tests_plain.proofs.lists.list_at.Statement.{statement}
use Rattle.tests_plain.proofs.lists.list_at.Tie as tie

abbrev invariant-loop : tie.invariant-loop-k
invariant-loop m n text size file at out₀ row r₀ k₀ out r k = (k ≤ n) × (length out ≡ length out₀)

abbrev decreases-loop : tie.decreases-loop-k
decreases-loop m n text size file at out₀ row r₀ k₀ out r k = n - k

loop-holds : tie.Need-loop-k-init invariant-loop decreases-loop
loop-holds c = search rules

stands-requires : tie.Need-stands-there-requires invariant-loop decreases-loop
stands-requires c κs = search rules

put-row-requires : tie.Need-put_row-r-requires invariant-loop decreases-loop
put-row-requires c κs = search rules

add-k : tie.Need-overflow_step-k invariant-loop decreases-loop
add-k c = search rules

loop-less : tie.Need-loop-k-smaller invariant-loop decreases-loop
loop-less c = search rules

loop-again : tie.Need-loop-k-preserved invariant-loop decreases-loop
loop-again c = search rules

same_length : tie.Need-shape_of-out invariant-loop decreases-loop
same_length c = search rules

returns : tie.Need-returns invariant-loop decreases-loop
returns c = search rules

pub list_at_spec : {M : Type 1} → statement M
list_at_spec = tie.close (tie.spec
    invariant-loop
    decreases-loop
    loop-holds
    stands-requires
    put-row-requires
    add-k
    loop-less
    loop-again
    same_length
    returns)
