-- `join_at` is safe and ends. Assumes nothing.
use Rattle.std.proofs.Common.{◌≡◌, ◌-◌, ◌≤◌, length, rules}
use Rattle.tests_plain.proofs.joins.join_at.Statement.{statement}
use Rattle.tests_plain.proofs.joins.join_at.Tie as tie

abbrev invariant-loop : tie.invariant-loop-k
invariant-loop m form f at out₀ row n r₀ k₀ out r k =
    (k ≤ n) × (length out ≡ length out₀)

abbrev decreases-loop : tie.decreases-loop-k
decreases-loop m form f at out₀ row n r₀ k₀ out r k =
    n - k

keywords-requires : tie.Need-keywords-n-requires invariant-loop decreases-loop
keywords-requires c κs = search rules

loop-holds : tie.Need-loop-k-init invariant-loop decreases-loop
loop-holds c = search rules

is-listed-requires : tie.Need-is_listed-there-requires invariant-loop decreases-loop
is-listed-requires c κs = search rules

put-row-requires : tie.Need-put_row-r-requires invariant-loop decreases-loop
put-row-requires c κs = search rules

add-k : tie.Need-overflow_step-k invariant-loop decreases-loop
add-k c = search rules

loop-less : tie.Need-loop-k-smaller invariant-loop decreases-loop
loop-less c = search rules

loop-again : tie.Need-loop-k-preserved invariant-loop decreases-loop
loop-again c = search rules

same_length : tie.Need-shape_of-out invariant-loop decreases-loop
same_length c = search rules

returns : tie.Need-returns invariant-loop decreases-loop
returns c = search rules

pub join_at_spec : {M : Type 1} → statement M
join_at_spec = tie.close (tie.spec
    invariant-loop
    decreases-loop
    keywords-requires
    loop-holds
    is-listed-requires
    put-row-requires
    add-k
    loop-less
    loop-again
    same_length
    returns)
