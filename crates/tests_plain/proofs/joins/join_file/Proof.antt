-- `join_file` is safe and ends. Assumes nothing.
use Rattle.std.proofs.Common.{◌≡◌, ◌-◌, ◌≤◌, length, rules}
use Rattle.tests_plain.proofs.joins.join_file.Statement.{statement}
use Rattle.tests_plain.proofs.joins.join_file.Tie as tie

abbrev invariant-loop : tie.invariant-loop-at
invariant-loop m form f out₀ row n r₀ at₀ out r at =
    (at ≤ n) × (length out ≡ length out₀)

abbrev decreases-loop : tie.decreases-loop-at
decreases-loop m form f out₀ row n r₀ at₀ out r at =
    n - at

file-size-requires : tie.Need-file_size-requires invariant-loop decreases-loop
file-size-requires c κs = search rules

end-of-requires : tie.Need-end_of-n-requires invariant-loop decreases-loop
end-of-requires c κs = search rules

loop-holds : tie.Need-loop-at-init invariant-loop decreases-loop
loop-holds c = search rules

join-at-requires : tie.Need-join_at-r-requires invariant-loop decreases-loop
join-at-requires c κs = search rules

add_at : tie.Need-overflow_step-at invariant-loop decreases-loop
add_at c = search rules

loop-less : tie.Need-loop-at-smaller invariant-loop decreases-loop
loop-less c = search rules

loop-again : tie.Need-loop-at-preserved invariant-loop decreases-loop
loop-again c = search rules

same_length : tie.Need-shape_of-out invariant-loop decreases-loop
same_length c = search rules

returns : tie.Need-returns invariant-loop decreases-loop
returns c = search rules

pub join_file_spec : {M : Type 1} → statement M
join_file_spec = tie.close (tie.spec
    invariant-loop
    decreases-loop
    file-size-requires
    end-of-requires
    loop-holds
    join-at-requires
    add_at
    loop-less
    loop-again
    same_length
    returns)
