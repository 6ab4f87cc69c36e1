-- `fill` is safe and ends. Assumes nothing.
use Rattle.std.proofs.Common.{◌≡◌, ◌-◌, ◌≤◌, length, rules}
use Rattle.tests_plain.proofs.bytes.fill.Statement.{statement}
use Rattle.tests_plain.proofs.bytes.fill.Tie as tie

abbrev invariant-loop : tie.invariant-loop-i
invariant-loop s₀ b n i₀ s i = (i ≤ n) × (length s ≡ length s₀)

abbrev decreases-loop : tie.decreases-loop-i
decreases-loop s₀ b n i₀ s i = n - i

loop-holds : tie.Need-loop-i-init invariant-loop decreases-loop
loop-holds c = search rules

put-requires : tie.Need-put-requires invariant-loop decreases-loop
put-requires c κs = search rules

add-i : tie.Need-overflow_step-i invariant-loop decreases-loop
add-i c = search rules

loop-less : tie.Need-loop-i-smaller invariant-loop decreases-loop
loop-less c = search rules

loop-again : tie.Need-loop-i-preserved invariant-loop decreases-loop
loop-again c = search rules

same_length : tie.Need-shape_of-s invariant-loop decreases-loop
same_length c = search rules

returns : tie.Need-returns invariant-loop decreases-loop
returns c = search rules

pub fill_spec : {M : Type 1} → statement M
fill_spec = tie.close (tie.spec
    invariant-loop
    decreases-loop
    loop-holds
    put-requires
    add-i
    loop-less
    loop-again
    same_length
    returns)
