-- `put_body` is safe and ends. Assumes nothing.
use Rattle.std.proofs.Common.{◌≡◌, ◌-◌, ◌≤◌, length, rules}
use Rattle.tests_sets.proofs.set_bodies.put_body.Statement.{statement}
use Rattle.tests_sets.proofs.set_bodies.put_body.Tie as tie

abbrev invariant-loop : tie.invariant-loop-j
invariant-loop out₀ start i n at₀ j₀ out at j =
    (j ≤ n) × (length out ≡ length out₀)

abbrev decreases-loop : tie.decreases-loop-j
decreases-loop out₀ start i n at₀ j₀ out at j =
    n - j

loop-holds : tie.Need-loop-j-init invariant-loop decreases-loop
loop-holds c = search rules

put-byte-requires : tie.Need-put_byte-at-requires invariant-loop decreases-loop
put-byte-requires c κs = search rules

add-j : tie.Need-overflow_step-j invariant-loop decreases-loop
add-j c = search rules

loop-less : tie.Need-loop-j-smaller invariant-loop decreases-loop
loop-less c = search rules

loop-again : tie.Need-loop-j-preserved invariant-loop decreases-loop
loop-again c = search rules

same_length : tie.Need-shape_of-out invariant-loop decreases-loop
same_length c = search rules

returns : tie.Need-returns invariant-loop decreases-loop
returns c = search rules

pub put_body_spec : {M : Type 1} → statement M
put_body_spec = tie.close (tie.spec
    invariant-loop
    decreases-loop
    loop-holds
    put-byte-requires
    add-j
    loop-less
    loop-again
    same_length
    returns)
