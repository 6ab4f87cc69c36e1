-- `put_number` is safe and ends. Assumes nothing.
use Rattle.std.proofs.Common.{◌≡◌, ◌-◌, ◌≤◌, length, rules}
use Rattle.tests_plain.proofs.text.put_number.Statement.{statement}
use Rattle.tests_plain.proofs.text.put_number.Tie as tie

abbrev invariant-loop : tie.invariant-loop-i
invariant-loop out₀ start n digits at₀ power₀ i₀ out at power i = (i ≤ digits) × (length out ≡ length out₀)

abbrev decreases-loop : tie.decreases-loop-i
decreases-loop out₀ start n digits at₀ power₀ i₀ out at power i = digits - i

loop-holds : tie.Need-loop-i-init invariant-loop decreases-loop
loop-holds c = search rules

is-front-requires : tie.Need-is_front-requires invariant-loop decreases-loop
is-front-requires c κs = search rules

digit-requires : tie.Need-digit-requires invariant-loop decreases-loop
digit-requires c κs = search rules

put-digit-requires : tie.Need-put_digit-at-requires invariant-loop decreases-loop
put-digit-requires c κs = search rules

add-i : tie.Need-overflow_step-i invariant-loop decreases-loop
add-i c = search rules

loop-less : tie.Need-loop-i-smaller invariant-loop decreases-loop
loop-less c = search rules

loop-again : tie.Need-loop-i-preserved invariant-loop decreases-loop
loop-again c = search rules

same_length : tie.Need-shape_of-out invariant-loop decreases-loop
same_length c = search rules

returns : tie.Need-returns invariant-loop decreases-loop
returns c = search rules

pub put_number_spec : {M : Type 1} → statement M
put_number_spec = tie.close (tie.spec
    invariant-loop
    decreases-loop
    loop-holds
    is-front-requires
    digit-requires
    put-digit-requires
    add-i
    loop-less
    loop-again
    same_length
    returns)
