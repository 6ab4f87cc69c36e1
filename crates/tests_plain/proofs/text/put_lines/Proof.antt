-- `put_lines` is safe and ends. Assumes nothing.
use Rattle.std.proofs.Common.{◌≡◌, ◌-◌, ◌≤◌, length, rules}
use Rattle.tests_plain.proofs.text.put_lines.Statement.{statement}
use Rattle.tests_plain.proofs.text.put_lines.Tie as tie

abbrev invariant-loop : tie.invariant-loop-row
invariant-loop out₀ start f n at₀ row₀ out at row = (row ≤ n) × (length out ≡ length out₀)

abbrev decreases-loop : tie.decreases-loop-row
decreases-loop out₀ start f n at₀ row₀ out at row = n - row

loop-holds : tie.Need-loop-row-init invariant-loop decreases-loop
loop-holds c = search rules

put-line-requires : tie.Need-put_line-at-requires invariant-loop decreases-loop
put-line-requires c κs = search rules

add_row : tie.Need-overflow_step-row invariant-loop decreases-loop
add_row c = search rules

loop-less : tie.Need-loop-row-smaller invariant-loop decreases-loop
loop-less c = search rules

loop-again : tie.Need-loop-row-preserved invariant-loop decreases-loop
loop-again c = search rules

same_length : tie.Need-shape_of-out invariant-loop decreases-loop
same_length c = search rules

returns : tie.Need-returns invariant-loop decreases-loop
returns c = search rules

pub put_lines_spec : {M : Type 1} → statement M
put_lines_spec = tie.close (tie.spec
    invariant-loop
    decreases-loop
    loop-holds
    put-line-requires
    add_row
    loop-less
    loop-again
    same_length
    returns)
