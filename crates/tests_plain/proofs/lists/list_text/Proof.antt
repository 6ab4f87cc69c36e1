-- `list_text` is safe and ends. Assumes nothing.
use Rattle.std.proofs.Common.{◌≡◌, ◌-◌, ◌≤◌, length, rules}
use Rattle.tests_plain.proofs.lists.list_text.Statement.{statement}
use Rattle.tests_plain.proofs.lists.list_text.Tie as tie

abbrev invariant-loop : tie.invariant-loop-at
invariant-loop m text size file out₀ row n r₀ at₀ out r at = (at ≤ size) × (length out ≡ length out₀)

abbrev decreases-loop : tie.decreases-loop-at
decreases-loop m text size file out₀ row n r₀ at₀ out r at = size - at

keywords-requires : tie.Need-keywords-n-requires invariant-loop decreases-loop
keywords-requires c κs = search rules

loop-holds : tie.Need-loop-at-init invariant-loop decreases-loop
loop-holds c = search rules

list-at-requires : tie.Need-list_at-r-requires invariant-loop decreases-loop
list-at-requires c κs = search rules

add_at : tie.Need-overflow_step-at invariant-loop decreases-loop
add_at c = search rules

loop-less : tie.Need-loop-at-smaller invariant-loop decreases-loop
loop-less c = search rules

loop-again : tie.Need-loop-at-preserved invariant-loop decreases-loop
loop-again c = search rules

same_length : tie.Need-shape_of-out invariant-loop decreases-loop
same_length c = search rules

returns : tie.Need-returns invariant-loop decreases-loop
returns c = search rules

pub list_text_spec : {M : Type 1} → statement M
list_text_spec = tie.close (tie.spec
    invariant-loop
    decreases-loop
    keywords-requires
    loop-holds
    list-at-requires
    add_at
    loop-less
    loop-again
    same_length
    returns)
