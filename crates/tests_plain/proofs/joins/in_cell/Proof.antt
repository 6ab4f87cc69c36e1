-- `in_cell` is safe and ends. Assumes nothing.
use Rattle.std.proofs.Common.{◌-◌, ◌≤◌, rules}
use Rattle.tests_plain.proofs.joins.in_cell.Statement.{statement}
use Rattle.tests_plain.proofs.joins.in_cell.Tie as tie

abbrev invariant-loop : tie.invariant-loop-p
invariant-loop m k i j start n p₀ p = (p ≤ n)

abbrev decreases-loop : tie.decreases-loop-p
decreases-loop m k i j start n p₀ p = n - p

keyword-size-requires : tie.Need-keyword_size-n-requires invariant-loop decreases-loop
keyword-size-requires c κs = search rules

plus-requires : tie.Need-plus-requires invariant-loop decreases-loop
plus-requires c κs = search rules

plus-requires-2 : tie.Need-plus-requires-2 invariant-loop decreases-loop
plus-requires-2 c κs = search rules

returns : tie.Need-returns-then-plus invariant-loop decreases-loop
returns c = search rules

loop-holds : tie.Need-loop-p-init invariant-loop decreases-loop
loop-holds c = search rules

keyword-at-requires : tie.Need-keyword_at-requires invariant-loop decreases-loop
keyword-at-requires c κs = search rules

plus-requires-3 : tie.Need-plus-requires-in-loop-p invariant-loop decreases-loop
plus-requires-3 c κs = search rules

plus-requires-4 : tie.Need-plus-requires-in-loop-p-2 invariant-loop decreases-loop
plus-requires-4 c κs = search rules

get-requires : tie.Need-get-a-requires invariant-loop decreases-loop
get-requires c κs = search rules

keyword-at-requires-2 : tie.Need-keyword_at-requires-in-loop-p invariant-loop decreases-loop
keyword-at-requires-2 c κs = search rules

plus-requires-5 : tie.Need-plus-requires-in-loop-p-3 invariant-loop decreases-loop
plus-requires-5 c κs = search rules

plus-requires-6 : tie.Need-plus-requires-in-loop-p-4 invariant-loop decreases-loop
plus-requires-6 c κs = search rules

border-byte-requires : tie.Need-border_byte-requires invariant-loop decreases-loop
border-byte-requires c κs = search rules

plus-requires-7 : tie.Need-plus-requires-in-loop-p-5 invariant-loop decreases-loop
plus-requires-7 c κs = search rules

get-requires-2 : tie.Need-get-b-requires invariant-loop decreases-loop
get-requires-2 c κs = search rules

flag-requires : tie.Need-flag-requires invariant-loop decreases-loop
flag-requires c κs = search rules

folded-requires : tie.Need-folded-requires invariant-loop decreases-loop
folded-requires c κs = search rules

flag-requires-2 : tie.Need-flag-requires-in-loop-p invariant-loop decreases-loop
flag-requires-2 c κs = search rules

folded-requires-2 : tie.Need-folded-requires-in-loop-p invariant-loop decreases-loop
folded-requires-2 c κs = search rules

returns-2 : tie.Need-returns-then-folded invariant-loop decreases-loop
returns-2 c = search rules

add-p : tie.Need-overflow_step-p invariant-loop decreases-loop
add-p c = search rules

loop-less : tie.Need-loop-p-smaller invariant-loop decreases-loop
loop-less c = search rules

loop-again : tie.Need-loop-p-preserved invariant-loop decreases-loop
loop-again c = search rules

returns-3 : tie.Need-returns invariant-loop decreases-loop
returns-3 c = search rules

pub in_cell_spec : {M : Type 1} → statement M
in_cell_spec = tie.close (tie.spec
    invariant-loop
    decreases-loop
    keyword-size-requires
    plus-requires
    plus-requires-2
    returns
    loop-holds
    keyword-at-requires
    plus-requires-3
    plus-requires-4
    get-requires
    keyword-at-requires-2
    plus-requires-5
    plus-requires-6
    border-byte-requires
    plus-requires-7
    get-requires-2
    flag-requires
    folded-requires
    flag-requires-2
    folded-requires-2
    returns-2
    add-p
    loop-less
    loop-again
    returns-3)
