-- `prefix` is safe and ends. Assumes nothing.
use Rattle.std.proofs.Common.{◌-◌, ◌≤◌, rules}
use Rattle.tests_plain.proofs.records.prefix.Statement.{statement}
use Rattle.tests_plain.proofs.records.prefix.Tie as tie

abbrev invariant-loop : tie.invariant-loop-i
invariant-loop m c k size reach best₀ i₀ best i = (i ≤ reach)

abbrev decreases-loop : tie.decreases-loop-i
decreases-loop m c k size reach best₀ i₀ best i = reach - i

chunk-size-requires : tie.Need-chunk_size-size-requires invariant-loop decreases-loop
chunk-size-requires c κs = search rules

keyword-size-requires : tie.Need-keyword_size-requires invariant-loop decreases-loop
keyword-size-requires c κs = search rules

less-requires : tie.Need-less-requires invariant-loop decreases-loop
less-requires c κs = search rules

least-requires : tie.Need-least-reach-requires invariant-loop decreases-loop
least-requires c κs = search rules

loop-holds : tie.Need-loop-i-init invariant-loop decreases-loop
loop-holds c = search rules

plus-requires : tie.Need-plus-j-requires invariant-loop decreases-loop
plus-requires c κs = search rules

flag-requires : tie.Need-flag-requires invariant-loop decreases-loop
flag-requires c κs = search rules

keyword-at-requires : tie.Need-keyword_at-requires invariant-loop decreases-loop
keyword-at-requires c κs = search rules

plus-requires-2 : tie.Need-plus-requires invariant-loop decreases-loop
plus-requires-2 c κs = search rules

chunk-at-requires : tie.Need-chunk_at-requires invariant-loop decreases-loop
chunk-at-requires c κs = search rules

less-requires-2 : tie.Need-less-requires-in-loop-i invariant-loop decreases-loop
less-requires-2 c κs = search rules

plus-requires-3 : tie.Need-plus-requires-in-loop-i invariant-loop decreases-loop
plus-requires-3 c κs = search rules

alike-requires : tie.Need-alike-requires invariant-loop decreases-loop
alike-requires c κs = search rules

add-i : tie.Need-overflow_step-i invariant-loop decreases-loop
add-i c = search rules

loop-less : tie.Need-loop-i-smaller invariant-loop decreases-loop
loop-less c = search rules

loop-again : tie.Need-loop-i-preserved invariant-loop decreases-loop
loop-again c = search rules

returns : tie.Need-returns invariant-loop decreases-loop
returns c = search rules

pub prefix_spec : {M : Type 1} → statement M
prefix_spec = tie.close (tie.spec
    invariant-loop
    decreases-loop
    chunk-size-requires
    keyword-size-requires
    less-requires
    least-requires
    loop-holds
    plus-requires
    flag-requires
    keyword-at-requires
    plus-requires-2
    chunk-at-requires
    less-requires-2
    plus-requires-3
    alike-requires
    add-i
    loop-less
    loop-again
    returns)
