-- `put_entries` is safe and ends. Assumes nothing.
use borrow.Author.Rules.{rules}
use mathlib.Core.Path.{◌≡◌}
use Prim.Native.Nat.{◌≤◌, ◌-◌}
use lib.ListN.{length}
use Rattle.tests_wide.proofs.beyond.put_entries.Statement.{statement}
use Rattle.tests_wide.proofs.beyond.put_entries.Tie as tie

abbrev invariant-loop : tie.invariant-loop-e
invariant-loop f₀ i n start at₀ e₀ f at e =
    (e ≤ n) × (length f ≡ length f₀)

abbrev decreases-loop : tie.decreases-loop-e
decreases-loop f₀ i n start at₀ e₀ f at e =
    n - e

loop-holds : tie.Need-loop-e-init invariant-loop decreases-loop
loop-holds c = search rules

put-entry-requires : tie.Need-put_entry-at-requires invariant-loop decreases-loop
put-entry-requires c κs = search rules

add-e : tie.Need-overflow_step-e invariant-loop decreases-loop
add-e c = search rules

loop-less : tie.Need-loop-e-smaller invariant-loop decreases-loop
loop-less c = search rules

loop-again : tie.Need-loop-e-preserved invariant-loop decreases-loop
loop-again c = search rules

same_length : tie.Need-shape_of-f invariant-loop decreases-loop
same_length c = search rules

returns : tie.Need-returns invariant-loop decreases-loop
returns c = search rules

pub put_entries_spec : {M : Type 1} → statement M
put_entries_spec = tie.close (tie.spec
    invariant-loop
    decreases-loop
    loop-holds
    put-entry-requires
    add-e
    loop-less
    loop-again
    same_length
    returns)
