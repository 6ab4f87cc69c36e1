-- `put_body` is safe and ends. Assumes nothing.
use borrow.Author.Rules.{rules}
use mathlib.Core.Path.{◌≡◌}
use Prim.Native.Nat.{◌≤◌, ◌-◌}
use lib.ListN.{length}
use Rattle.tests_vaults.proofs.encode.put_body.Statement.{statement}
use Rattle.tests_vaults.proofs.encode.put_body.Tie as tie

abbrev invariant-loop : tie.invariant-loop-k
invariant-loop out₀ at form m c n size a₀ k₀ out a k = (k ≤ n) × (length out ≡ length out₀)

abbrev decreases-loop : tie.decreases-loop-k
decreases-loop out₀ at form m c n size a₀ k₀ out a k = n - k

chunk-size-requires : tie.Need-chunk_size-size-requires invariant-loop decreases-loop
chunk-size-requires c κs = search rules

loop-holds : tie.Need-loop-k-init invariant-loop decreases-loop
loop-holds c = search rules

put-record-requires : tie.Need-put_record-b-requires invariant-loop decreases-loop
put-record-requires c κs = search rules

set-of-requires : tie.Need-set_of-requires invariant-loop decreases-loop
set-of-requires c κs = search rules

put-set-requires : tie.Need-put_set-a-requires invariant-loop decreases-loop
put-set-requires c κs = search rules

add-k : tie.Need-overflow_step-k invariant-loop decreases-loop
add-k c = search rules

loop-less : tie.Need-loop-k-smaller invariant-loop decreases-loop
loop-less c = search rules

loop-again : tie.Need-loop-k-preserved invariant-loop decreases-loop
loop-again c = search rules

same_length : tie.Need-shape_of-out invariant-loop decreases-loop
same_length c = search rules

returns : tie.Need-returns invariant-loop decreases-loop
returns c = search rules

pub put_body_spec : {M : Type 1} → statement M
put_body_spec = tie.close (tie.spec
    invariant-loop
    decreases-loop
    chunk-size-requires
    loop-holds
    put-record-requires
    set-of-requires
    put-set-requires
    add-k
    loop-less
    loop-again
    same_length
    returns)
