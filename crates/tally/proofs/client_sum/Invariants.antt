-- After k keywords the sum is that of their parts, and at most k × 2^59.
use Rattle.std.proofs.Common.{◌≡◌, ◌*◌, ◌^◌, ◌≤◌}
use Rattle.tally.proofs.Adding.{below}
use Rattle.tally.proofs.client_sum.Given as goal

abbrev pub invariant-loop-k : goal.invariant-loop-k
invariant-loop-k l = (l.sum ≤ l.k * 2 ^ 59) × (l.sum ≡ below l.key l.counts l.client l.k)
