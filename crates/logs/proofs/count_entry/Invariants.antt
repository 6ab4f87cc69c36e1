-- Members below `from` are counted, `rest` has the others.
use Rattle.std.proofs.Common.{◌≡◌, ◌+◌, ◌-◌, ◌/◌, ◌^◌, get_or}
use Rattle.logs.proofs.Bits.{Changed}
use Rattle.logs.proofs.count_entry.Given as goal

abbrev pub invariant-loop-rest : goal.invariant-loop-rest
invariant-loop-rest l = record {
  left : l.rest ≡ l.members / 2 ^ l.from;
  counts : Changed l.members (λ k x. x + 1) l.from l.initial.counts l.counts;
  firsts : Changed l.members (λ k x. l.end - get_or l.len k 0) l.from l.initial.firsts l.firsts;
}

abbrev pub decreases-loop-rest : goal.decreases-loop-rest
decreases-loop-rest l = 16 - l.from
