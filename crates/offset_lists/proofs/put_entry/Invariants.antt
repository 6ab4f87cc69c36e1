-- With the pieces of the members from `from` on written, the buffer is as promised.
use Rattle.std.proofs.Common.{◌≡◌, ◌-◌, ◌/◌, ◌^◌}
use Rattle.logs.proofs.Bits.{Changed}
use Rattle.offset_lists.proofs.Filling.{moves, Promised}
use Rattle.offset_lists.proofs.put_entry.Given as goal

abbrev pub invariant-loop-rest : goal.invariant-loop-rest
invariant-loop-rest l = record {
  left : l.rest ≡ l.members / 2 ^ l.from;
  cursors : Changed l.members (moves l.counts l.len l.members l.end) l.from l.initial.cursors l.cursors;
  bytes : Promised l.counts l.len l.members l.end l.initial.out l.initial.cursors l.out l.cursors l.from;
}

abbrev pub decreases-loop-rest : goal.decreases-loop-rest
decreases-loop-rest l = 16 - l.from
