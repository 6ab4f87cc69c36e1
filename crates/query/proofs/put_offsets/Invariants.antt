-- The offsets before the one that is next lie in the buffer up to p (LineBytes).
use Rattle.query.proofs.LineBytes.{Offsets}
use Rattle.query.proofs.put_offsets.Given as goal

abbrev pub invariant-loop-offset : goal.invariant-loop-offset
invariant-loop-offset l = Offsets l.initial.out l.at l.offsets l.out l.p l.offset-index
