-- The lines of the files before the one that is next lie in the buffer up to `place` (Turns).
use Rattle.query.proofs.Turns.{Lining}
use Rattle.query.proofs.write_lines.Given as goal

abbrev pub invariant-loop-number : goal.invariant-loop-number
invariant-loop-number l = Lining l.index l.recipes l.query l.initial.out l.out l.number l.at l.place
