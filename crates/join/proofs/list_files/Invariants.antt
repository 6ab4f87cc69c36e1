-- The occurrences of the files before the one that is next lie in the buffer up to `place` (Turns).
use Rattle.join.proofs.Turns.{Listing}
use Rattle.join.proofs.list_files.Given as goal

abbrev pub invariant-loop-number : goal.invariant-loop-number
invariant-loop-number l = Listing l.index l.recipes l.initial.out l.out l.number l.at l.place
