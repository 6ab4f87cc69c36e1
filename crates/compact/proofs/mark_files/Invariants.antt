-- Before file `counter`, which starts at `at`: the marks so far and the files that are left give the whole (Turns).
use Rattle.compact.proofs.Turns.{Along}
use Rattle.compact.proofs.mark_files.Given as goal

abbrev pub invariant-loop : goal.invariant-loop
invariant-loop l = Along l.store l.recipes l.initial.marks l.counter l.at l.marks
