-- Before place j, the marks so far and the places that are left give the whole (Turns).
use Rattle.spec.specs.Store.{store_keys}
use Rattle.spec.specs.Recipes.{named}
use Rattle.compact.proofs.Turns.{Before}
use Rattle.compact.proofs.mark_file.Given as goal

abbrev pub invariant-loop-j : goal.invariant-loop-j
invariant-loop-j l = Before (store_keys l.store) (named l.file) l.initial.marks l.j l.marks
