use Rattle.automaton_table.specs.Building.{Built}
use Rattle.automaton_table.proofs.fill_table.Given as goal

abbrev pub invariant-loop-d : goal.invariant-loop-d
invariant-loop-d l = Built l.list l.initial.table l.table l.d 0
