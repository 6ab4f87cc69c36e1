use Rattle.automaton_table.specs.Building.{Built}
use Rattle.automaton_table.proofs.fill_depth.Given as goal

abbrev pub invariant-loop-s : goal.invariant-loop-s
invariant-loop-s l = Built l.list l.initial.table l.table l.d l.s
