use Rattle.automaton_table.specs.Building.{nodes_in}
use Rattle.automaton_table.proofs.Numbered.{Adding}
use Rattle.automaton_table.proofs.add_beginnings.Given as goal

abbrev pub invariant-loop-i : goal.invariant-loop-i
invariant-loop-i l =
    Adding l.flag l.list (nodes_in l.flag l.list l.initial.starts l.initial.lens l.count) l.count l.at l.n l.starts l.lens l.nodes l.i
