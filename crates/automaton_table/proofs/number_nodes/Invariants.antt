use Rattle.automaton_table.proofs.Words.{Numbering}
use Rattle.automaton_table.proofs.number_nodes.Given as goal

abbrev pub invariant-loop-k : goal.invariant-loop-k
invariant-loop-k l = Numbering l.list l.words l.starts l.lens l.count l.k
