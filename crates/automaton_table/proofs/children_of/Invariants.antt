use Rattle.spec.specs.Keywords.{folded_keywords}
use Rattle.trie.specs.Numbers.{node_at}
use Rattle.automaton_table.proofs.Rows.{Born}
use Rattle.automaton_table.proofs.children_of.Given as goal

abbrev pub invariant-loop-t : goal.invariant-loop-t
invariant-loop-t l = Born (folded_keywords l.list) (node_at (folded_keywords l.list) l.s) l.children l.t
