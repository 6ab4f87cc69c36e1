-- The node that the bytes so far lead to, by what is left of them.
use Rattle.spec.specs.Keywords.{flag_of, folded, folded_keywords}
use Rattle.automaton.proofs.Lanes.{Reached}
use Rattle.automaton.proofs.node_after.Given as goal

abbrev pub invariant-loop-b : goal.invariant-loop-b
invariant-loop-b l = Reached (folded_keywords l.list) (folded (flag_of l.list) l.bytes) l.cell l.b-index
