-- The walk so far, by what is left of it.
use Rattle.automaton.proofs.Lanes.{Running}
use Rattle.automaton.proofs.walk.Given as goal

abbrev pub invariant-loop-i : goal.invariant-loop-i
invariant-loop-i l = Running l.list l.node l.bytes l.at l.initial.log l.cell l.moves l.k l.i l.log
