use Rattle.automaton_lanes.proofs.Four.{Four}
use Rattle.automaton_lanes.proofs.walk_four.Given as goal

abbrev pub invariant-loop-i : goal.invariant-loop-i
invariant-loop-i l =
    Four l.list l.n0 l.n1 l.n2 l.n3 l.b0 l.b1 l.b2 l.b3 l.at0 l.at1 l.at2 l.at3 l.initial.log0 l.initial.log1 l.initial.log2 l.initial.log3
    l.c0 l.c1 l.c2 l.c3 l.moves l.k0 l.k1 l.k2 l.k3 l.i l.log0 l.log1 l.log2 l.log3
