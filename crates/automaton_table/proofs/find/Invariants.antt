-- Where the node is among those from s on.
use Rattle.std.proofs.Common.{◌≡◌, ◌+◌, drop}
use Rattle.spec.specs.Bytes.{position_of}
use Rattle.automaton_table.specs.Building.{run, nodes_in}
use Rattle.automaton_table.proofs.find.Given as goal

abbrev pub invariant-loop-s : goal.invariant-loop-s
invariant-loop-s l =
    let nodes = nodes_in l.flag l.list l.starts l.lens l.count in
    let key = run l.flag l.list l.at l.n in
    l.s + position_of key (drop l.s nodes) ≡ position_of key nodes
