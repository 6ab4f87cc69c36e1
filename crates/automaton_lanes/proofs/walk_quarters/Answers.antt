-- Each lane starts at the node after the quarter before it.
use Rattle.std.proofs.Common.{refl, arith}
use Rattle.automaton_lanes.proofs.Quarters.{quarters-can, quarters-few, quarters-end, quarters-log}
use Rattle.automaton_lanes.proofs.walk_quarters.Goals as goal

pub walk_four-w-requires : goal.walk_four-w-requires
walk_four-w-requires c =
    quarters-can _ c.last_node-n1.ensures c.last_node-n2.ensures c.last_node-n3.ensures c.requires.can_walk_lanes c.requires.bytes_len.0 c.requires.bytes_len.1
    _ _ _ _ refl refl refl refl

pub append-k2-requires : goal.append-k2-requires
append-k2-requires c =
    let few =
    quarters-few _ c.last_node-n1.ensures c.last_node-n2.ensures c.last_node-n3.ensures c.requires.can_walk_lanes c.requires.bytes_len.0 c.requires.bytes_len.1
    _ c.walk_four-w.ensures.answer in
    (omega (arith, few.1), omega (arith, few.0, few.1))

pub append-k3-requires : goal.append-k3-requires
append-k3-requires c =
    let few =
    quarters-few _ c.last_node-n1.ensures c.last_node-n2.ensures c.last_node-n3.ensures c.requires.can_walk_lanes c.requires.bytes_len.0 c.requires.bytes_len.1
    _ c.walk_four-w.ensures.answer in
    (omega (arith, few.2), omega (arith, few.0, few.1, few.2))

pub append-k4-requires : goal.append-k4-requires
append-k4-requires c =
    let few =
    quarters-few _ c.last_node-n1.ensures c.last_node-n2.ensures c.last_node-n3.ensures c.requires.can_walk_lanes c.requires.bytes_len.0 c.requires.bytes_len.1
    _ c.walk_four-w.ensures.answer in
    (omega (arith, few.3), omega (arith, few.0, few.1, few.2, few.3))

pub returns-clause-answer : goal.returns-clause-answer
returns-clause-answer c =
    quarters-end _ c.last_node-n1.ensures c.last_node-n2.ensures c.last_node-n3.ensures c.requires.can_walk_lanes c.requires.bytes_len.0 c.requires.bytes_len.1
    _ c.walk_four-w.ensures.answer _ _ _ c.append-k2.ensures.count c.append-k3.ensures.count c.append-k4.ensures.count

pub returns-clause-entries : goal.returns-clause-entries
returns-clause-entries c =
    let w = c.walk_four-w.ensures in
    quarters-log _ c.last_node-n1.ensures c.last_node-n2.ensures c.last_node-n3.ensures c.requires.can_walk_lanes c.requires.bytes_len.0 c.requires.bytes_len.1
    _ w.answer _ _ c.append-k2.ensures.count c.append-k3.ensures.count _ _ _ _ _ _ _ _ _ _ _
    w.entries0 w.entries1 w.entries2 w.entries3 c.append-k2.ensures.entries c.append-k3.ensures.entries c.append-k4.ensures.entries
