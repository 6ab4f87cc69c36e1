use Rattle.automaton_table.proofs.Words.{words-flag}
use Rattle.automaton_table.proofs.Table.{can-fill}
use Rattle.automaton_table.proofs.fill_row.Goals as goal

pub children_of-children-requires : goal.children_of-children-requires
children_of-children-requires c =
    let can = c.requires.can_build in
    (can.0.ready.numbered, words-flag _ _ can.0.ready.reads, can.1)

pub row_of-row-requires : goal.row_of-row-requires
row_of-row-requires c =
    let can = c.requires.can_build in
    can-fill _ _ _ _ _ _ _ can.0 _ _ _ _ can.1 c.if-lens-s.false c.requires.rows c.link_of-linked.ensures c.children_of-children.ensures
