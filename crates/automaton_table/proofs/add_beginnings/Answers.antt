use Rattle.automaton_table.proofs.Numbered.{adding-on, adding-end}
use Rattle.automaton_table.proofs.add_beginnings.Goals as goal

pub loop-i-preserved : goal.loop-i-preserved
loop-i-preserved c =
    adding-on _ _ _ _ c.requires.within.1 _ _ _ _ _ _ c.loop-i.invariant c.loop-i-test.true c.requires.starts_len.2 _ _ c.find-found.ensures
    c.one_more-nodes.ensures

pub returns : goal.returns
returns c = adding-end _ _ _ _ c.requires.within.1 _ _ _ _ _ _ c.loop-i.invariant c.loop-i-test.false
