use Rattle.automaton_table.proofs.Rows.{link-root, link-after}
use Rattle.automaton_table.proofs.link_of.Goals as goal

pub returns-then-n-eq0 : goal.returns-then-n-eq0
returns-then-n-eq0 c = link-root _ _ _ c.args.at c.args.n c.if-n-eq0.true

pub returns : goal.returns
returns c = link-after _ c.args.at c.args.n _ c.if-n-eq0.false c.requires.1 c.node_after.ensures
