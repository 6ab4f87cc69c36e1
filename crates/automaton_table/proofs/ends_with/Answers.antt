use Rattle.std.proofs.Common.{◌∙◌}
use Rattle.std.proofs.lemmas.Bool.{lt-leb}
use Rattle.automaton_table.proofs.Numbered.{ends_is, ends-short}
use Rattle.automaton_table.proofs.ends_with.Goals as goal

pub returns-then-m-n : goal.returns-then-m-n
returns-then-m-n c =
    let a = c.args in
    ends_is a.flag a.list.now a.a a.m a.b a.n _ c.requires.0 c.requires.1 c.if-m-n.true c.alike_at.ensures

pub returns-else-m-n : goal.returns-else-m-n
returns-else-m-n c =
    let a = c.args in
    lt-leb a.m a.n c.if-m-n.false ∙ ends-short a.flag a.list.now a.a a.m a.b a.n c.requires.0 c.requires.1 c.if-m-n.false
