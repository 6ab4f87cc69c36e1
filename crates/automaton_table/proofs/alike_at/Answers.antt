use Rattle.std.proofs.Common.{sym, ◌∙◌, ne_eqb, arith}
use Rattle.spec.proofs.Same.{same-lengths}
use Rattle.automaton_table.proofs.Numbered.{run_length, alike_is}
use Rattle.automaton_table.proofs.alike_at.Goals as goal

pub returns-then-m-n : goal.returns-then-m-n
returns-then-m-n c =
    let a = c.args in
    rw c.if-m-n.true (rw c.if-m-n.true at c.occurs_at.ensures ∙ alike_is a.flag a.list.now a.a a.b a.n (omega arith) (omega arith))

pub returns-else-m-n : goal.returns-else-m-n
returns-else-m-n c =
    let a = c.args in
    ne_eqb a.m a.n c.if-m-n.false
    ∙ same-lengths _ _ (λ e. c.if-m-n.false (sym (run_length a.flag a.list.now a.a a.m c.requires.0) ∙ e ∙ run_length a.flag a.list.now a.b a.n c.requires.1))
