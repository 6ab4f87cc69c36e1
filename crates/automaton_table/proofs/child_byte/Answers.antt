use Rattle.std.proofs.Common.{◌∙◌, arith}
use Rattle.automaton_table.proofs.Rows.{byte-other, byte-yes, byte-no}
use Rattle.automaton_table.proofs.child_byte.Goals as goal
use Rattle.automaton_table.proofs.child_byte.Goals.{else-n-m-via-then-n-m+else-alike_at, else-n-m-via-else-n-m}

pub returns-then-alike_at-clause-byte : goal.returns-then-alike_at-clause-byte
returns-then-alike_at-clause-byte c =
    let a = c.args in
    byte-yes a.flag a.list.now a.a a.m a.b a.n c.requires.0 c.requires.1 _ _ (omega arith) c.alike_at.ensures c.if-alike_at.true
    (c.from.ensures ∙ c.fold.ensures)

pub returns-else-n-m-clause-byte : goal.returns-else-n-m-clause-byte
returns-else-n-m-clause-byte c =
    let a = c.args in
    elim c.else-n-m.branch [
      | else-n-m-via-then-n-m+else-alike_at w ↦
          byte-no a.flag a.list.now a.a a.m a.b a.n c.requires.0 c.requires.1 _ (omega arith) w.alike_at.ensures w.if-alike_at.false
      | else-n-m-via-else-n-m w ↦ byte-other a.flag a.list.now a.a a.m a.b a.n c.requires.0 c.requires.1 (λ e. w.if-n-m.false (omega arith))
    ]
