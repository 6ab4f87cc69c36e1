use Rattle.std.proofs.Common.{◌∙◌, sym}
use Rattle.tables.proofs.Cells.{in-cell-parts}
use Rattle.tables.proofs.in_cell.Goals as goal

pub returns-then-occurs_at : goal.returns-then-occurs_at
returns-then-occurs_at c =
    let a = c.args in
    let parts = in-cell-parts a.flag a.keyword.now a.i a.j a.s c.requires.0 c.requires.1 c.requires.2 in
    sym (parts ∙ rw (sym c.occurs_at.ensures ∙ c.if-occurs_at.true) (sym c.occurs_at-then-occurs_at.ensures))

pub returns-else-occurs_at : goal.returns-else-occurs_at
returns-else-occurs_at c =
    let a = c.args in
    let parts = in-cell-parts a.flag a.keyword.now a.i a.j a.s c.requires.0 c.requires.1 c.requires.2 in
    sym (parts ∙ rw (sym c.occurs_at.ensures ∙ c.if-occurs_at.false) (sym c.if-occurs_at.false))
