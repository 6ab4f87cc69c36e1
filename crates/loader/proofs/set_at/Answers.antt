use Rattle.std.proofs.Common.{sym, ◌∙◌, ◌+◌, arith}
use Rattle.spec.specs.Form.{form_in}
use Rattle.spec.proofs.FieldLists.{field_lt}
use Rattle.loader.specs.Loaded.{row_end}
use Rattle.loader.proofs.Rows.{set-short, set_here, set-absent}
use Rattle.loader.proofs.set_at.Goals.{then-left-lt-SET_SIZE-via-then-left-lt-SET_SIZE, then-left-lt-SET_SIZE-via-else-left-lt-SET_SIZE+then-not-is_set}
use Rattle.loader.proofs.set_at.Goals as goal

pub returns-then-left-lt-SET_SIZE : goal.returns-then-left-lt-SET_SIZE
returns-then-left-lt-SET_SIZE c = elim c.then-left-lt-SET_SIZE.branch [
  | then-left-lt-SET_SIZE-via-then-left-lt-SET_SIZE w ↦ set-short (form_in c.args.format) _ _ c.args.row c.args.k w.if-left-lt-SET_SIZE.true
  | then-left-lt-SET_SIZE-via-else-left-lt-SET_SIZE+then-not-is_set w ↦
      set-absent (form_in c.args.format) _ _ c.args.row c.args.k w.if-left-lt-SET_SIZE.false (sym w.is_set.ensures ∙ w.if-not-is_set.true)
]

pub overflow_cast-result : goal.overflow_cast-result
overflow_cast-result c =
    omega (arith, c.read.ensures, field_lt c.args.index.now (row_end c.args.format.width c.args.row + 2) 4 (λ i. omega (arith, c.type_inv.index i)))

pub returns : goal.returns
returns c =
    c.read.ensures
    ∙ set_here (form_in c.args.format) _ _ c.args.row c.args.k c.if-left-lt-SET_SIZE.false (sym c.is_set.ensures ∙ c.if-not-is_set.false)
