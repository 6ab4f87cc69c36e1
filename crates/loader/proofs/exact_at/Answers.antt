use Rattle.std.proofs.Common.{sym, ◌∙◌, arith}
use Rattle.spec.specs.Form.{form_in}
use Rattle.loader.proofs.Rows.{row_is, row-set, row-three, head-full, record-row, exact-room}
use Rattle.loader.proofs.exact_at.Goals as goal

pub returns-then-is_set : goal.returns-then-is_set
returns-then-is_set c = row_is (row-set (form_in c.args.format) _ _ _ c.args.k c.requires.0 (sym c.is_set.ensures ∙ c.if-is_set.true))

pub bounds-index-at : goal.bounds-index-at
bounds-index-at c =
    omega (arith, head-full (form_in c.args.format) _ _ _ c.args.k c.requires.0 c.requires.1 c.requires.3 c.requires.4 (λ z. omega arith))

pub bounds-index-at-2 : goal.bounds-index-at-2
bounds-index-at-2 c =
    omega (arith, head-full (form_in c.args.format) _ _ _ c.args.k c.requires.0 c.requires.1 c.requires.3 c.requires.4 (λ z. omega arith))

pub read_offset-exact-requires : goal.read_offset-exact-requires
read_offset-exact-requires c = (
  omega arith,
  exact-room (form_in c.args.format) _ _ _ c.args.k c.requires.0 c.requires.1 c.requires.3 c.requires.4
      (sym c.is_set.ensures ∙ c.if-is_set.false) c.requires.5,
)

pub returns : goal.returns
returns c =
    rw (c.from-prefix.ensures, c.from-suffix.ensures)
    (record-row (form_in c.args.format) _ _ _ c.args.k c.requires.0 c.requires.1 c.requires.3 c.requires.4
    (sym c.is_set.ensures ∙ c.if-is_set.false) (λ whole.
    row-three (form_in c.args.format) _ _ _ c.requires.0 whole (λ z. omega arith) (λ z. omega arith) (λ z. omega arith) _
    c.read_offset-exact.ensures))
