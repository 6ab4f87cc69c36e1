-- Each kind's row is a law of Rows.
use Rattle.std.proofs.Common.{arith}
use Rattle.spec.specs.Form.{form_in}
use Rattle.loader.proofs.Rows.{head-least, head-full, not_set, record-row, row-tiny, row-none, row_one, row-two}
use Rattle.loader.proofs.record_at.Goals as goal

pub bounds-index-at : goal.bounds-index-at
bounds-index-at c = omega (arith, head-least (form_in c.args.format) _ _ _ c.args.k c.requires.0 c.requires.1 c.requires.3 c.requires.4)

pub bounds-index-at-2 : goal.bounds-index-at-2
bounds-index-at-2 c = omega (arith, head-least (form_in c.args.format) _ _ _ c.args.k c.requires.0 c.requires.1 c.requires.3 c.requires.4)

pub returns-then-kind-eq0 : goal.returns-then-kind-eq0
returns-then-kind-eq0 c =
    rw c.from-prefix.ensures
    (record-row (form_in c.args.format) _ _ _ c.args.k c.requires.0 c.requires.1 c.requires.3 c.requires.4
    (not_set (form_in c.args.format) _ _ _ c.args.k c.requires.0 c.requires.1 c.requires.3 c.requires.4 (λ e. omega arith))
    (λ whole. row-tiny (form_in c.args.format) _ _ _ c.requires.0 whole c.if-kind-eq0.true))

pub bounds-index-at-3 : goal.bounds-index-at-3
bounds-index-at-3 c =
    omega (arith, head-full (form_in c.args.format) _ _ _ c.args.k c.requires.0 c.requires.1 c.requires.3 c.requires.4 c.if-kind-eq0.false)

pub bounds-index-at-4 : goal.bounds-index-at-4
bounds-index-at-4 c =
    omega (arith, head-full (form_in c.args.format) _ _ _ c.args.k c.requires.0 c.requires.1 c.requires.3 c.requires.4 c.if-kind-eq0.false)

pub returns-then-count-eq0 : goal.returns-then-count-eq0
returns-then-count-eq0 c =
    rw (c.from-prefix.ensures, c.from-suffix.ensures)
    (record-row (form_in c.args.format) _ _ _ c.args.k c.requires.0 c.requires.1 c.requires.3 c.requires.4
    (not_set (form_in c.args.format) _ _ _ c.args.k c.requires.0 c.requires.1 c.requires.3 c.requires.4 (λ e. omega arith)) (λ whole.
    row-none (form_in c.args.format) _ _ _ c.requires.0 whole c.if-kind-eq0.false c.if-kind-eq1.true (omega arith)))

pub returns-then-kind-eq1 : goal.returns-then-kind-eq1
returns-then-kind-eq1 c =
    rw (c.from-prefix.ensures, c.from-suffix.ensures)
    (record-row (form_in c.args.format) _ _ _ c.args.k c.requires.0 c.requires.1 c.requires.3 c.requires.4
    (not_set (form_in c.args.format) _ _ _ c.args.k c.requires.0 c.requires.1 c.requires.3 c.requires.4 (λ e. omega arith)) (λ whole.
    row_one (form_in c.args.format) _ _ _ c.requires.0 whole c.if-kind-eq0.false c.if-kind-eq1.true (λ e. omega arith)))

pub returns-then-kind-eq2 : goal.returns-then-kind-eq2
returns-then-kind-eq2 c =
    rw (c.from-prefix.ensures, c.from-suffix.ensures, c.from-count.ensures)
    (record-row (form_in c.args.format) _ _ _ c.args.k c.requires.0 c.requires.1 c.requires.3 c.requires.4
    (not_set (form_in c.args.format) _ _ _ c.args.k c.requires.0 c.requires.1 c.requires.3 c.requires.4 (λ e. omega arith))
    (λ whole. row-two (form_in c.args.format) _ _ _ c.requires.0 whole c.if-kind-eq0.false c.if-kind-eq2.true))
