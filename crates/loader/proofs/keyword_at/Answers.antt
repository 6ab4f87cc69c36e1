use Rattle.std.proofs.Common.{arith, inl, inr, ◌∙◌}
use Rattle.spec.specs.Form.{form_in}
use Rattle.loader.proofs.Rows.{step_other, end-room, step-next}
use Rattle.loader.proofs.keyword_at.Goals.{then-len-eq0-via-then-len-eq0, then-len-eq0-via-else-len-eq0+then-from-k}
use Rattle.loader.proofs.keyword_at.Goals as goal

pub returns-then-len-eq0 : goal.returns-then-len-eq0
returns-then-len-eq0 c =
    step_other (form_in c.args.format) _ _ _ c.args.k c.requires.0 (elim c.then-len-eq0.branch [
      | then-len-eq0-via-then-len-eq0 w ↦ inl w.if-len-eq0.true
      | then-len-eq0-via-else-len-eq0+then-from-k w ↦ inr (omega arith, λ e. omega arith)
    ])

pub overflow_mul-behind : goal.overflow_mul-behind
overflow_mul-behind c = omega (arith, end-room (form_in c.args.format) _ _ _ c.args.k c.requires.0 _ c.record_at-row.ensures c.requires.1)

pub overflow_add-behind : goal.overflow_add-behind
overflow_add-behind c = omega (arith, end-room (form_in c.args.format) _ _ _ c.args.k c.requires.0 _ c.record_at-row.ensures c.requires.1)

pub overflow_sub-at : goal.overflow_sub-at
overflow_sub-at c = omega (arith, end-room (form_in c.args.format) _ _ _ c.args.k c.requires.0 _ c.record_at-row.ensures c.requires.1)

pub next_at-next-requires : goal.next_at-next-requires
next_at-next-requires c = omega (arith, end-room (form_in c.args.format) _ _ _ c.args.k c.requires.0 _ c.record_at-row.ensures c.requires.1)

pub returns : goal.returns
returns c = (
  c.record_at-row.ensures,
  c.next_at-next.ensures ∙ step-next (form_in c.args.format) _ _ _ c.args.k c.requires.0 _ c.record_at-row.ensures c.requires.1,
)
