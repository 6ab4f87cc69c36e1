use Rattle.std.proofs.Common.{arith, ◌∙◌, inl, inr}
use Rattle.std.proofs.lemmas.Bool.Decides.{nat_tests}
use Rattle.spec.specs.Form.{form_in}
use Rattle.loader.proofs.Rows.{no-sets, too_short, other-number, its-kind}
use Rattle.loader.proofs.is_set.Goals.{then-format, else-format, then-len-ge2, else-len-ge2}
use Rattle.loader.proofs.is_set.Goals as goal

pub returns-then-from-k : goal.returns-then-from-k
returns-then-from-k c = elim c.if-len-ge2.branch [
  | then-len-ge2 w ↦
      its-kind (form_in c.args.format) _ _ _ _ c.requires w.if-len-ge2.true.0 w.if-len-ge2.true.1 (grind (arith, nat_tests))
  | else-len-ge2 w ↦ absurd (elim c.if-format.branch [ then-format v ↦ grind (arith, nat_tests) | else-format v ↦ grind (arith, nat_tests) ])
]

pub returns-else-from-k : goal.returns-else-from-k
returns-else-from-k c = elim c.if-len-ge2.branch [
  | then-len-ge2 w ↦
      c.if-from-k.false ∙ other-number (form_in c.args.format) _ _ _ _ c.requires w.if-len-ge2.true.1 (grind (arith, nat_tests))
  | else-len-ge2 w ↦ c.if-from-k.false ∙ (elim w.if-len-ge2.either [
    | inl h ↦ too_short (form_in c.args.format) _ _ _ _ c.requires h.1
    | inr h ↦ no-sets (form_in c.args.format) _ _ _ _ c.requires h
  ])
]
