-- One law for each way out (Answers).
use Rattle.std.proofs.Common.{◌≡◌, ◌∙◌, refl, sym, rules}
use Rattle.spec.specs.Outcome.{Refused}
use Rattle.spec.specs.Refusal.{number_of, outcome_of}
use Rattle.spec.proofs.Refusals.{number-some}
use Rattle.directory.proofs.ChainLaws.{zeros}
use Rattle.query.proofs.AskedPlans.{few-asked, plan-refused, asked-code, asked-total}
use Rattle.query.proofs.Answers.{count-refused, count-done}
use Rattle.query.proofs.count.Goals as goal

pub make-requires : goal.make-requires
make-requires c = (zeros, few-asked c.args.query.now c.askable-asked.result.now c.askable-asked.ensures)

pub returns-in_err-counted : goal.returns-in_err-counted
returns-in_err-counted c =
    let a = c.args in
    let r = c.in_err-counted.field-0.0 in
    let f : outcome_of c.from_residual.result ≡ Refused (number_of r) = search rules in
    let e = c.in_err-counted.ensures.0 in
    f ∙ count-refused a.index.now a.recipes.now a.query.now _ (plan-refused a.index.now a.recipes.now a.query.now (λ z. number-some r (e ∙ z))) r e

pub returns-in_err-check : goal.returns-in_err-check
returns-in_err-check c =
    let a = c.args in
    let r = c.in_err-check.field-0.0 in
    let f : outcome_of c.from_residual-in_err-check.result ≡ Refused (number_of r) = search rules in
    let m = c.in_ok-counted in
    let code = asked-code a.index.now a.recipes.now a.query.now c.askable-asked.result.now c.askable-asked.ensures m.counted m.ensures.1 (sym m.ensures.0)
    (number_of r) c.in_err-check.ensures in
    f ∙ count-refused a.index.now a.recipes.now a.query.now (number_of r) code r refl

pub returns : goal.returns
returns c =
    let a = c.args in
    let m = c.in_ok-counted in
    let code = asked-code a.index.now a.recipes.now a.query.now c.askable-asked.result.now c.askable-asked.ensures m.counted m.ensures.1 (sym m.ensures.0)
    0 c.in_ok-check.ensures in
    let total = asked-total a.index.now a.recipes.now a.query.now c.askable-asked.result.now c.askable-asked.ensures m.counted m.ensures.1 (sym m.ensures.0)
    0 c.in_ok-check.ensures refl in
    count-done a.index.now a.recipes.now a.query.now 0 code refl m.counted.total total
