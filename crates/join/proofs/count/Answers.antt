-- One law for each way out (Answers).
use Rattle.std.proofs.Common.{◌≡◌, ◌∙◌, refl, sym, [], arith, rules}
use Rattle.spec.specs.Outcome.{Refused}
use Rattle.spec.specs.Refusal.{number_of, outcome_of}
use Rattle.directory.proofs.ChainLaws.{zeros}
use Rattle.plan.specs.Plans.{plan_code}
use Rattle.plan.proofs.RowLaws.{all-occurrences}
use Rattle.plan.proofs.Stages.{plan-total}
use Rattle.join.proofs.Answers.{count-refused, count-done}
use Rattle.join.proofs.count.Goals as goal

pub make-requires : goal.make-requires
make-requires c = (zeros, omega arith)

pub returns-in_err-counted : goal.returns-in_err-counted
returns-in_err-counted c =
    let r = c.in_err-counted.field-0.0 in
    let f : outcome_of c.from_residual.result ≡ Refused (number_of r) = search rules in
    f ∙ count-refused c.args.index.now c.args.recipes.now _ refl r c.in_err-counted.ensures.0

pub returns : goal.returns
returns c =
    let index = c.args.index.now in
    let recipes = c.args.recipes.now in
    let p = c.in_ok-counted in
    count-done index recipes (plan_code index recipes) refl p.counted.total (sym p.ensures.0)
    (plan-total index recipes [] p.counted p.ensures.1 ∙ all-occurrences index recipes)
