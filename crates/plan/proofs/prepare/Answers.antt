use Rattle.std.proofs.Common.{◌≡◌, ◌∙◌, sym, rules}
use Rattle.spec.specs.Refusal.{number, number_of}
use Rattle.spec.proofs.Refusals.{number-some}
use Rattle.plan.proofs.Stages.{front-index, front-recipes}
use Rattle.plan.proofs.prepare.Goals as goal

pub returns-in_err-examine : goal.returns-in_err-examine
returns-in_err-examine c =
    let r = c.in_err-examine.field-0.0 in
    let f : number c.from_residual.result ≡ number_of r = search rules in
    let e = c.in_err-examine.ensures in
    record {
      number = f ∙ e.0 ∙ front-index c.args.index.now c.args.recipes.now (λ z. number-some r (e.0 ∙ z));
      chained = e.1;
    }

pub returns : goal.returns
returns c =
    let e = c.in_ok-examine.ensures in
    record {
      number = c.check.ensures ∙ front-recipes c.args.index.now c.args.recipes.now (sym e.0);
      chained = e.1;
    }
