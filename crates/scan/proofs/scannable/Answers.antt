use Rattle.std.proofs.Common.{rules, ◌≡◌, ◌∙◌}
use Rattle.spec.specs.Refusal.{number, number_of}
use Rattle.spec.proofs.Refusals.{number-some}
use Rattle.scan.proofs.Checks.{list-refused, store-asked}
use Rattle.scan.proofs.scannable.Goals as goal

pub returns-in_err-check : goal.returns-in_err-check
returns-in_err-check c =
    let r = c.in_err-check.field-0.0 in
    let e : number c.from_residual.result ≡ number_of r = search rules in
    e ∙ list-refused c.args.list.now c.args.store.now (number_of r) c.in_err-check.ensures (number-some r)

pub returns : goal.returns
returns c = store-asked c.args.list.now c.args.store.now _ c.in_ok-check.ensures c.examine.ensures.0
