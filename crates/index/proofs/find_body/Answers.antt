use Rattle.std.proofs.Common.{◌≡◌, sym, ◌∙◌, rules}
use Rattle.spec.specs.Refusal.{number, number_of}
use Rattle.index.proofs.LookupLaws.{told-done, told-refused}
use Rattle.index.proofs.find_body.Goals as goal

pub returns-in_err-locate : goal.returns-in_err-locate
returns-in_err-locate c =
    let r = c.in_err-locate.field-0.0 in
    let e : number c.from_residual.result ≡ number_of r = search rules in
    e ∙ (told-refused c.args.index.now c.args.fp.now (number_of r) c.in_err-locate.ensures).0

pub returns : goal.returns
returns c = sym (told-done c.args.index.now c.args.fp.now _ c.in_ok-locate.ensures).0
