use Rattle.std.proofs.Common.{◌≡◌, ap, sym, ◌∙◌, rules}
use Rattle.spec.specs.Refusal.{number, number_of, outcome_of}
use Rattle.spec.proofs.LookupLaws.{done-code, refused-number}
use Rattle.store.proofs.find_chunk.Goals as goal

pub returns-in_err-locate : goal.returns-in_err-locate
returns-in_err-locate c =
    let r = c.in_err-locate.field-0.0 in
    let e : number c.from_residual.result ≡ number_of r = search rules in
    e ∙ (refused-number (number_of r) _ _ c.in_err-locate.ensures).0

pub returns : goal.returns
returns c = sym (done-code _ _ _ c.in_ok-locate.ensures).0
