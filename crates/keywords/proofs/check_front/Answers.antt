use Rattle.std.proofs.Common.{◌≡◌, ◌∙◌, sym, rules}
use mathlib.Core.Path.{refl}
use Rattle.spec.specs.Refusal.{number, number_of}
use Rattle.spec.proofs.Refusals.{number-some}
use Rattle.keywords.proofs.Fronts.{front-refused, front-readable, places, front-rest}
use Rattle.keywords.proofs.check_front.Goals as goal

pub returns-in_err-read_front : goal.returns-in_err-read_front
returns-in_err-read_front c =
    let r = c.in_err-read_front.field-0.0 in
    let e : number c.from_residual.result ≡ number_of r = search rules in
    e ∙ front-refused c.args.list.now (number_of r) c.in_err-read_front.ensures (number-some r)

pub distinct-requires : goal.distinct-requires
distinct-requires c =
    places c.args.list.now _ (front-readable c.args.list.now (sym c.in_ok-read_front.ensures)) c.split.ensures

pub returns : goal.returns
returns c = c.distinct.ensures ∙ front-rest c.args.list.now 0 c.in_ok-read_front.ensures refl
