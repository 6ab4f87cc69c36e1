use Rattle.std.proofs.Common.{◌≡◌, ◌∙◌, sym, rules, arith}
use mathlib.Core.Path.{refl}
use Rattle.spec.specs.Refusal.{number, number_of}
use Rattle.spec.proofs.Refusals.{number-some}
use Rattle.keywords.proofs.Fronts.{whole-refused, front-readable, places, whole-over, whole-rest}
use Rattle.keywords.proofs.check.Goals as goal

pub returns-in_err-read_front : goal.returns-in_err-read_front
returns-in_err-read_front c =
    let r = c.in_err-read_front.field-0.0 in
    let e : number c.from_residual.result ≡ number_of r = search rules in
    e ∙ whole-refused c.args.list.now (number_of r) c.in_err-read_front.ensures (number-some r)

pub distinct-requires : goal.distinct-requires
distinct-requires c =
    places c.args.list.now _ (front-readable c.args.list.now (sym c.in_ok-read_front.ensures)) c.split-k.ensures

pub returns-then-k-list : goal.returns-then-k-list
returns-then-k-list c = whole-over c.args.list.now 0 c.in_ok-read_front.ensures refl c.split-k.result c.split-k.ensures c.if-k-list.true

pub returns : goal.returns
returns c =
    c.distinct.ensures
    ∙ whole-rest c.args.list.now 0 c.in_ok-read_front.ensures refl c.split-k.result c.split-k.ensures (omega (arith, c.if-k-list.false))
