use Rattle.std.proofs.Common.{◌∙◌, ◌≡◌, rules, refl, arith}
use mathlib.Core.Bool.{Bool, false}
use lib.ListN.{length-replicate}
use Rattle.spec.specs.Outcome.{Refused}
use Rattle.spec.specs.Refusal.{number_of, outcome_of}
use Rattle.spec.proofs.Refusals.{number-some}
use Rattle.spec.proofs.StoreLaws.{store-good}
use Rattle.compact.specs.Writing.{Examined}
use Rattle.compact.proofs.Answers.{examined-zero, all-unmarked, size_is, size-refused, size-done}
use Rattle.compact.proofs.size.Goals.{In_ok-examine}
use Rattle.compact.proofs.size.Goals as goal

-- the examination found nothing
examined : (c : In_ok-examine) → Examined c.args.store.now c.args.recipes.now c.examine.new.marks 0
examined c = examined-zero c.args.store.now c.args.recipes.now c.examine.new.marks 0 refl c.in_ok-examine.ensures

pub examine-requires : goal.examine-requires
examine-requires c = (all-unmarked 65000, length-replicate {A = Bool} 65000 false)

pub chunk_count-count-requires : goal.chunk_count-count-requires
chunk_count-count-requires c = (store-good c.args.store.now ((examined (goal.at.chunk_count-count-requires c).In_ok-examine).marked refl).checked).header

pub measure-sum-requires : goal.measure-sum-requires
measure-sum-requires c =
    let n = c.chunk_count-count in
    let m = (examined (goal.at.measure-sum-requires c).In_ok-examine).marked refl in
    record { checked = m.checked; counts = n.ensures; long = omega (arith, n.ensures, m.long) }

pub returns-in_err-examine : goal.returns-in_err-examine
returns-in_err-examine c =
    let r = c.in_err-examine.field-0.0 in
    let e : outcome_of c.from_residual.result ≡ Refused (number_of r) = search rules in
    e ∙ size-refused c.args.store.now c.args.recipes.now (number_of r) c.in_err-examine.ensures.told (number-some r)

pub returns : goal.returns
returns c =
    let m = c.measure-sum in
    let e = examined (goal.at.returns c).In_ok-examine in
    size-done c.args.store.now c.args.recipes.now e.told _
    (size_is c.args.store.now c.args.recipes.now c.examine.new.marks m.result.count m.result.size e m.ensures.0 m.ensures.1)
