-- Nothing is written before the last test (Answers).
use Rattle.std.proofs.Common.{rules, ◌≡◌, ◌+◌, ◌*◌, length, refl, ap, ◌∙◌, arith}
use mathlib.Core.Bool.{Bool, false}
use lib.ListN.{length-replicate}
use Rattle.spec.specs.Bytes.{splice}
use Rattle.spec.specs.Store.{store_bytes}
use Rattle.spec.specs.Compact.{compacted}
use Rattle.spec.specs.Outcome.{Refused}
use Rattle.spec.specs.Refusal.{number_of, outcome_of}
use Rattle.spec.proofs.Refusals.{number-some}
use Rattle.spec.proofs.StoreLaws.{store-good}
use Rattle.compact.specs.Writing.{Examined}
use Rattle.compact.proofs.Answers.{examined-zero, all-unmarked, size_is, compact-refused, compact-long, compact-done}
use Rattle.compact.proofs.compact.Goals.{In_ok-examine, After-measure-sum}
use Rattle.compact.proofs.compact.Goals as goal

-- the examination found nothing
examined : (c : In_ok-examine) → Examined c.args.store.now c.args.recipes.now c.examine.new.marks 0
examined c = examined-zero c.args.store.now c.args.recipes.now c.examine.new.marks 0 refl c.in_ok-examine.ensures

-- the number measured is the new store's length
measured : (c : After-measure-sum) → Examined c.args.store.now c.args.recipes.now c.examine.new.marks 0
    → 8 + 28 * c.measure-sum.result.count + c.measure-sum.result.size ≡ length (compacted c.args.store.now c.args.recipes.now)
measured c e =
    let m = c.measure-sum in
    size_is c.args.store.now c.args.recipes.now c.examine.new.marks m.result.count m.result.size e m.ensures.0 m.ensures.1

pub examine-requires : goal.examine-requires
examine-requires c = (all-unmarked 65000, length-replicate {A = Bool} 65000 false)

pub chunk_count-count-requires : goal.chunk_count-count-requires
chunk_count-count-requires c = (store-good c.args.store.now ((examined (goal.at.chunk_count-count-requires c).In_ok-examine).marked refl).checked).header

pub measure-sum-requires : goal.measure-sum-requires
measure-sum-requires c =
    let n = c.chunk_count-count in
    let m = (examined (goal.at.measure-sum-requires c).In_ok-examine).marked refl in
    record { checked = m.checked; counts = n.ensures; long = omega (arith, n.ensures, m.long) }

pub returns-in_err-examine : goal.returns-in_err-examine
returns-in_err-examine c =
    let r = c.in_err-examine.field-0.0 in
    let e : outcome_of c.from_residual.result ≡ Refused (number_of r) = search rules in
    let f = compact-refused c.args.store.now c.args.recipes.now c.args.out.now (number_of r) c.in_err-examine.ensures.told (number-some r) in
    (e ∙ f.0, f.1)

pub returns-then-out-len : goal.returns-then-out-len
returns-then-out-len c =
    let at = goal.at.returns-then-out-len c in
    let e = examined at.In_ok-examine in
    compact-long c.args.store.now c.args.recipes.now c.args.out.now e.told _ (measured at.After-measure-sum e) c.if-out-len.true

pub put_store-requires : goal.put_store-requires
put_store-requires c =
    let n = c.chunk_count-count in
    let m = (examined (goal.at.put_store-requires c).In_ok-examine).marked refl in
    record {
      marked = record { checked = m.checked; counts = n.ensures; long = omega (arith, n.ensures, m.long) };
      number = c.measure-sum.ensures.0;
      room = omega (arith, c.if-out-len.false, c.measure-sum.ensures.1);
    }

pub returns : goal.returns
unfolding compacted
returns c =
    let at = goal.at.returns c in
    let e = examined at.In_ok-examine in
    compact-done c.args.store.now c.args.recipes.now c.args.out.now e.told _ (measured at.After-measure-sum e) c.if-out-len.false c.put_store.new.out
    (c.put_store.ensures ∙ ap (λ cs. splice c.args.out.now 0 (store_bytes cs)) (e.chunks refl))
