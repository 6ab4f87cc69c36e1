-- Each return by the tests that led there (Answers).
use Rattle.std.proofs.Common.{rules, ◌≡◌, sym, ◌∙◌, arith}
use lib.ListN.{replicate}
use Rattle.spec.specs.Store.{store_code}
use Rattle.spec.specs.Recipes.{recipes_code}
use Rattle.spec.specs.Refusal.{number, number_of}
use Rattle.spec.proofs.Refusals.{number-some}
use Rattle.spec.proofs.StoreLaws.{store-good}
use Rattle.directory.proofs.ChainLaws.{zeros}
use Rattle.store.proofs.Answers.{findable}
use Rattle.compact.proofs.Answers.{store-refused, recipes-refused, examined-refused, examined-marked}
use Rattle.compact.proofs.examine.Goals.{In_ok-examine, In_ok-check}
use Rattle.compact.proofs.examine.Goals as goal

-- the store passed its check, and the recipes theirs
stored : (c : In_ok-examine) → store_code c.args.store.now ≡ 0
stored c = sym c.in_ok-examine.ensures.0

listed : (c : In_ok-check) → recipes_code c.args.recipes.now ≡ 0
listed c = sym c.in_ok-check.ensures

pub examine-requires : goal.examine-requires
examine-requires c = zeros

pub returns-in_err-examine : goal.returns-in_err-examine
returns-in_err-examine c =
    let r = c.in_err-examine.field-0.0 in
    let e : number c.from_residual.result ≡ number_of r = search rules in
    let s = store-refused c.args.store.now c.args.recipes.now (number_of r) c.in_err-examine.ensures.0 (number-some r) in
    examined-refused c.args.store.now c.args.recipes.now _ _ (e ∙ s) (λ z. number-some r (sym e ∙ z))

pub returns-in_err-check : goal.returns-in_err-check
returns-in_err-check c =
    let s = stored (goal.at.returns-in_err-check c).In_ok-examine in
    let r = c.in_err-check.field-0.0 in
    let e : number c.from_residual-in_err-check.result ≡ number_of r = search rules in
    let f = recipes-refused c.args.store.now c.args.recipes.now s (number_of r) c.in_err-check.ensures (number-some r) in
    examined-refused c.args.store.now c.args.recipes.now _ _ (e ∙ f) (λ z. number-some r (sym e ∙ z))

pub chunk_count-count-requires : goal.chunk_count-count-requires
chunk_count-count-requires c = (store-good c.args.store.now (stored (goal.at.chunk_count-count-requires c).In_ok-examine)).header

pub mark_files-requires : goal.mark_files-requires
mark_files-requires c =
    let store = c.args.store.now in
    let s = stored (goal.at.mark_files-requires c).In_ok-examine in (
      findable store c.chunk_count-count.result (replicate 130536 0) c.examine.new.chains s c.chunk_count-count.ensures zeros c.examine.ensures.1,
      omega (arith, c.requires.1, (store-good store s).few),
      listed (goal.at.mark_files-requires c).In_ok-check,
    )

pub returns : goal.returns
returns c =
    let at = goal.at.returns c in
    examined-marked c.args.store.now c.args.recipes.now (stored at.In_ok-examine) (listed at.In_ok-check) c.args.marks.now c.mark_files.new.marks
    c.requires.0 (c.mark_files.auto.marks ∙ c.requires.1) (number c.mark_files.result) c.mark_files.ensures
