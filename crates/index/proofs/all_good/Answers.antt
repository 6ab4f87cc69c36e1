use Rattle.std.proofs.Common.{◌≡◌, ℕ, true, sym, ◌∙◌, arith}
use borrow.Author.Count.{below_more}
use Rattle.spec.specs.Form.{form_of}
use Rattle.spec.specs.Index.{good_at}
use Rattle.index.proofs.StageLaws.{all_yes, all-no}
use Rattle.index.proofs.all_good.Goals as goal

pub returns-then-not-entry_good : goal.returns-then-not-entry_good
returns-then-not-entry_good c =
    all-no c.args.index.now c.loop-e.e (omega (arith, c.requires.0.headed.counts)) (sym c.entry_good.ensures ∙ c.if-not-entry_good.true)

pub loop-e-preserved : goal.loop-e-preserved
loop-e-preserved c =
    let index = c.args.index.now in
    below_more (λ (k : ℕ). good_at (form_of index) index k ≡ true) c.loop-e.e c.loop-e.invariant (sym c.entry_good.ensures ∙ c.if-not-entry_good.false)

pub returns : goal.returns
returns c = all_yes c.args.index.now c.args.count c.requires.0.headed.counts (λ k h. c.loop-e.invariant k (omega arith))
