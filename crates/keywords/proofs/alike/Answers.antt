use Rattle.std.proofs.Common.{◌∙◌, ℕ, rules, tests}
use Rattle.std.proofs.lemmas.Iterator.{YieldsList-from_slice, YieldsList-from_zip}
use Rattle.std.proofs.lemmas.Iterator.Search.{all_from_yields_List}
use borrow.Author.Tests.{ne_eqb}
use lib.Dec.{eqb}
use Rattle.spec.specs.Keywords.{fold_byte}
use Rattle.spec.proofs.Folding.{alike-lengths}
use Rattle.keywords.proofs.Comparing.{same-zip}
use Rattle.keywords.proofs.alike.Goals as goal

pub returns-then-a-b : goal.returns-then-a-b
returns-then-a-b c =
    let a = c.args in
    let test = λ (p : ℕ × ℕ). eqb (fold_byte a.flag p.0) (fold_byte a.flag p.1) in
    let pairs = YieldsList-from_zip (YieldsList-from_slice a.a.now cc) (YieldsList-from_slice a.b.now cc) in
    all_from_yields_List test c.all.new.self _ c.all.result c.all.ensures.ran pairs (λ x b f k. search (rules, tests))
    ∙ same-zip a.flag a.a.now a.b.now c.if-a-b.true

pub returns-else-a-b : goal.returns-else-a-b
returns-else-a-b c = rw (ne_eqb _ _ c.if-a-b.false) (alike-lengths c.args.flag c.args.a.now c.args.b.now c.if-a-b.false)
