use Rattle.std.proofs.Common.{◌∙◌, ◌+◌, ◌-◌, [], get_or, refl, rules, tests, arith}
use Rattle.std.proofs.lemmas.Iterator.{YieldsList-from_range}
use Rattle.std.proofs.lemmas.Iterator.Search.{any_from_yields_List}
use Rattle.spec.specs.Bytes.{same}
use Rattle.spec.specs.Keywords.{folded_keywords}
use Rattle.spec.proofs.KeywordLaws.{folded-count}
use Rattle.keywords.proofs.Comparing.{contains-any}
use Rattle.keywords.proofs.again.Goals as goal

pub returns : goal.returns
returns c =
    let a = c.args in
    let words = folded_keywords a.list.now in
    let key = get_or words a.i [] in
    let rest = YieldsList-from_range (a.i + 1) a.count (a.count - (a.i + 1)) refl refl in
    any_from_yields_List (λ k. same key (get_or words k [])) _ _ c.any.result c.any.ensures.ran rest (λ x b f k. search (rules, tests))
    ∙ contains-any words key (a.i + 1) (a.count - (a.i + 1)) (omega (arith, folded-count a.list.now, c.requires.0.counts))
