use Rattle.std.proofs.Common.{◌∙◌, ◌+◌, [], get_or, drop, refl, rules, tests, arith}
use Rattle.std.proofs.lemmas.Iterator.{YieldsList-from_range}
use Rattle.std.proofs.lemmas.Iterator.Search.{any_from_yields_List}
use Rattle.spec.specs.Bytes.{contains}
use Rattle.spec.specs.Keywords.{folded_keywords}
use Rattle.spec.proofs.KeywordLaws.{folded-count}
use Rattle.keywords.proofs.Comparing.{twice-any}
use Rattle.keywords.proofs.repeats.Goals as goal

pub returns : goal.returns
returns c =
    let a = c.args in
    let words = folded_keywords a.list.now in
    let all = YieldsList-from_range 0 a.count a.count refl (omega arith) in
    any_from_yields_List (λ k. contains (get_or words k []) (drop (k + 1) words)) _ _ c.any.result c.any.ensures.ran all (λ x b f k. search (rules, tests))
    ∙ twice-any words 0 a.count (omega (arith, folded-count a.list.now, c.requires.counts))
