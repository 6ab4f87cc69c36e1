use Rattle.std.proofs.Common.{◌∙◌, ℕ, Bool, refl, sym, ◌&&◌, rules, ltb, tests}
use Rattle.std.proofs.lemmas.Iterator.{YieldsList-from_slice}
use Rattle.std.proofs.lemmas.Iterator.Search.{all_from_yields_List}
use Rattle.std.proofs.lemmas.List.Recursion.{same_from_clauses}
use Rattle.std.specs.List.{list_all}
use Rattle.spec.specs.Bytes.{every}
use Rattle.spec.specs.Query.{is_query}
use Rattle.asking.proofs.is_query.Goals as goal

pub returns-then-may_number : goal.returns-then-may_number
unfolding is_query
returns-then-may_number c =
    let q = c.args.query.now in
    let below = λ (k : ℕ). ltb k c.args.count in
    let answered = all_from_yields_List below _ _ c.all.result c.all.ensures.ran (YieldsList-from_slice q cc) (λ x b f k. search (rules, tests)) in
    let same = same_from_clauses (list_all below) (every below) (λ (k : ℕ) (b : Bool). below k && b) refl (λ _ _. refl) (λ _ _. refl) q in
    rw (sym c.may_number.ensures ∙ c.if-may_number.true) (answered ∙ same)
