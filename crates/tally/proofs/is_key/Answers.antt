use Rattle.std.proofs.Common.{ℕ, Bool, ◌∙◌, ◌&&◌, refl, take, leb, rules, tests}
use Rattle.std.proofs.lemmas.Iterator.{YieldsList-from_slice}
use Rattle.std.proofs.lemmas.Iterator.Search.{all_from_yields_List}
use Rattle.std.proofs.lemmas.List.Recursion.{same_from_clauses}
use Rattle.std.specs.List.{list_all}
use Rattle.spec.specs.Bytes.{every}
use Rattle.spec.specs.Join.{is_key}
use Rattle.tally.proofs.is_key.Goals as goal

-- a client of a key
abbrev good : ℕ → Bool
good client = leb client 3

pub returns-then-key-eq16 : goal.returns-then-key-eq16
unfolding is_key
returns-then-key-eq16 c =
    let low = take c.args.keywords c.args.key.now in
    let all = all_from_yields_List good _ _ c.all.result c.all.ensures.ran (YieldsList-from_slice low cc) (λ x b q k. search (rules, tests)) in
    let same = same_from_clauses (list_all good) (every good) (λ x r. good x && r) refl (λ _ _. refl) (λ _ _. refl) low in
    rw c.if-key-eq16.true (all ∙ same)

pub returns-else-key-eq16 : goal.returns-else-key-eq16
unfolding is_key
returns-else-key-eq16 c = search rules
