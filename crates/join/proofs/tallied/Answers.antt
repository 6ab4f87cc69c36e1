-- One law for each way out (Answers). What the plan counted by keyword gives the clients' counts (tally's Listed).
use Rattle.std.proofs.Common.{◌≡◌, refl, sym, ap, ◌∙◌, subst, true, List, [], ℕ, ◌^◌, ◌≤◌, ◌<◌, ltb, length, replicate, get_or, arith}
use Rattle.spec.specs.declared.Tally.{Tally}
use Rattle.spec.specs.Bytes.{every}
use Rattle.spec.specs.Outcome.{unless_refused}
use Rattle.spec.specs.Refusal.{outcome_of}
use Rattle.spec.specs.Form.{form_of}
use Rattle.spec.specs.Keywords.{keywords_of}
use Rattle.spec.specs.Index.{list_in}
use Rattle.spec.specs.Join.{Occurrence, Clients, counts_of, lent, tally_with, clients_code, join_list}
use Rattle.spec.proofs.Codes.{buffer-done}
use Rattle.spec.proofs.KeywordLaws.{folded-count}
use Rattle.spec.proofs.Clients.{count_at, count_most}
use Rattle.directory.proofs.ChainLaws.{zeros}
use Rattle.tally.specs.Tallying.{add_code, added_to}
use Rattle.tally.proofs.Listed.{add-code-is, added_is}
use Rattle.walk.specs.Walking.{keyword_counts}
use Rattle.walk.proofs.Entries.{few, keywords-count}
use Rattle.walk.proofs.KeywordNumbers.{numbers-below}
use Rattle.plan.specs.declared.Plan.{Plan}
use Rattle.plan.specs.Plans.{Planned, plan_code, plan_of}
use Rattle.plan.proofs.RowLaws.{all-occurrences}
use Rattle.plan.proofs.CountLaws.{counted-all}
use Rattle.plan.proofs.Stages.{plan-total, planned}
use Rattle.plan.proofs.Bounds.{list-few}
use Rattle.join.proofs.Answers.{join-refused, join-long, join-room, join-keyed, join-done}
use Rattle.join.proofs.tallied.Goals as goal

-- the tables before the plan
abbrev no-tables : List (List (List ℕ))
no-tables = replicate {A = List (List ℕ)} 16 (replicate {A = List ℕ} 32 (replicate {A = ℕ} 32 0))

-- ---- what is known of the plan

module _ (index recipes : List ℕ) (p : Plan) (is : p ≡ plan_of index recipes []) where
  abbrev list : List Occurrence
  list = join_list (form_of index) index recipes

  total : p.total ≡ length list
  total = plan-total index recipes [] p is ∙ all-occurrences index recipes

  module _ (z : plan_code index recipes ≡ 0) where
    -- ---- the keywords' counts

    module _ (chains : List ℕ) (tables : List (List (List ℕ))) (made : Planned index recipes [] p chains tables) where
      counts-are : p.counts ≡ keyword_counts list
      counts-are = made.counts ∙ ap (λ (l : List Occurrence). keyword_counts l) (counted-all [] list refl)

      words : p.opened.keywords ≤ 16
      words = few index p.opened made.joinable.looked.checked

      counts-small : (k : ℕ) → k < 16 → get_or p.counts k 0 < 2 ^ 59
      counts-small k h =
          omega (
            arith,
            ap (λ (l : List ℕ). get_or l k 0) counts-are ∙ count_at (λ j. j) 16 list k h,
            count_most (λ j. j) k list,
            list-few index recipes z,
          )

      numbered : every (λ o. ltb o.keyword p.opened.keywords) list ≡ true
      numbered =
          subst (λ (n : ℕ). every (λ o. ltb o.keyword n) list ≡ true) (sym (keywords-count index p.opened made.joinable.looked.checked))
          (numbers-below (form_of index) index recipes)

      -- the number of keywords, as the definition says it
      count-is : p.opened.keywords ≡ length (keywords_of (list_in index))
      count-is = keywords-count index p.opened made.joinable.looked.checked ∙ folded-count (list_in index)

      -- what `tally::add` says of them
      module _ (key : List ℕ) (before : Tally) where
        abbrev clients : Clients
        clients = lent key before

        code_is : add_code key p.counts p.opened.keywords (counts_of before) ≡ clients_code (length (keywords_of (list_in index))) clients list
        code_is =
            let n : ℕ = p.opened.keywords in
            ap (λ (counts : List ℕ). add_code key counts n (counts_of before)) counts-are
            ∙ add-code-is key list n words numbered (counts_of before)
            ∙ ap (λ (k : ℕ). clients_code k clients list) count-is

        after_is : added_to key p.counts p.opened.keywords (counts_of before)
            ≡ unless_refused (clients_code (length (keywords_of (list_in index))) clients list) (tally_with clients list) clients.tally
        after_is =
            let n : ℕ = p.opened.keywords in
            ap (λ (counts : List ℕ). added_to key counts n (counts_of before)) counts-are
            ∙ added_is key list n words numbered (counts_of before)
            ∙ ap (λ (k : ℕ). unless_refused (clients_code k clients list) (tally_with clients list) clients.tally) count-is

-- ---- the ways out

pub make-requires : goal.make-requires
make-requires c = (zeros, omega arith)

pub returns-in-Err : goal.returns-in-Err
returns-in-Err c =
    let a = c.args in
    let r = c.in-Err.refusal in
    let j = join-refused a.index.now a.recipes.now (plan_code a.index.now a.recipes.now) refl (lent a.key.now a.before) a.out.now r c.in-Err.ensures.0 in
    (ap outcome_of c.refused.ensures.0 ∙ j.0, j.1, ap counts_of c.refused.ensures.1 ∙ j.2)

pub returns-then-out-p : goal.returns-then-out-p
returns-then-out-p c =
    let a = c.args in
    let p = c.in-Ok.plan in
    let e = c.in-Ok.ensures in
    let j = join-long a.index.now a.recipes.now (plan_code a.index.now a.recipes.now) refl (lent a.key.now a.before) a.out.now p.total (sym e.0)
    (total a.index.now a.recipes.now p e.1) c.if-out-p.true in
    (ap outcome_of c.refused-then-out-p.ensures.0 ∙ j.0, j.1, ap counts_of c.refused-then-out-p.ensures.1 ∙ j.2)

pub add-requires : goal.add-requires
add-requires c =
    let a = c.args in
    let p = c.in-Ok.plan in
    let e = c.in-Ok.ensures in
    let z = sym e.0 in
    let made = planned a.index.now a.recipes.now [] p e.1 (replicate 130536 0) c.make.new.chains no-tables c.make.new.tables z zeros e.2 e.3 in (
      words a.index.now a.recipes.now p e.1 z c.make.new.chains c.make.new.tables made,
      counts-small a.index.now a.recipes.now p e.1 z c.make.new.chains c.make.new.tables made,
    )

pub returns-in-Err-add : goal.returns-in-Err-add
returns-in-Err-add c =
    let a = c.args in
    let p = c.in-Ok.plan in
    let e = c.in-Ok.ensures in
    let z = sym e.0 in
    let made = planned a.index.now a.recipes.now [] p e.1 (replicate 130536 0) c.make.new.chains no-tables c.make.new.tables z zeros e.2 e.3 in
    let coded = code_is a.index.now a.recipes.now p e.1 z c.make.new.chains c.make.new.tables made a.key.now a.before in
    let j = join-keyed a.index.now a.recipes.now (plan_code a.index.now a.recipes.now) refl (lent a.key.now a.before) a.out.now p.total z
    (total a.index.now a.recipes.now p e.1) c.if-out-p.false c.in-Err-add.keyed (c.in-Err-add.ensures.0 ∙ coded) in
    (ap outcome_of c.refused-in-Err-add.ensures.0 ∙ j.0, j.1, ap counts_of c.refused-in-Err-add.ensures.1 ∙ j.2)

pub list_files-requires-clause-planned : goal.list_files-requires-clause-planned
list_files-requires-clause-planned c =
    let e = c.in-Ok.ensures in
    planned c.args.index.now c.args.recipes.now [] c.in-Ok.plan e.1 (replicate 130536 0) c.make.new.chains no-tables c.make.new.tables
    (sym e.0) zeros e.2 e.3

pub list_files-requires-clause-recipes_in_bounds : goal.list_files-requires-clause-recipes_in_bounds
list_files-requires-clause-recipes_in_bounds c =
    let a = c.args in
    join-room a.index.now a.recipes.now (plan_code a.index.now a.recipes.now) refl (lent a.key.now a.before) a.out.now c.in-Ok.plan.total
    (total a.index.now a.recipes.now c.in-Ok.plan c.in-Ok.ensures.1) c.if-out-p.false

pub returns : goal.returns
returns c =
    let a = c.args in
    let index = a.index.now in
    let recipes = a.recipes.now in
    let p = c.in-Ok.plan in
    let e = c.in-Ok.ensures in
    let z = sym e.0 in
    let made = planned index recipes [] p e.1 (replicate 130536 0) c.make.new.chains no-tables c.make.new.tables z zeros e.2 e.3 in
    let clients = lent a.key.now a.before in
    let keyed : clients_code (length (keywords_of (list_in index))) clients (join_list (form_of index) index recipes) ≡ 0
    = sym (c.in-Ok-add.ensures.0 ∙ code_is index recipes p e.1 z c.make.new.chains c.make.new.tables made a.key.now a.before) in
    join-done index recipes (plan_code index recipes) refl clients a.out.now p.total z (total index recipes p e.1)
    c.if-out-p.false c.list_files.new.out (counts_of c.in-Ok-add.sums) keyed c.list_files.ensures
    (c.in-Ok-add.ensures.1
    ∙ after_is index recipes p e.1 z c.make.new.chains c.make.new.tables made a.key.now a.before
    ∙ sym (buffer-done _ (tally_with clients (join_list (form_of index) index recipes)) clients.tally keyed))
