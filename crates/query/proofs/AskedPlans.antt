-- What a plan says of a query, where the plan was asked with the query or, for a query of a wrong length, with nothing: its refusal does not depend on
-- that, and its total is the query's where the query is one. Assumes nothing.
use mathlib.Core.Path.{◌≡◌, sym, ap, ap₂, ◌∙◌}
use mathlib.Core.Logic.{◌≢◌}
use mathlib.Core.Bool.{true, not}
use mathlib.Core.List.{List, [], ◌∷◌}
use Prim.Native.Nat.{ℕ, ◌≤◌}
use native.Mathlib.Omega.{arith}
use lib.ListN.{length, length-map}
use Rattle.spec.specs.Outcome.{first_number, whole, query_wrong}
use Rattle.spec.specs.Form.{form_of}
use Rattle.spec.specs.Keywords.{keywords_of}
use Rattle.spec.specs.Index.{list_in, lengths_in}
use Rattle.spec.specs.Opened.{opened_of}
use Rattle.spec.specs.Query.{is_query, query_lines, queryable_code}
use Rattle.spec.proofs.Codes.{refused-whole, last-whole}
use Rattle.plan.specs.declared.Plan.{Plan}
use Rattle.plan.specs.Plans.{plan_code, plan_of}
use Rattle.plan.proofs.Stages.{plan-total}
use Rattle.asking.proofs.Queries.{asked, asked-few, query-asked, query-two, query-eight, code-passed}
use Rattle.query.proofs.Turns.{rows-lines}

pub few-asked : (query taken : List ℕ) → taken ≡ asked query → length taken ≤ 8
few-asked query taken a = omega (arith, ap length a, asked-few query)

module _ (index recipes query : List ℕ) where
  -- the plan's refusal is the query's
  pub plan-refused : plan_code index recipes ≢ 0 → plan_code index recipes ≡ queryable_code (form_of index) index recipes query
  unfolding queryable_code
  plan-refused h = refused-whole (plan_code index recipes) _ h

  module _ (taken : List ℕ) (a : taken ≡ asked query) (plan : Plan) (p : plan ≡ plan_of index recipes taken) where
    abbrev count : ℕ
    count = plan.opened.keywords

    keyword-count : count ≡ length (lengths_in index)
    unfolding plan_of opened_of lengths_in
    keyword-count = ap (λ (x : Plan). x.opened.keywords) p ∙ sym (length-map (keywords_of (list_in index)) length)

    -- where the plan is not refused: 21, which is said behind any number of a plan's
    module _ (z : plan_code index recipes ≡ 0) (n : ℕ)
        (told : (planned : ℕ) → first_number (whole planned ∷ whole n ∷ []) ≡ first_number (whole planned ∷ (not (is_query count query), query_wrong) ∷ [])) where
      e : n ≡ first_number (whole 0 ∷ (not (is_query count query), query_wrong) ∷ [])
      e = sym (last-whole n) ∙ told 0

      pub asked-code : n ≡ queryable_code (form_of index) index recipes query
      unfolding queryable_code
      asked-code = e ∙ ap₂ (λ (c w : ℕ). first_number (whole c ∷ (not (is_query w query), query_wrong) ∷ [])) (sym z) keyword-count

      -- without refusal: the query is one, and the plan is its
      module _ (y : n ≡ 0) where
        accepted : is_query count query ≡ true
        accepted = (code-passed 0 count query (sym e ∙ y)).1

        pub asked-plan : plan ≡ plan_of index recipes query
        asked-plan = p ∙ ap (plan_of index recipes) (a ∙ query-asked query count accepted)

        pub asked-two : 2 ≤ length query
        asked-two = query-two count query accepted

        pub asked-eight : length query ≤ 8
        asked-eight = query-eight count query accepted

        pub asked-total : plan.total ≡ length (query_lines (form_of index) index recipes query)
        asked-total = plan-total index recipes query plan asked-plan ∙ rows-lines index recipes query (omega (arith, asked-two))
