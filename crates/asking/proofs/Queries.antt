-- What an accepted query is, the query that the plan is asked with, and what it means that nothing was refused before 18. Assumes nothing.
use mathlib.Core.Path.{◌≡◌}
use mathlib.Core.Logic.{◌⊎◌, inl, inr}
use mathlib.Core.Bool.{Bool, true, false, not, cond, ◌&&◌}
use mathlib.Core.List.{List, [], ◌∷◌}
use Prim.Native.Nat.{ℕ, ◌≤◌}
use native.Mathlib.Omega.{arith}
use lib.ListN.{length}
use lib.Dec.{leb, ltb}
use borrow.Author.Tests.{leb-true, not-false}
use Rattle.spec.specs.Bytes.{every}
use Rattle.spec.specs.Outcome.{first_number, whole, query_wrong}
use Rattle.spec.specs.Query.{is_query}
use Rattle.spec.proofs.Tests.{bool_cases, and_left, and_right, le-of-and}
use Rattle.spec.proofs.Codes.{passed, passed-whole}

-- it has 2 to 8 numbers
abbrev some : List ℕ → Bool
some query = leb 2 (length query) && leb (length query) 8

-- ---- an accepted query

module _ (count : ℕ) (query : List ℕ) (e : is_query count query ≡ true) where
  sized : some query ≡ true
  unfolding is_query
  sized = and_left (some query) (every (λ k. ltb k count) query) e

  pub query-two : 2 ≤ length query
  query-two = le-of-and 2 (length query) (leb (length query) 8) sized

  pub query-eight : length query ≤ 8
  query-eight = leb-true (length query) 8 (and_right (leb 2 (length query)) (leb (length query) 8) sized)

-- ---- the query that the plan is asked with

module _ (query : List ℕ) where
  abbrev pub asked : List ℕ
  asked = cond (some query) query []

  pub asked-few : length asked ≤ 8
  asked-few = go (bool_cases (some query))
    where
      go : (some query ≡ true) ⊎ (some query ≡ false) → length asked ≤ 8
      go (inl e) = rw e (leb-true (length query) 8 (and_right (leb 2 (length query)) (leb (length query) 8) e))
      go (inr e) = rw e (omega arith)

  pub query-asked : (count : ℕ) → is_query count query ≡ true → asked ≡ query
  query-asked count e = rw (sized count query e)

-- ---- the refusals of the plan, and 21

module _ (planned count : ℕ) (query : List ℕ) where
  abbrev refusals : ℕ
  refusals = first_number (whole planned ∷ (not (is_query count query), query_wrong) ∷ [])

  pub code-passed : refusals ≡ 0 → (planned ≡ 0) × (is_query count query ≡ true)
  code-passed z =
      let p = passed-whole planned _ z in
      (p.0, not-false _ (passed (not (is_query count query)) 21 0 (omega arith) p.1).0)
