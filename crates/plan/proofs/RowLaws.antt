-- The rows that files have in an answer: those of the files from k on are file k's and those behind it; and what a file's occurrences, or its choice, say of
-- its rows. An empty query's rows are occurrences, another's are lines, of which a file has one or none. Assumes nothing.
use mathlib.Core.Path.{◌≡◌, refl, sym, ap, ap₂, ◌∙◌}
use mathlib.Core.Logic.{◌≢◌}
use mathlib.Core.Bool.{Bool, true, false, cond}
use mathlib.Core.List.{List, [], ◌∷◌}
use Prim.Native.Nat.{ℕ, ◌+◌, ◌*◌, ◌^◌, ◌≤◌, ◌<◌}
use native.Mathlib.Omega.{arith}
use mir.Val.{bool_byte}
use borrow.Author.Tests.{eq-eqb, ne_eqb}
use lib.Dec.{eqb}
use lib.ListN.{length, length-append}
use Rattle.spec.specs.Bytes.{part, field_at, keep}
use Rattle.spec.specs.Form.{form_of}
use Rattle.spec.specs.Index.{lengths_in}
use Rattle.spec.specs.Recipes.{file_count}
use Rattle.spec.specs.Join.{Occurrence, join_list}
use Rattle.spec.specs.Query.{earliest, line_of}
use Rattle.spec.proofs.Tests.{cond-elim}
use Rattle.recipes.proofs.Files.{Walk}
use Rattle.walk.specs.Walking.{file_list}
use Rattle.listing.specs.declared.Choice.{Choice}
use Rattle.listing.specs.Choosing.{Chosen}
use Rattle.plan.specs.Plans.{rows, all_rows}
use Rattle.plan.proofs.FileLaws.{left, left-start, left_end, left_step, lines_left, lines_start, lines_end, lines_step}

-- ---- the rows of a file

module _ (lengths query : List ℕ) (k : ℕ) (list : List Occurrence) where
  keep_one : {A : Type 0} (b : Bool) (x : A) → length (keep b x) ≡ cond b 1 0
  keep_one true x = refl
  keep_one false x = refl

  line-one : length (line_of lengths query k list) ≡ cond (eqb (length (earliest lengths 0 query list)) (length query)) 1 0
  unfolding line_of
  line-one = keep_one (eqb (length (earliest lengths 0 query list)) (length query)) _

  line-most : length (line_of lengths query k list) ≤ 1
  line-most =
      let most : cond (eqb (length (earliest lengths 0 query list)) (length query)) 1 0 ≤ 1
      = cond-elim (λ (n : ℕ). n ≤ 1) (eqb (length (earliest lengths 0 query list)) (length query)) 1 0 (λ e. omega arith) (λ e. omega arith) in
      omega (arith, line-one)

  -- no more than occurrences, or one
  pub rows_few : length list < 2 ^ 36 → rows lengths query k list < 2 ^ 36
  unfolding rows
  rows_few h =
      cond-elim (λ (n : ℕ). n < 2 ^ 36) (eqb (length query) 0) (length list) (length (line_of lengths query k list)) (λ e. h) (λ e. omega (arith, line-most))

  pub rows_all : length query ≡ 0 → length list ≡ rows lengths query k list
  unfolding rows
  rows_all z = rw (eq-eqb (length query) 0 z)

  rows-line : length query ≢ 0 → length (line_of lengths query k list) ≡ rows lengths query k list
  unfolding rows
  rows-line h = rw (ne_eqb (length query) 0 h)

  byte_of : (b : Bool) → bool_byte b ≡ cond b 1 0
  byte_of true = refl
  byte_of false = refl

  -- a query's choice, by how far it got
  module _ (h : length query ≢ 0) (choice : Choice) (c : Chosen choice (earliest lengths 0 query list)) where
    pub rows-choice : bool_byte (eqb choice.step (length query)) ≡ rows lengths query k list
    rows-choice =
        ap (λ (n : ℕ). bool_byte (eqb n (length query))) c.many ∙ byte_of _ ∙ sym line-one ∙ rows-line h

-- ---- an empty query's rows are occurrences

pub all-occurrences : (index recipes : List ℕ) → all_rows index recipes [] ≡ length (join_list (form_of index) index recipes)
unfolding all_rows
all-occurrences index recipes = refl

pub no-occurrence : (lengths : List ℕ) (k : ℕ) (list : List Occurrence) → rows lengths [] k list ≡ 0 → list ≡ []
unfolding rows
no-occurrence lengths k [] e = refl
no-occurrence lengths k (o ∷ list) e = let z : ⊥ = omega arith in absurd z

-- ---- the rows of the files from k on

cond-sum : (b : Bool) (x y u v : ℕ) → cond b (x + y) (u + v) ≡ cond b x u + cond b y v
cond-sum true x y u v = refl
cond-sum false x y u v = refl

cond_same : (b : Bool) → ◌≡◌ {A = ℕ} (cond b 0 0) 0
cond_same true = refl
cond_same false = refl

module _ (index recipes query : List ℕ) where
  abbrev all : Bool
  all = eqb (length query) 0

  unfoldable pub rows_left : ℕ → ℕ
  rows_left k = cond all (length (left index recipes k)) (length (lines_left index recipes query k))

  pub rows_start : rows_left 0 ≡ all_rows index recipes query
  unfolding rows_left all_rows
  rows_start = ap₂ (cond all) (ap length (left-start index recipes)) (ap length (lines_start index recipes query))

  pub rows_end : (k at : ℕ) → Walk recipes k at → file_count recipes ≤ k → rows_left k ≡ 0
  unfolding rows_left
  rows_end k at w h =
      ap₂ (cond all) (ap length (left_end index recipes k at w h)) (ap length (lines_end index recipes query k at w h)) ∙ cond_same all

  pub rows_step : (k at : ℕ) → Walk recipes k at → k < file_count recipes → (file : List ℕ) → file ≡ part recipes (at + 4) (20 * field_at recipes at 4)
      → rows_left k ≡ rows (lengths_in index) query k (file_list k index file) + rows_left (k + 1)
  unfolding rows_left rows
  rows_step k at w turn file f =
      let list = file_list k index file in
      let line = line_of (lengths_in index) query k list in
      ap₂ (cond all)
      (ap length (left_step index recipes k at w turn file f) ∙ length-append list (left index recipes (k + 1)))
      (ap length (lines_step index recipes k at w turn file f query) ∙ length-append line (lines_left index recipes query (k + 1)))
      ∙ cond-sum all (length list) (length (left index recipes (k + 1))) (length line) (length (lines_left index recipes query (k + 1)))
