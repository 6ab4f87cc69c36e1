-- Counts by keyword, file by file (request #110): those of the files from k on are file k's and those behind it; an empty query counts occurrences,
-- another nothing. Assumes nothing.
use mathlib.Core.Path.{◌≡◌, refl, sym, ap, ◌∙◌}
use mathlib.Core.Logic.{◌≢◌}
use mathlib.Core.Bool.{Bool, true, false, cond}
use mathlib.Core.List.{List, [], ◌++◌}
use Prim.Native.Nat.{ℕ, ◌+◌, ◌*◌, ◌^◌, ◌≤◌, ◌<◌}
use native.Mathlib.Nat.{zero-add, add-zero}
use native.Mathlib.Omega.{arith}
use borrow.Author.Tests.{eq-eqb, ne_eqb}
use lib.Dec.{eqb}
use lib.ListN.{length, get_or, replicate, length-replicate, get_or-replicate}
use lib.Seq.{ext_get_or}
use Rattle.spec.specs.Bytes.{part, field_at}
use Rattle.spec.specs.Form.{form_of}
use Rattle.spec.specs.Recipes.{file_count}
use Rattle.spec.specs.Join.{Occurrence, sums, join_list}
use Rattle.spec.proofs.Clients.{length-sums, sums_at, sums-assoc, length-counts, count_at, count_none, counts-append, count_most}
use Rattle.recipes.proofs.Files.{Walk}
use Rattle.walk.specs.Walking.{file_list, keyword_counts}
use Rattle.plan.specs.Plans.{counted}
use Rattle.plan.proofs.FileLaws.{left, left-start, left_end, left_step}

-- ---- counts of nothing

none-at : (c : ℕ) → c < 16 → get_or (keyword_counts []) c 0 ≡ 0
none-at c h = count_at (λ k. k) 16 [] c h ∙ count_none (λ k. k) c

-- nothing more to count
pub sums_none : (counts : List ℕ) → length counts ≡ 16 → sums counts (keyword_counts []) ≡ counts
sums_none counts e =
    ext_get_or 0 (sums counts (keyword_counts [])) counts (length-sums counts (keyword_counts [])) (λ c u.
    let v : c < length counts = omega (arith, length-sums counts (keyword_counts [])) in
    sums_at counts (keyword_counts []) c v ∙ ap (λ (n : ℕ). get_or counts c 0 + n) (none-at c (omega arith)) ∙ add-zero (get_or counts c 0))

-- nothing counted yet
sums-zeros : (list : List Occurrence) → sums (replicate 16 0) (keyword_counts list) ≡ keyword_counts list
sums-zeros list =
    let zeros : List ℕ = replicate 16 0 in
    let long : length zeros ≡ 16 = length-replicate {A = ℕ} 16 0 in
    ext_get_or 0 (sums zeros (keyword_counts list)) (keyword_counts list)
    (length-sums zeros (keyword_counts list) ∙ long ∙ sym (length-counts (λ k. k) 16 list)) (λ c u.
    let v : c < 16 = omega (arith, length-sums zeros (keyword_counts list), long) in
    sums_at zeros (keyword_counts list) c (omega arith)
    ∙ ap (λ (n : ℕ). n + get_or (keyword_counts list) c 0) (get_or-replicate {A = ℕ} 16 c 0 0 v)
    ∙ zero-add (get_or (keyword_counts list) c 0))

-- ---- what a query counts

module _ (query : List ℕ) where
  pub counted-all : (list : List Occurrence) → length query ≡ 0 → counted query list ≡ list
  unfolding counted
  counted-all list z = rw (eq-eqb (length query) 0 z)

  pub counted_none : (list : List Occurrence) → length query ≢ 0 → counted query list ≡ []
  unfolding counted
  counted_none list h = rw (ne_eqb (length query) 0 h)

  cond-append : (b : Bool) (l m : List Occurrence) → cond b (l ++ m) [] ≡ cond b l [] ++ cond b m []
  cond-append true l m = refl
  cond-append false l m = refl

  counted-append : (l m : List Occurrence) → counted query (l ++ m) ≡ counted query l ++ counted query m
  unfolding counted
  counted-append l m = cond-append (eqb (length query) 0) l m

  cond-nil : (b : Bool) → ◌≡◌ {A = List Occurrence} (cond b [] []) []
  cond-nil true = refl
  cond-nil false = refl

  counted-nil : counted query [] ≡ []
  unfolding counted
  counted-nil = cond-nil (eqb (length query) 0)

  cond-most : (b : Bool) (l : List Occurrence) → length (cond b l []) ≤ length l
  cond-most true l = omega arith
  cond-most false l = omega arith

  counted-most : (l : List Occurrence) → length (counted query l) ≤ length l
  unfolding counted
  counted-most l = cond-most (eqb (length query) 0) l

  -- ---- the files from k on

  module _ (index recipes : List ℕ) where
    -- the counts of the files from k on, and of all
    abbrev counts_from : ℕ → List ℕ
    counts_from k = keyword_counts (counted query (left index recipes k))

    abbrev counts_all : List ℕ
    counts_all = keyword_counts (counted query (join_list (form_of index) index recipes))

    -- before file k: what was counted and what is left are the whole
    pub record CountingFiles (counts : List ℕ) (k : ℕ) : Type 0 where
      pub long : length counts ≡ 16
      pub all : sums counts (counts_from k) ≡ counts_all
      pub small : (c : ℕ) → c < 16 → get_or counts c 0 ≤ 68719476736 * k

    pub counts_start : CountingFiles (replicate 16 0) 0
    counts_start =
        record {
          long = length-replicate {A = ℕ} 16 0;
          all = sums-zeros (counted query (left index recipes 0)) ∙ ap (λ (l : List Occurrence). keyword_counts (counted query l)) (left-start index recipes);
          small = λ c h. omega (arith, get_or-replicate {A = ℕ} 16 c 0 0 h);
        }

    pub counts-on : (k at : ℕ) → Walk recipes k at → k < file_count recipes → (file : List ℕ) → file ≡ part recipes (at + 4) (20 * field_at recipes at 4)
        → (counts counts' : List ℕ) → CountingFiles counts k → counts' ≡ sums counts (keyword_counts (counted query (file_list k index file)))
        → length (file_list k index file) < 2 ^ 36 → CountingFiles counts' (k + 1)
    counts-on k at w turn file f counts counts' g e few =
        let list : List Occurrence = file_list k index file in
        let here : List ℕ = keyword_counts (counted query list) in
        let ten : length here ≡ 16 = length-counts (λ j. j) 16 (counted query list) in
        let step : counts_from k ≡ sums here (counts_from (k + 1)) =
        ap (λ (l : List Occurrence). keyword_counts (counted query l)) (left_step index recipes k at w turn file f)
        ∙ ap (λ (l : List Occurrence). keyword_counts l) (counted-append list (left index recipes (k + 1)))
        ∙ counts-append (λ j. j) 16 (counted query list) (counted query (left index recipes (k + 1))) in
        record {
          long = ap length e ∙ length-sums counts here ∙ g.long;
          all = ap (λ (l : List ℕ). sums l (counts_from (k + 1))) e
              ∙ sums-assoc counts here (counts_from (k + 1)) (omega (arith, g.long, ten))
              ∙ ap (sums counts) (sym step)
              ∙ g.all;
          small = λ c h.
              omega (
                arith,
                ap (λ (l : List ℕ). get_or l c 0) e ∙ sums_at counts here c (omega (arith, g.long)),
                count_at (λ j. j) 16 (counted query list) c h,
                count_most (λ j. j) c (counted query list),
                counted-most list,
                g.small c h,
              );
        }

    pub counts_end : (k at : ℕ) → Walk recipes k at → file_count recipes ≤ k → (counts : List ℕ) → CountingFiles counts k → counts ≡ counts_all
    counts_end k at w done counts g =
        let nothing : counted query (left index recipes k) ≡ [] = ap (counted query) (left_end index recipes k at w done) ∙ counted-nil in
        sym (ap (λ (l : List Occurrence). sums counts (keyword_counts l)) nothing ∙ sums_none counts g.long) ∙ g.all
