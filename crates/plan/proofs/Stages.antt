-- The stages of a plan: each refusal, and what the stage after it may start from; and what a plan without refusal gives who lists. Assumes nothing.
use mathlib.Core.Path.{◌≡◌, refl, sym, ap, ◌∙◌, subst}
use mathlib.Core.Logic.{◌≢◌, ◌⊎◌, inl, inr}
use mathlib.Core.Bool.{Bool, true, false, true≢false}
use mathlib.Core.List.{List}
use Prim.Native.Nat.{ℕ, zero, suc, ◌+◌, ◌-◌, ◌≤◌, ◌<◌}
use native.Mathlib.Nat.{zero-add}
use native.Mathlib.Omega.{arith}
use borrow.Author.Tests.{lt-ltb, eq-eqb, ne_eqb}
use lib.ListN.{length, take, drop, get_or}
use Rattle.spec.specs.declared.Opened.{Opened}
use Rattle.spec.specs.Form.{form_of}
use Rattle.spec.specs.Keywords.{folded_keywords, list_size, keyword_front_code}
use Rattle.spec.specs.Store.{chunk_count}
use Rattle.spec.specs.Index.{list_in, index_code}
use Rattle.spec.specs.Opened.{opened_of}
use Rattle.spec.specs.Recipes.{file_count, recipes_code}
use Rattle.spec.specs.Join.{join_list, joinable_code, inner_least}
use Rattle.spec.proofs.Codes.{passed-whole, refused-whole, next-whole, last-whole}
use Rattle.spec.proofs.IndexChecks.{index-good}
use Rattle.spec.proofs.Tabulated.{tabulated-at}
use Rattle.recipes.proofs.Files.{accepted}
use Rattle.directory.specs.Chains.{Chained, Empty}
use Rattle.files.specs.Measures.{least_in}
use Rattle.files.proofs.OfIndex.{index-keys}
use Rattle.tables.specs.Tabled.{tables_of}
use Rattle.index.specs.Stages.{examined_chains}
use Rattle.index.proofs.CheckLaws.{list-is, index-chains}
use Rattle.walk.specs.Walking.{keyword_counts}
use Rattle.plan.specs.declared.Plan.{Plan}
use Rattle.plan.specs.Plans.{all_files_code, front_code, rows_of, all_rows, counted, has_row, files_with_rows, plan_code, plan_of, planned_tables}
use Rattle.plan.specs.Plans.{Joinable, Marked, Planned}

zero_or : (n : ℕ) → (n ≡ 0) ⊎ (n ≢ 0)
zero_or zero = inl refl
zero_or (suc n) = inr (λ e. let z : ⊥ = omega arith in absurd z)

-- the numbers of an opened index
module _ (index : List ℕ) (opened : Opened) (o : opened ≡ opened_of index) where
  starts : opened.directory ≡ 8 + list_size (list_in index)
  unfolding opened_of
  starts = ap (λ (x : Opened). x.directory) o

  counts : opened.entries ≡ chunk_count index
  unfolding opened_of
  counts = ap (λ (x : Opened). x.entries) o

  -- what an inner chunk must have
  pub inner-least : least_in opened ≡ inner_least (form_of index) (list_in index)
  unfolding opened_of least_in inner_least
  inner-least = ap least_in o

-- an index that passed its check: its keyword list, as the code cuts it
module _ (index : List ℕ) (i : index_code (form_of index) index ≡ 0) where
  pub header : 8 ≤ length index
  header = (index-good (form_of index) index i).header

  pub list-good : keyword_front_code (take (length index - 8) (drop 8 index)) ≡ 0
  list-good = ap keyword_front_code (list-is index) ∙ (index-good (form_of index) index i).list

module _ (index recipes : List ℕ) where
  abbrev indexed : ℕ
  indexed = index_code (form_of index) index

  -- ---- the tests before the files'

  pub front-index : indexed ≢ 0 → indexed ≡ front_code index recipes
  unfolding front_code
  front-index h = refused-whole indexed _ h

  pub front-recipes : indexed ≡ 0 → recipes_code recipes ≡ front_code index recipes
  unfolding front_code
  front-recipes i = sym (next-whole indexed _ i ∙ last-whole (recipes_code recipes))

  pub front-passed : front_code index recipes ≡ 0 → (indexed ≡ 0) × (recipes_code recipes ≡ 0)
  unfolding front_code
  front-passed z = let a = passed-whole indexed _ z in (a.0, sym (last-whole (recipes_code recipes)) ∙ a.1)

  -- ---- the whole refusal

  -- where the front passes, the files' code is the whole number
  pub files-number : indexed ≡ 0 → recipes_code recipes ≡ 0 → all_files_code index recipes ≡ joinable_code (form_of index) index recipes
  unfolding joinable_code
  files-number i r = sym (next-whole indexed _ i ∙ next-whole (recipes_code recipes) _ r ∙ last-whole (all_files_code index recipes))

  -- a refusal at the front is the whole refusal
  index_number : indexed ≢ 0 → indexed ≡ joinable_code (form_of index) index recipes
  unfolding joinable_code
  index_number h = refused-whole indexed _ h

  recipes-number : indexed ≡ 0 → recipes_code recipes ≢ 0 → recipes_code recipes ≡ joinable_code (form_of index) index recipes
  unfolding joinable_code
  recipes-number i h = refused-whole (recipes_code recipes) _ h ∙ sym (next-whole indexed _ i)

  pub front-number : front_code index recipes ≢ 0 → front_code index recipes ≡ joinable_code (form_of index) index recipes
  front-number h = go (zero_or indexed)
    where
      go : (indexed ≡ 0) ⊎ (indexed ≢ 0) → front_code index recipes ≡ joinable_code (form_of index) index recipes
      go (inl i) = sym (front-recipes i) ∙ recipes-number i (λ z. h (sym (front-recipes i) ∙ z))
      go (inr i) = sym (front-index i) ∙ index_number i

  -- a plan's tests all pass, so the front does
  pub joinable-passed : joinable_code (form_of index) index recipes ≡ 0 → (indexed ≡ 0) × (recipes_code recipes ≡ 0) × (all_files_code index recipes ≡ 0)
  unfolding joinable_code
  joinable-passed z =
      let a = passed-whole indexed _ z in
      let b = passed-whole (recipes_code recipes) _ a.1 in
      (a.0, b.0, sym (last-whole (all_files_code index recipes)) ∙ b.1)

  -- ---- the tables

  pub tables-kept : (tables : List (List (List ℕ))) → front_code index recipes ≢ 0 → tables ≡ planned_tables index recipes tables
  unfolding planned_tables
  tables-kept tables h = rw (ne_eqb (front_code index recipes) 0 h)

  pub tables-made : (tables : List (List (List ℕ))) → front_code index recipes ≡ 0
      → planned_tables index recipes tables ≡ tables_of (folded_keywords (list_in index))
  unfolding planned_tables
  tables-made tables z = rw (eq-eqb (front_code index recipes) 0 z)

  -- ---- all files can be walked

  pub joinable : (opened : Opened) (chains₀ chains : List ℕ) (tables : List (List (List ℕ))) → indexed ≡ 0 → recipes_code recipes ≡ 0 → opened ≡ opened_of index
      → Empty chains₀ → chains ≡ examined_chains index chains₀ → tables ≡ tables_of (folded_keywords (list_in index)) → Joinable index recipes opened chains tables
  joinable opened chains₀ chains tables i r o e x t =
      record {
        named = r;
        looked = record {
          checked = record { good = i; read = o };
          chained = subst (λ (keys : List (List ℕ)). Chained keys 0 chains)
              (sym (index-keys index opened.directory opened.entries (starts index opened o) (counts index opened o)))
              (index-chains index chains₀ chains i x e.long);
        };
        tabled = t;
      }

module _ (index recipes query : List ℕ) where
  -- ---- the files with rows

  rows-marked : (has_rows : List Bool) → recipes_code recipes ≡ 0 → has_rows ≡ files_with_rows index recipes query → Marked index recipes query has_rows
  unfolding files_with_rows
  rows-marked has_rows good e =
      record {
        none = λ k h z.
            let here : get_or has_rows k false ≡ has_row index recipes query k =
            ap (λ (l : List Bool). get_or l k false) e
            ∙ tabulated-at (has_row index recipes query) 0 65535 k false (omega (arith, (accepted recipes good).few))
            ∙ ap (has_row index recipes query) (zero-add k) in
            no_row k h (sym here ∙ z);
      }
    where
      no_row : (k : ℕ) → k < file_count recipes → has_row index recipes query k ≡ false → rows_of index recipes query k ≡ 0
      no_row k h z = go (zero_or (rows_of index recipes query k))
        where
          go : (rows_of index recipes query k ≡ 0) ⊎ (rows_of index recipes query k ≢ 0) → rows_of index recipes query k ≡ 0
          go (inl e) = e
          go (inr n) =
              let some : has_row index recipes query k ≡ true = rw (lt-ltb k (file_count recipes) h, ne_eqb (rows_of index recipes query k) 0 n) refl in
              let y : ⊥ = true≢false (sym some ∙ z) in absurd y

  -- ---- the plan, by its parts

  abbrev plan-with : ℕ → List ℕ → Opened → List Bool → Plan
  plan-with total counts opened has_rows = record { total = total; counts = counts; opened = opened; has_rows = has_rows }

  abbrev all_counts : List ℕ
  all_counts = keyword_counts (counted query (join_list (form_of index) index recipes))

  pub done-plan : (total : ℕ) (counts : List ℕ) (opened : Opened) (has_rows : List Bool) → total ≡ all_rows index recipes query → counts ≡ all_counts
      → opened ≡ opened_of index → has_rows ≡ files_with_rows index recipes query → plan-with total counts opened has_rows ≡ plan_of index recipes query
  unfolding plan_of
  done-plan total counts opened has_rows t n o h =
      ap {B = Plan} (λ (x : ℕ). plan-with x counts opened has_rows) t
      ∙ ap {B = Plan} (λ (x : List ℕ). plan-with (all_rows index recipes query) x opened has_rows) n
      ∙ ap {B = Plan} (λ (x : Opened). plan-with (all_rows index recipes query) all_counts x has_rows) o
      ∙ ap {B = Plan} (plan-with (all_rows index recipes query) all_counts (opened_of index)) h

  -- ---- what a plan without refusal gives who lists

  module _ (plan : Plan) (p : plan ≡ plan_of index recipes query) where
    pub plan-total : plan.total ≡ all_rows index recipes query
    unfolding plan_of
    plan-total = ap (λ (x : Plan). x.total) p

    pub planned : (chains₀ chains : List ℕ) (tables₀ tables : List (List (List ℕ))) → plan_code index recipes ≡ 0 → Empty chains₀
        → chains ≡ examined_chains index chains₀ → tables ≡ planned_tables index recipes tables₀ → Planned index recipes query plan chains tables
    unfolding plan_of
    planned chains₀ chains tables₀ tables z e x t =
        let passed = joinable-passed index recipes z in
        let front : front_code index recipes ≡ 0 = sym (front-recipes index recipes passed.0) ∙ passed.1 in
        record {
          accepted = z;
          passed = passed.2;
          totalled = plan-total;
          counts = ap (λ (y : Plan). y.counts) p;
          marked = rows-marked plan.has_rows passed.1 (ap (λ (y : Plan). y.has_rows) p);
          joinable = joinable index recipes plan.opened chains₀ chains tables passed.0 passed.1 (ap (λ (y : Plan). y.opened) p) e x
              (t ∙ tables-made index recipes tables₀ front);
        }
