-- The survey of the files: before file k, the files from k on still give what is missing of the rows, and the files before k are said to have rows where
-- they have some. At the end nothing is missing, so that what was found is the plan's. Assumes nothing.
use mathlib.Core.Path.{◌≡◌, refl, sym, ap, subst, ◌∙◌}
use mathlib.Core.Logic.{◌≢◌, ◌⊎◌, inl, inr}
use mathlib.Core.Bool.{Bool, false, not}
use mathlib.Core.List.{List, ◌∷◌, map}
use Prim.Native.Nat.{ℕ, ◌+◌, ◌*◌, ◌^◌, ◌≤◌, ◌<◌}
use native.Mathlib.Nat.{zero-add}
use native.Mathlib.Omega.{arith}
use lib.ListN.{length, set, drop, get_or, replicate, length-replicate, length-set, get_or-replicate, get_or-eq_default}
use lib.Dec.{eqb}
use lib.Seq.{ext_get_or}
use borrow.Author.Tests.{lt-ltb, le-ltb}
use Rattle.std.proofs.lemmas.List.{get_or-set_same, get_or-set_other}
use Rattle.spec.specs.Bytes.{part, field_at}
use Rattle.spec.specs.Outcome.{first_code}
use Rattle.spec.specs.Index.{lengths_in}
use Rattle.spec.specs.Recipes.{named, file_count, files_of, recipes_code, files_code}
use Rattle.spec.proofs.Codes.{refused-code, next-code}
use Rattle.spec.proofs.Tabulated.{tabulated, length-tabulated, tabulated-at}
use Rattle.spec.proofs.Tests.{le-or-lt}
use Rattle.recipes.proofs.Files.{Walk, accepted}
use Rattle.walk.specs.Walking.{file_list}
use Rattle.plan.specs.Plans.{all_files_code, rows, rows_of, all_rows, has_row, files_with_rows}
use Rattle.recipes.proofs.Slices.{file-next}
use Rattle.plan.proofs.FileLaws.{code_of, codes, codes-step, codes-end, list-is}
use Rattle.plan.proofs.RowLaws.{rows_left, rows_start, rows_end, rows_step}

module _ (index recipes query : List ℕ) where
  -- ---- before file k, which is at `at`: the files before it passed, what was counted and what is left are the whole count; who of them has rows is said

  pub record Surveying (has_rows : List Bool) (k at total : ℕ) : Type 0 where
    pub walk : Walk recipes k at
    pub few : file_count recipes ≤ 65535
    pub coded : codes index recipes k ≡ all_files_code index recipes
    pub sums : total + rows_left index recipes query k ≡ all_rows index recipes query
    pub small : total ≤ 68719476736 * k
    pub wide : length has_rows ≡ 65535
    pub before : (j : ℕ) → j < k → get_or has_rows j false ≡ has_row index recipes query j
    pub behind : (j : ℕ) → k ≤ j → get_or has_rows j false ≡ false

  none-at : (n j : ℕ) → get_or (replicate {A = Bool} n false) j false ≡ false
  none-at n j = go (le-or-lt n j)
    where
      go : (n ≤ j) ⊎ (j < n) → get_or (replicate {A = Bool} n false) j false ≡ false
      go (inl h) = get_or-eq_default (replicate {A = Bool} n false) false (omega (arith, length-replicate {A = Bool} n false))
      go (inr h) = get_or-replicate {A = Bool} n j false false h

  pub survey-start : recipes_code recipes ≡ 0 → Surveying (replicate 65535 false) 0 4 0
  survey-start good =
      let a = accepted recipes good in
      record {
        walk = a.start;
        few = a.few;
        coded = refl;
        sums = zero-add (rows_left index recipes query 0) ∙ rows_start index recipes query;
        small = omega arith;
        wide = length-replicate {A = Bool} 65535 false;
        before = λ j h. let z : ⊥ = omega arith in absurd z;
        behind = λ j h. none-at 65535 j;
      }

  -- a turn, with file k's slice and its code
  module _ (k at : ℕ) (turn : k < file_count recipes) (file : List ℕ) (f : file ≡ part recipes (at + 4) (20 * field_at recipes at 4))
      (has_rows : List Bool) (total : ℕ) (g : Surveying has_rows k at total) (n : ℕ) (c : n ≡ code_of index (named file)) where
    abbrev rest : List ℕ
    rest = map (code_of index) (drop (k + 1) (files_of recipes))

    step : codes index recipes k ≡ first_code (code_of index (named file) ∷ rest)
    step = codes-step index recipes k at g.walk turn file f

    -- whether file k has rows, and what was said of the files before it
    said : (some : Bool) → some ≡ has_row index recipes query k → (j : ℕ) → j < k + 1 → get_or (set has_rows k some) j false ≡ has_row index recipes query j
    said some e j h = go (le-or-lt k j)
      where
        go : (k ≤ j) ⊎ (j < k) → get_or (set has_rows k some) j false ≡ has_row index recipes query j
        go (inl l) =
            let here : k ≡ j = omega arith in
            subst (λ (x : ℕ). get_or (set has_rows k some) x false ≡ has_row index recipes query x) here
            (get_or-set_same has_rows k some false (omega (arith, g.wide, g.few)) ∙ e)
        go (inr l) = get_or-set_other has_rows k j some false (λ z. omega arith) ∙ g.before j l

    pub survey-refused : n ≢ 0 → n ≡ all_files_code index recipes
    survey-refused h = c ∙ refused-code (code_of index (named file)) rest (λ z. h (c ∙ z)) ∙ sym step ∙ g.coded

    pub survey-on : n ≡ 0 → (many : ℕ) → many ≡ rows (lengths_in index) query k (file_list k index file) → many < 2 ^ 36
        → Surveying (set has_rows k (not (eqb many 0))) (k + 1) (at + (4 + length file)) (total + many)
    unfolding files_code
    survey-on z many m few =
        let listed : rows_of index recipes query k ≡ many
        = ap (rows (lengths_in index) query k) (list-is index recipes k at g.walk turn file f) ∙ sym m in
        let s : rows_left index recipes query k ≡ many + rows_left index recipes query (k + 1)
        = rows_step index recipes query k at g.walk turn file f ∙ ap (λ (x : ℕ). x + rows_left index recipes query (k + 1)) (sym m) in
        let next : at + 4 + length file ≡ at + (4 + length file) = omega arith in
        record {
          walk = subst (Walk recipes (k + 1)) next (file-next recipes k at g.walk turn file f);
          few = g.few;
          coded = sym (step ∙ next-code (code_of index (named file)) rest (sym c ∙ z)) ∙ g.coded;
          sums = omega (arith, s, g.sums);
          small = omega (arith, g.small, few);
          wide = length-set has_rows k (not (eqb many 0)) ∙ g.wide;
          before = said (not (eqb many 0)) (rw (lt-ltb k (file_count recipes) turn, listed) refl);
          behind = λ j h. get_or-set_other has_rows k j (not (eqb many 0)) false (λ z. omega arith) ∙ g.behind j (omega arith);
        }

  module _ (has_rows : List Bool) (k at total : ℕ) (g : Surveying has_rows k at total) (done : file_count recipes ≤ k) where
    pub survey-passed : all_files_code index recipes ≡ 0
    survey-passed = sym g.coded ∙ codes-end index recipes k at g.walk done

    pub survey-total : total ≡ all_rows index recipes query
    survey-total = omega (arith, g.sums, rows_end index recipes query k at g.walk done)

    -- a number behind the last file has no rows
    said-all : (j : ℕ) → get_or has_rows j false ≡ has_row index recipes query j
    said-all j = go (le-or-lt k j)
      where
        go : (k ≤ j) ⊎ (j < k) → get_or has_rows j false ≡ has_row index recipes query j
        go (inl h) = g.behind j h ∙ rw (le-ltb j (file_count recipes) (omega (arith, g.walk.few))) refl
        go (inr h) = g.before j h

    pub survey-rows : has_rows ≡ files_with_rows index recipes query
    unfolding files_with_rows
    survey-rows =
        let row : ℕ → Bool = has_row index recipes query in
        ext_get_or false has_rows (tabulated row 0 65535) (g.wide ∙ sym (length-tabulated row 0 65535))
        (λ j h. said-all j ∙ sym (tabulated-at row 0 65535 j false (omega (arith, g.wide)) ∙ ap row (zero-add j)))
