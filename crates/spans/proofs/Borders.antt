-- What a keyword's table says of its borders: a start's bytes are the last of a prefix, and the bytes from p on are the first of a suffix. The cell
-- for the rest of the keyword has each start of the first kind; the start 0 of the cell for p says the second. Assumes nothing.
use mathlib.Core.Path.{◌≡◌, refl, sym, ap, ◌∙◌}
use mathlib.Core.Logic.{◌⊎◌, inl, inr}
use mathlib.Core.Bool.{true, false, ◌||◌, or-true, false≢true}
use mathlib.Core.List.{List, [], ◌∷◌}
use Prim.Native.Nat.{ℕ, zero, suc, ◌-◌, ◌≤◌, ◌<◌}
use native.Mathlib.Omega.{arith}
use lib.Pow.{pow_mono}
use lib.ListN.{length, take, drop}
use lib.Seq.{length-take-le}
use Rattle.spec.specs.Bytes.{begins, set_of, in_set}
use Rattle.spec.specs.Table.{in_cell}
use Rattle.spec.specs.Join.{keyword_at, crosses, starts, ends}
use Rattle.spec.proofs.Tests.{le-or-lt, bool_cases, eqb_same, leb-true, and_left}
use Rattle.spec.proofs.Begins.{begins-append}
use Rattle.spec.proofs.Sets.{has-set, none_above}
use Rattle.spec.proofs.Point.{crosses-split}
use Rattle.spec.proofs.RecordLaws.{bool-ext, and_intro}
use Rattle.tables.specs.Tabled.{cell_set, tables_of, cell_at}
use Rattle.tables.proofs.Cells.{cell-at, cell-behind, row_at, table_at}
use Rattle.spans.specs.Spans.{some_cell}

begins-self : (w : List ℕ) → begins w w ≡ true
begins-self [] = refl
begins-self (a ∷ w) = rw (eqb_same a, begins-self w)

-- ---- cells

module _ (w : List ℕ) where
  -- a start of a cell, cut at the border
  cell-bit : (i j s : ℕ) → s < i → in_set (cell_set w i j) s ≡ crosses w i j (i - s)
  unfolding cell_set crosses
  cell-bit i j s h =
      let e : i - (i - s) ≡ s = omega arith in
      has-set (in_cell w i j) i s h ∙ rw (leb-true (i - s) i (omega arith), e)

  -- the start 0 of a cell for p says that the rest from p on ends a keyword
  ends-bit : (p j : ℕ) → 1 ≤ p → p ≤ length w → in_set (cell_set w p j) 0 ≡ ends w j p
  unfolding ends in_cell cell_set
  ends-bit p j h l =
      let n : length (take p w) ≡ p = length-take-le p w l in
      has-set (in_cell w p j) p 0 (omega arith)
      ∙ rw (begins-append w (take p w) (drop (length w - j) w), n, begins-self (take p w))

-- ---- the tables

module _ (keywords : List (List ℕ)) (tables : List (List (List ℕ))) (tabled : tables ≡ tables_of keywords) (k : ℕ) (few : k < 16)
    (most : length (keyword_at keywords k) ≤ 32) where
  abbrev w : List ℕ
  w = keyword_at keywords k

  pub table-ends : (p j : ℕ) → 1 ≤ p → p < length w → j < length w → in_set (set_of (λ p. in_set (cell_at tables k p j) 0) 32) p ≡ ends w j p
  table-ends p j h l m =
      has-set (λ p. in_set (cell_at tables k p j) 0) 32 p (omega arith)
      ∙ ap (λ (x : ℕ). in_set x 0) (cell-at keywords tables tabled k p j few most l m)
      ∙ ends-bit w p j h (omega arith)

  pub table-crosses : (i j s : ℕ) → i < length w → j < length w → s < i → in_set (cell_at tables k i j) s ≡ crosses w i j (i - s)
  table-crosses i j s l m h = ap (λ (x : ℕ). in_set x s) (cell-at keywords tables tabled k i j few most l m) ∙ cell-bit w i j s h

  -- a cell that has a start says that the start's bytes are the last of the prefix
  module _ (i s : ℕ) (l : i < length w) (h : s < i) where
    cell-starts : (j : ℕ) → j < 32 → in_set (cell_at tables k i j) s ≡ true → starts w i (i - s) ≡ true
    cell-starts j u e = go (le-or-lt (length w) j)
      where
        go : (length w ≤ j) ⊎ (j < length w) → starts w i (i - s) ≡ true
        go (inl v) =
            let z : cell_at tables k i j ≡ 0 = rw (tabled, table_at keywords k [] few, row_at w i [] (omega arith)) (cell-behind w i j v u) in
            absurd (false≢true (sym (none_above 0 s (omega (arith, pow_mono {i = 0} {j = s} (omega arith)))) ∙ ap (λ (x : ℕ). in_set x s) (sym z) ∙ e))
        go (inr v) =
            and_left (starts w i (i - s)) (begins (drop (i - s) w) (drop (length w - j) w))
            (sym (crosses-split w i j (i - s) (omega arith)) ∙ sym (table-crosses i j s l v h) ∙ e)

    some-starts : (j : ℕ) → j ≤ 32 → some_cell tables k i s j ≡ true → starts w i (i - s) ≡ true
    unfolding some_cell
    some-starts zero u e = absurd (false≢true e)
    some-starts (suc j) u e = go (bool_cases (some_cell tables k i s j)) (some-starts j (omega arith))
      where
        go : (some_cell tables k i s j ≡ true) ⊎ (some_cell tables k i s j ≡ false) → (some_cell tables k i s j ≡ true → starts w i (i - s) ≡ true)
            → starts w i (i - s) ≡ true
        go (inl q) ih = ih q
        go (inr q) ih = cell-starts j (omega arith) (rw q at e)

    -- the cell for the rest of the keyword has the start
    some_of : (j m : ℕ) → j < m → in_set (cell_at tables k i j) s ≡ true → some_cell tables k i s m ≡ true
    unfolding some_cell
    some_of j zero u e = let z : ⊥ = omega arith in absurd z
    some_of j (suc m) u e = go (le-or-lt m j) (λ v. some_of j m v e)
      where
        go : (m ≤ j) ⊎ (j < m) → (j < m → some_cell tables k i s m ≡ true) → (some_cell tables k i s m || in_set (cell_at tables k i m) s) ≡ true
        go (inl v) ih = let q : m ≡ j = omega arith in rw (q, e, or-true)
        go (inr v) ih = rw (ih v)

    table-some : some_cell tables k i s 32 ≡ starts w i (i - s)
    table-some = bool-ext (some_cell tables k i s 32) (starts w i (i - s)) (some-starts 32 (omega arith)) back
      where
        back : starts w i (i - s) ≡ true → some_cell tables k i s 32 ≡ true
        back e =
            let j : ℕ = length w - (i - s) in
            let d : length w - j ≡ i - s = omega arith in
            let q : in_set (cell_at tables k i j) s ≡ true =
            table-crosses i j s l (omega arith) h
            ∙ crosses-split w i j (i - s) (omega arith)
            ∙ and_intro (starts w i (i - s)) (begins (drop (i - s) w) (drop (length w - j) w)) e (rw d (begins-self (drop (i - s) w))) in
            some_of j 32 (omega arith) q

    pub table-starts : in_set (set_of (λ s. some_cell tables k i s 32) 32) s ≡ starts w i (i - s)
    table-starts = has-set (λ s. some_cell tables k i s 32) 32 s (omega arith) ∙ table-some
