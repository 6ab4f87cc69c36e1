-- What `listed` gives of one keyword at one place is document 01's text: the chunk's offsets, and then every start in the cell, counted from
-- i bytes before the chunk's end. For all records in range. Assumes nothing.
use mathlib.Core.Path.{◌≡◌, refl, ap, ap₂, ◌∙◌}
use mathlib.Core.Bool.{Bool, true, false, ◌||◌, or-false}
use mathlib.Core.List.{List, [], ◌∷◌, ◌++◌}
use Prim.Native.Nat.{ℕ, suc, ◌+◌, ◌-◌, ◌≤◌, ◌<◌}
use native.Mathlib.Nat.{zero-add}
use native.Mathlib.Omega.{arith}
use lib.ListN.{length, take, drop, length-drop, length-append, length-take}
use lib.Dec.{ltb}
use Rattle.spec.specs.Bytes.{each, keep, member, rising}
use Rattle.spec.specs.Table.{in_cell}
use Rattle.spec.specs.Join.{crosses}
use Rattle.spec.proofs.Tests.{eqb-ne, leb-true, leb-false, and_right, le-of-and}
use Rattle.spec.proofs.Begins.{begins-short}
use Rattle.spec.proofs.Each.{each_append, each-match, passing}
use Rattle.spec.proofs.Rising.{all_below, passing-member}

-- ---- one keyword at one place

-- as `listed` asks it
abbrev pub at_place : List ℕ → List ℕ → ℕ → ℕ → ℕ → ℕ → Bool
at_place w offsets i j size at = member at offsets || crosses w i j (size - at)

member-beyond : (n x : ℕ) (xs : List ℕ) → all_below n xs ≡ true → n ≤ x → member x xs ≡ false
member-beyond n x [] e h = refl
member-beyond n x (y ∷ xs) e h =
    let l : y < n = le-of-and (suc y) n (all_below n xs) e in
    rw (eqb-ne x y (omega arith)) (member-beyond n x xs (and_right (ltb y n) (all_below n xs) e) h)

-- a chunk's offsets, and the starts in the last i bytes that pass a test of the bytes left there
module _ (t : ℕ → Bool) (offsets : List ℕ) (i size : ℕ) (over : (left : ℕ) → i < left → t left ≡ false) (fits : all_below (size - i) offsets ≡ true) (short : i ≤ size) where
  pub at-crossing : (s : ℕ) → s < i → (member (size - i + s) offsets || t (size - (size - i + s))) ≡ t (i - s)
  at-crossing s l =
      let m : size - (size - i + s) ≡ i - s = omega arith in
      rw (member-beyond (size - i) (size - i + s) offsets fits (omega arith), m)

  pub crossing-stream : rising offsets ≡ true
      → passing (λ at. member at offsets || t (size - at)) 0 size ≡ offsets ++ each (λ s. keep (t (i - s)) (size - i + s)) 0 i
  crossing-stream up =
      let e : size ≡ size - i + i = omega arith in
      ap (passing (λ at. member at offsets || t (size - at)) 0) e ∙ each_append _ 0 (size - i) i
      ∙ ap₂ {C = List ℕ} (λ x y. x ++ y)
      (each-match _ _ 0 0 (size - i) (λ p l. rw (over (size - (0 + p)) (omega arith), or-false))
      ∙ passing-member (size - i) 0 offsets up (rw zero-add fits) (λ _. omega arith))
      (each-match _ _ (0 + (size - i)) 0 i (λ p l. rw (zero-add, zero-add, at-crossing p l)))

-- the test of a cell
cell-over : (w : List ℕ) (i j left : ℕ) → i < left → crosses w i j left ≡ false
unfolding crosses
cell-over w i j left h = rw (leb-false left i h)

pub cell-start : (w : List ℕ) (i j s : ℕ) → s < i → crosses w i j (i - s) ≡ in_cell w i j s
unfolding crosses
cell-start w i j s l = let n : i - (i - s) ≡ s = omega arith in rw (leb-true (i - s) i (omega arith), n)

pub at-cell : (w offsets : List ℕ) (i j size s : ℕ) → all_below (size - i) offsets ≡ true → i ≤ size → s < i → at_place w offsets i j size (size - i + s) ≡ in_cell w i j s
at-cell w offsets i j size s fits short l = at-crossing (crosses w i j) offsets i size (cell-over w i j) fits short s l ∙ cell-start w i j s l

pub stream : (w offsets : List ℕ) (i j size : ℕ) → rising offsets ≡ true → all_below (size - i) offsets ≡ true → i ≤ size
    → passing (at_place w offsets i j size) 0 size ≡ offsets ++ each (λ s. keep (in_cell w i j s) (size - i + s)) 0 i
stream w offsets i j size up fits short =
    crossing-stream (crosses w i j) offsets i size (cell-over w i j) fits short up
    ∙ ap (λ (l : List ℕ). offsets ++ l) (each-match _ _ 0 0 i (λ p l. rw (zero-add, cell-start w i j p l)))

-- ---- what the text says of a cell's edges

-- every start of a cell lies in the first i bytes, and where j is 0 there is none
pub cell-edge : (w : List ℕ) (i j s : ℕ) → j < length w → i + j - s < length w → in_cell w i j s ≡ false
unfolding in_cell
cell-edge w i j s hj h =
    begins-short w (drop s (take i w ++ drop (length w - j) w))
    (simp (length-drop, length-append, length-take) (omega arith))

pub cell-beyond : (w : List ℕ) (i j s : ℕ) → j < length w → i ≤ s → in_cell w i j s ≡ false
cell-beyond w i j s hj h = cell-edge w i j s hj (omega arith)

pub cell-no-suffix : (w : List ℕ) (i s : ℕ) → i < length w → in_cell w i 0 s ≡ false
cell-no-suffix w i s h = cell-edge w i 0 s (omega arith) (omega arith)
