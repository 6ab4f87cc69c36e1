-- The chunks' marks: the buffer that measuring fills, and what a writer may go by. Assumes nothing.
use mathlib.Core.Path.{◌≡◌, sym, ap, ◌∙◌}
use mathlib.Core.List.{List, ◌∷◌, []}
use Prim.Native.Nat.{ℕ, ◌+◌, ◌-◌, ◌≤◌, ◌<◌}
use native.Mathlib.Nat.{zero-add, sub-zero}
use native.Mathlib.Numerals.{add-one}
use native.Mathlib.Omega.{arith}
use lib.ListN.{length, take, get_or, set}
use lib.Seq.{get_or-take}
use Rattle.spec.specs.Bytes.{splice}
use Rattle.spec.specs.Store.{chunk_count, chunk_at}
use Rattle.spec.proofs.Each.{each_step}
use Rattle.spec.proofs.Splices.{splice-nil, splice-cons, splice-read}
use Rattle.spec.proofs.Tabulated.{tabulated, length-tabulated, tabulated-at}
use Rattle.chunkwalk.specs.Marks.{mark_of}
use Rattle.index_writer.specs.Layout.{marks_of, AllUsable, AllOdd}

module _ (list store : List ℕ) where
  abbrev pub mark_at : ℕ → ℕ
  mark_at k = mark_of list (chunk_at store k)

  -- ---- the buffer, mark by mark

  -- the marks from chunk k on
  abbrev pub marks_left : ℕ → List ℕ
  marks_left k = tabulated mark_at k (chunk_count store - k)

  pub marks-all : marks_left 0 ≡ marks_of list store
  unfolding marks_of
  marks-all = rw sub-zero

  -- a mark more: what is left to write then makes the same buffer
  pub marks-turn : (marks whole : List ℕ) (k x : ℕ) → k < chunk_count store → k < length marks → x ≡ mark_at k → splice marks k (marks_left k) ≡ whole
      → splice (set marks k x) (k + 1) (marks_left (k + 1)) ≡ whole
  marks-turn marks whole k x l h e w =
      let step : marks_left k ≡ mark_at k ∷ marks_left (k + 1) = rw add-one (each_step (λ j. mark_at j ∷ []) k (chunk_count store) l) in
      splice-cons marks k x (marks_left (k + 1)) h
      ∙ ap (λ (y : ℕ). splice marks k (y ∷ marks_left (k + 1))) e
      ∙ ap (splice marks k) (sym step)
      ∙ w

  pub marks-end : (marks whole : List ℕ) (k : ℕ) → chunk_count store ≤ k → splice marks k (marks_left k) ≡ whole → marks ≡ whole
  marks-end marks whole k h w =
      let z : chunk_count store - k ≡ 0 = omega arith in
      let e : splice marks k [] ≡ whole = (rw z at w) in
      sym (splice-nil marks k) ∙ e

  -- ---- what a writer may go by

  -- the mark of every chunk is kept
  abbrev pub Marked : List ℕ → Type 0
  Marked marks = (j : ℕ) → j < chunk_count store → get_or marks j 0 ≡ mark_at j

  pub marked : (before marks : List ℕ) → marks ≡ splice before 0 (marks_of list store) → Marked marks
  unfolding marks_of
  marked before marks e j l =
      let all : List ℕ = tabulated mark_at 0 (chunk_count store) in
      let n : length all ≡ chunk_count store = length-tabulated mark_at 0 (chunk_count store) in
      let first : take (length all) marks ≡ all = ap (take (length all)) e ∙ splice-read before 0 all (omega arith) in
      sym (get_or-take (length all) marks j 0 (omega arith))
      ∙ ap (λ (m : List ℕ). get_or m j 0) first
      ∙ tabulated-at mark_at 0 (chunk_count store) j 0 l
      ∙ ap mark_at (zero-add j)

  pub marked-usable : (marks : List ℕ) → Marked marks → AllUsable list store marks
  marked-usable marks m j l z = m j l

  pub odd-usable : (marks : List ℕ) → chunk_count store ≤ length marks → AllOdd marks → AllUsable list store marks
  odd-usable marks h odd j l z = let x : ⊥ = omega (arith, odd j (omega arith)) in absurd x
