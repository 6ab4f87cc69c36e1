-- The order of a place's occurrences: the first of the least heads is the next, and is taken off its stream. Nothing is said of how far
-- the listing has come: numbers before the least head are in no stream. Assumes nothing.
use mathlib.Core.Path.{◌≡◌, sym, ap, ◌∙◌}
use mathlib.Core.Logic.{◌≢◌, ◌⊎◌, inl, inr}
use mathlib.Core.Bool.{true, false}
use mathlib.Core.List.{List, [], ◌∷◌, ◌++◌}
use Prim.Native.Nat.{ℕ, suc, ◌+◌, ◌-◌, ◌≤◌, ◌<◌}
use native.Mathlib.Nat.{zero-add, sub-zero}
use native.Mathlib.Omega.{arith}
use lib.ListN.{length, get_or}
use Rattle.std.proofs.lemmas.Bool.{cases_eq}
use Rattle.spec.specs.Bytes.{each, keep, member, rising}
use Rattle.spec.specs.Join.{Occurrence, occurrences_at}
use Rattle.spec.proofs.Tests.{eqb-ne, eqb_same}
use Rattle.spec.proofs.Each.{each_append, each-match, each_none, each-skip, each_step}
use Rattle.spec.proofs.OccurrencesAt.{occurrences_at-none, occurrences_at-same}
use Rattle.spec.proofs.Rising.{member-head, rising-tail, rising-next}
use Rattle.listing.specs.Streams.{occurrences}

module _ (file count base size : ℕ) where
  abbrev found : ℕ → ℕ → Occurrence
  found y k = record { file = file; offset = base + y; keyword = k }

  module _ (s s' : ℕ → List ℕ) (k y : ℕ) (hk : k < count) (hy : y < size)
      (up : (j : ℕ) → j < count → rising (s j) ≡ true)
      (split : s k ≡ y ∷ s' k)
      (same : (j : ℕ) → j < count → j ≢ k → s' j ≡ s j)
      (least : (j : ℕ) → j < count → 0 < length (s j) → y ≤ get_or (s j) 0 0)
      (first : (j : ℕ) → j < k → 0 < length (s j) → y < get_or (s j) 0 0) where
    -- at another offset keyword k's first number does not matter
    other : (p j : ℕ) → j < count → p ≢ y → member p (s j) ≡ member p (s' j)
    other p j hj ne = go (cases_eq j k)
      where
        go : (j ≡ k) ⊎ (j ≢ k) → member p (s j) ≡ member p (s' j)
        go (inl e) = rw (e, split, eqb-ne p y ne)
        go (inr d) = rw (same j hj d)

    before : (p : ℕ) → p < y → (j : ℕ) → j < count → member p (s j) ≡ false
    before p h j hj = member-head p (s j) (up j hj) (λ l. omega (arith, least j hj l))

    rest_up : rising (y ∷ s' k) ≡ true
    rest_up = rw split at (up k hk)

    gone : member y (s' k) ≡ false
    gone = member-head y (s' k) (rising-tail y (s' k) rest_up) (rising-next y (s' k) rest_up)

    low : (j : ℕ) → j < k → member y (s j) ≡ false
    low j l = member-head y (s j) (up j (omega arith)) (first j l)

    low' : (j : ℕ) → j < k → member y (s' j) ≡ false
    low' j l = rw (same j (omega arith) (λ q. omega arith)) (low j l)

    held : member y (s k) ≡ true
    held = rw (split, eqb_same)

    -- at y: keyword k, and then what is left there
    here : occurrences_at file count (λ j. member y (s j)) (base + y) ≡ found y k ∷ occurrences_at file count (λ j. member y (s' j)) (base + y)
    unfolding occurrences_at
    here = rw e (at-k s ∙ rw (none s low, held) (ap {B = List Occurrence} (λ l. found y k ∷ l) (after ∙ sym (at-k s' ∙ rw (none s' low', gone)))))
      where
        m : ℕ
        m = count - suc k

        e : count ≡ k + suc m
        e = omega arith

        at-k : (t : ℕ → List ℕ) → each (λ j. keep (member y (t j)) (found y j)) 0 (k + suc m)
            ≡ each (λ j. keep (member y (t j)) (found y j)) 0 k
            ++ (keep (member y (t k)) (found y k) ++ each (λ j. keep (member y (t j)) (found y j)) (suc k) m)
        at-k t = each_append _ 0 k (suc m) ∙ rw zero-add

        none : (t : ℕ → List ℕ) → ((j : ℕ) → j < k → member y (t j) ≡ false) → each (λ j. keep (member y (t j)) (found y j)) 0 k ≡ []
        none t h = each_none _ 0 k (λ j l r. rw (h j (omega arith)))

        after : each (λ j. keep (member y (s j)) (found y j)) (suc k) m ≡ each (λ j. keep (member y (s' j)) (found y j)) (suc k) m
        after = each-match _ _ (suc k) (suc k) m (λ p l. rw (same (suc k + p) (omega arith) (λ q. omega arith)))

    -- THE STEP
    pub merge_step : occurrences file count base size s ≡ found y k ∷ occurrences file count base size s'
    unfolding occurrences
    merge_step =
        at_y s (λ p h. occurrences_at-none file count (base + p) _ (before p h))
        ∙ rw here (ap {B = List Occurrence} (λ l. found y k ∷ l)
        (ap {B = List Occurrence} (λ l. occurrences_at file count (λ j. member y (s' j)) (base + y) ++ l) later
        ∙ sym (at_y s' (λ p h.
        occurrences_at-same file count (base + p) _ _ (λ j hj. sym (other p j hj (λ q. omega arith)))
        ∙ occurrences_at-none file count (base + p) _ (before p h)))))
      where
        later : each (λ p. occurrences_at file count (λ j. member p (s j)) (base + p)) (suc y) (size - suc y)
            ≡ each (λ p. occurrences_at file count (λ j. member p (s' j)) (base + p)) (suc y) (size - suc y)
        later =
            each-match _ _ (suc y) (suc y) (size - suc y) (λ p l.
            occurrences_at-same file count (base + (suc y + p)) _ _ (λ j hj. other (suc y + p) j hj (λ q. omega arith)))

        at_y : (t : ℕ → List ℕ) → ((p : ℕ) → p < y → occurrences_at file count (λ j. member p (t j)) (base + p) ≡ [])
            → each (λ p. occurrences_at file count (λ j. member p (t j)) (base + p)) 0 size
            ≡ occurrences_at file count (λ j. member y (t j)) (base + y)
            ++ each (λ p. occurrences_at file count (λ j. member p (t j)) (base + p)) (suc y) (size - suc y)
        at_y t h =
            ap (each (λ p. occurrences_at file count (λ j. member p (t j)) (base + p)) 0) (sym (sub-zero size))
            ∙ each-skip _ 0 y size (omega arith) (omega arith) (λ p u v. h p v)
            ∙ each_step _ y size hy

  -- AND THE END
  pub merge-done : (s : ℕ → List ℕ) → ((j : ℕ) → j < count → s j ≡ []) → occurrences file count base size s ≡ []
  unfolding occurrences
  merge-done s h = each_none _ 0 size (λ p u v. occurrences_at-none file count (base + p) _ (λ j hj. rw (h j hj)))
