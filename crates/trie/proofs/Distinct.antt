-- Laws of `distinct`: it has the same elements as the list, none twice, and one more at its end for each that is new. Assumes nothing.
use mathlib.Core.Path.{◌≡◌, refl, sym, ap, ◌∙◌}
use mathlib.Core.Logic.{◌⊎◌, inl, inr}
use mathlib.Core.Bool.{true, false, ◌||◌, or_assoc, or-false, false≢true}
use mathlib.Core.List.{List, [], ◌∷◌, ◌++◌, append-nil}
use Prim.Native.Nat.{ℕ, suc, ◌≤◌}
use native.Mathlib.Nat.{le_refl}
use native.Mathlib.Omega.{arith}
use lib.ListN.{length}
use Rattle.spec.specs.Bytes.{same, contains, twice}
use Rattle.spec.proofs.Tests.{bool_cases, cond-elim}
use Rattle.spec.proofs.Codes.{or_left, or_right}
use Rattle.spec.proofs.Same.{same-eq, same_refl}
use Rattle.spec.proofs.RecordLaws.{bool-ext}
use Rattle.trie.specs.Numbers.{without, distinct}

same-sym : (x y : List ℕ) → same x y ≡ same y x
same-sym x y = bool-ext (same x y) (same y x) (λ e. rw (same-eq x y e) (same_refl y)) (λ e. rw (same-eq y x e) (same_refl x))

pub contains-append : (u : List ℕ) (xs ys : List (List ℕ)) → contains u (xs ++ ys) ≡ (contains u xs || contains u ys)
contains-append u [] ys = refl
contains-append u (x ∷ xs) ys = rw (contains-append u xs ys, or_assoc)

-- ---- an element taken out

module _ (key : List ℕ) where
  without-same : (x : List ℕ) (xs : List (List ℕ)) → same key x ≡ true → without key (x ∷ xs) ≡ without key xs
  unfolding without
  without-same x xs e = rw e

  without_other : (x : List ℕ) (xs : List (List ℕ)) → same key x ≡ false → without key (x ∷ xs) ≡ x ∷ without key xs
  unfolding without
  without_other x xs e = rw e

  without-length : (xs : List (List ℕ)) → length (without key xs) ≤ length xs
  unfolding without
  without-length [] = le_refl 0
  without-length (x ∷ xs) =
      cond-elim (λ r. length r ≤ suc (length xs)) (same key x) (without key xs) (x ∷ without key xs)
      (λ _. omega (arith, without-length xs)) (λ _. omega (arith, without-length xs))

  without-append : (xs ys : List (List ℕ)) → without key (xs ++ ys) ≡ without key xs ++ without key ys
  unfolding without
  without-append [] ys = refl
  without-append (x ∷ xs) ys = go (bool_cases (same key x)) (without-append xs ys)
    where
      go : (same key x ≡ true) ⊎ (same key x ≡ false) → without key (xs ++ ys) ≡ without key xs ++ without key ys
          → without key (x ∷ xs ++ ys) ≡ without key (x ∷ xs) ++ without key ys
      go (inl e) ih = rw (e, ih)
      go (inr e) ih = rw (e, ih)

  -- it is gone
  without_gone : (xs : List (List ℕ)) → contains key (without key xs) ≡ false
  unfolding without
  without_gone [] = refl
  without_gone (x ∷ xs) = go (bool_cases (same key x)) (without_gone xs)
    where
      go : (same key x ≡ true) ⊎ (same key x ≡ false) → contains key (without key xs) ≡ false → contains key (without key (x ∷ xs)) ≡ false
      go (inl e) ih = ap (contains key) (without-same x xs e) ∙ ih
      go (inr e) ih = ap (contains key) (without_other x xs e) ∙ rw (e, ih)

  -- and no other
  without-keeps : (u : List ℕ) (xs : List (List ℕ)) → same u key ≡ false → contains u (without key xs) ≡ contains u xs
  unfolding without
  without-keeps u [] n = refl
  without-keeps u (x ∷ xs) n = go (bool_cases (same key x)) (without-keeps u xs n)
    where
      go : (same key x ≡ true) ⊎ (same key x ≡ false) → contains u (without key xs) ≡ contains u xs → contains u (without key (x ∷ xs)) ≡ contains u (x ∷ xs)
      go (inl e) ih = ap (contains u) (without-same x xs e) ∙ ih ∙ rw (← same-eq key x e, n)
      go (inr e) ih = ap (contains u) (without_other x xs e) ∙ rw ih

  without-once : (xs : List (List ℕ)) → twice xs ≡ false → twice (without key xs) ≡ false
  unfolding without
  without-once [] t = refl
  without-once (x ∷ xs) t = go (bool_cases (same key x)) (without-once xs (or_right (contains x xs) (twice xs) t))
    where
      go : (same key x ≡ true) ⊎ (same key x ≡ false) → twice (without key xs) ≡ false → twice (without key (x ∷ xs)) ≡ false
      go (inl e) ih = ap twice (without-same x xs e) ∙ ih
      go (inr e) ih =
          ap twice (without_other x xs e)
          ∙ rw (without-keeps x xs (same-sym x key ∙ e), or_left (contains x xs) (twice xs) t, ih)

-- ---- each element once

pub distinct-length : (xs : List (List ℕ)) → length (distinct xs) ≤ length xs
unfolding distinct
distinct-length [] = le_refl 0
distinct-length (x ∷ xs) = omega (arith, without-length x (distinct xs), distinct-length xs)

-- the same elements
pub distinct-contains : (u : List ℕ) (xs : List (List ℕ)) → contains u (distinct xs) ≡ contains u xs
unfolding distinct
distinct-contains u [] = refl
distinct-contains u (x ∷ xs) = go (bool_cases (same u x)) (distinct-contains u xs)
  where
    go : (same u x ≡ true) ⊎ (same u x ≡ false) → contains u (distinct xs) ≡ contains u xs
        → (same u x || contains u (without x (distinct xs))) ≡ (same u x || contains u xs)
    go (inl e) ih = rw e
    go (inr e) ih = rw (without-keeps x u (distinct xs) e, ih)

-- none twice
pub distinct-once : (xs : List (List ℕ)) → twice (distinct xs) ≡ false
unfolding distinct
distinct-once [] = refl
distinct-once (x ∷ xs) = rw (without_gone x (distinct xs)) (without-once x (distinct xs) (distinct-once xs))

-- one more element: a new one stands at the end
pub distinct-new : (xs : List (List ℕ)) (u : List ℕ) → contains u xs ≡ false → distinct (xs ++ u ∷ []) ≡ distinct xs ++ u ∷ []
unfolding distinct without
distinct-new [] u e = refl
distinct-new (x ∷ xs) u e =
    let n : same x u ≡ false = same-sym x u ∙ or_left (same u x) (contains u xs) e in
    ap {B = List (List ℕ)} (λ l. x ∷ l)
    (ap (without x) (distinct-new xs u (or_right (same u x) (contains u xs) e))
    ∙ without-append x (distinct xs) (u ∷ [])
    ∙ ap {B = List (List ℕ)} (λ l. without x (distinct xs) ++ l) (without_other x u [] n))

-- one that is there already changes nothing
pub distinct-old : (xs : List (List ℕ)) (u : List ℕ) → contains u xs ≡ true → distinct (xs ++ u ∷ []) ≡ distinct xs
unfolding distinct without
distinct-old [] u e = absurd (false≢true e)
distinct-old (x ∷ xs) u e = ap {B = List (List ℕ)} (λ l. x ∷ l) (go (bool_cases (contains u xs)) (distinct-old xs u))
  where
    go : (contains u xs ≡ true) ⊎ (contains u xs ≡ false) → (contains u xs ≡ true → distinct (xs ++ u ∷ []) ≡ distinct xs)
        → without x (distinct (xs ++ u ∷ [])) ≡ without x (distinct xs)
    go (inl c) ih = ap (without x) (ih c)
    go (inr c) ih =
        let t : same x u ≡ true = same-sym x u ∙ sym (or-false (same u x)) ∙ (rw c at e) in
        ap (without x) (distinct-new xs u c)
        ∙ without-append x (distinct xs) (u ∷ [])
        ∙ ap {B = List (List ℕ)} (λ l. without x (distinct xs) ++ l) (without-same x u [] t)
        ∙ append-nil _
