-- Laws of `each`, `keep` and `member`: lists that are filters of a range. Assumes nothing.
use mathlib.Core.Path.{◌≡◌, refl, ap₂, ◌∙◌}
use mathlib.Core.Logic.{◌⊎◌, inl, inr}
use mathlib.Core.Bool.{Bool, true, false, ◌&&◌, ◌||◌, or_assoc, or-false, and-false, and-true}
use mathlib.Core.List.{List, [], ◌∷◌, ◌++◌, append_assoc}
use Prim.Native.Nat.{ℕ, zero, suc, ◌+◌, ◌-◌, ◌≤◌, ◌<◌}
use native.Mathlib.Nat.{add-zero, zero-add, add-suc, suc-add, zero-lt-suc, eq-or-lt_of_le}
use native.Mathlib.Omega.{arith}
use lib.Dec.{eqb}
use Rattle.spec.specs.Bytes.{each, keep, member}
use Rattle.spec.proofs.Tests.{eqb_same, eqb-ne}

module _ {ℓ} {A : Type ℓ} where
  -- two ranges of the same length give the same list if they do so place by place
  pub each-match : (f g : ℕ → List A) (a b n : ℕ) → ((p : ℕ) → p < n → f (a + p) ≡ g (b + p)) → each f a n ≡ each g b n
  each-match f g a b zero h = refl
  each-match f g a b (suc n) h =
      ap₂ {B = List A} (λ x y. x ++ y) (rw (add-zero, add-zero) at (h zero (zero-lt-suc n)))
      (each-match f g (suc a) (suc b) n (λ p l. rw (suc-add, ← add-suc, suc-add, ← add-suc) (h (suc p) (omega arith))))

  -- a range in two parts
  pub each_append : (f : ℕ → List A) (a n m : ℕ) → each f a (n + m) ≡ each f a n ++ each f (a + n) m
  each_append f a zero m = rw (zero-add, add-zero)
  each_append f a (suc n) m = rw (suc-add, each_append f (suc a) n m, append_assoc, add-suc, suc-add)

  -- a part of a range that gives nothing
  pub each_none : (f : ℕ → List A) (a n : ℕ) → ((p : ℕ) → a ≤ p → p < a + n → f p ≡ []) → each f a n ≡ []
  each_none f a zero h = refl
  each_none f a (suc n) h = rw (h a (omega arith) (omega arith), each_none f (suc a) n (λ p l m. h p (omega arith) (omega arith)))

  -- from `a` on, up to `end`: nothing before x, so go on at x
  pub each-skip : (f : ℕ → List A) (a x end : ℕ) → a ≤ x → x ≤ end → ((p : ℕ) → a ≤ p → p < x → f p ≡ []) → each f a (end - a) ≡ each f x (end - x)
  each-skip f a x end l m h =
      let e : end - a ≡ x - a + (end - x) = omega arith in
      let o : a + (x - a) ≡ x = omega arith in
      rw (e, each_append, o, each_none f a (x - a) (λ p u v. h p u (omega arith)))

  -- one step at x
  pub each_step : (f : ℕ → List A) (x end : ℕ) → x < end → each f x (end - x) ≡ f x ++ each f (suc x) (end - suc x)
  each_step f x end l = let e : end - x ≡ suc (end - suc x) = omega arith in rw e

-- ---- membership

member-append : (x : ℕ) (s t : List ℕ) → member x (s ++ t) ≡ (member x s || member x t)
member-append x [] t = refl
member-append x (a ∷ s) t = rw (member-append x s t, or_assoc)

member-keep : (x a : ℕ) (b : Bool) → member x (keep b a) ≡ (b && eqb x a)
member-keep x a true = or-false (eqb x a)
member-keep x a false = refl

module _ (t : ℕ → Bool) where
  -- the numbers of a range that pass a test
  abbrev pub passing : ℕ → ℕ → List ℕ
  passing a n = each (λ at. keep (t at) at) a n

  member-cons : (x a n : ℕ) → member x (passing a (suc n)) ≡ ((t a && eqb x a) || member x (passing (suc a) n))
  member-cons x a n = member-append x (keep (t a) a) (passing (suc a) n) ∙ rw member-keep

  member_below : (x a n : ℕ) → x < a → member x (passing a n) ≡ false
  member_below x a zero h = refl
  member_below x a (suc n) h = member-cons x a n ∙ rw (eqb-ne x a (omega arith), and-false, member_below x (suc a) n (omega arith))

  pub member-above : (x a n : ℕ) → a + n ≤ x → member x (passing a n) ≡ false
  member-above x a zero h = refl
  member-above x a (suc n) h = member-cons x a n ∙ rw (eqb-ne x a (omega arith), and-false, member-above x (suc a) n (omega arith))

  pub member-passing : (x a n : ℕ) → a ≤ x → x < a + n → member x (passing a n) ≡ t x
  member-passing x a zero h l = let z : ⊥ = omega arith in absurd z
  member-passing x a (suc n) h l = member-cons x a n ∙ go (eq-or-lt_of_le h) (λ k. member-passing x (suc a) n k (omega arith))
    where
      go : (a ≡ x) ⊎ (a < x) → (a < x → member x (passing (suc a) n) ≡ t x) → ((t a && eqb x a) || member x (passing (suc a) n)) ≡ t x
      go (inl e) ih = rw (e, eqb_same x, member_below x (suc x) n (omega arith), and-true, or-false)
      go (inr k) ih = rw (eqb-ne x a (omega arith), and-false) (ih k)
