-- Sums over a range of numbers, and the lengths of lists made over one. Assumes nothing.
use mathlib.Core.Path.{◌≡◌, refl, sym, ap, ap₂, ◌∙◌}
use mathlib.Core.Logic.{◌⊎◌, inl, inr, ⊎_elim}
use mathlib.Core.Bool.{Bool, true, false, cond}
use mathlib.Core.List.{List, [], ◌∷◌}
use Prim.Native.Nat.{ℕ, zero, suc, ◌+◌, ◌≤◌, ◌<◌}
use native.Mathlib.Nat.{zero-add, add-zero}
use native.Mathlib.Omega.{arith}
use borrow.Author.Tests.{eqb-true, eqb-false, ne_eqb}
use lib.ListN.{length, length-append}
use lib.Dec.{eqb}
use Rattle.spec.specs.Bytes.{each, keep, sum}
use Rattle.spec.proofs.Tests.{bool_cases, le-or-lt}

abbrev pub sum_up : (ℕ → ℕ) → ℕ → ℕ → ℕ
sum_up g a n = sum (each (λ k. g k ∷ []) a n)

pub sum_same : (f g : ℕ → ℕ) (a n : ℕ) → ((p : ℕ) → a ≤ p → p < a + n → f p ≡ g p) → sum_up f a n ≡ sum_up g a n
sum_same f g a zero h = refl
sum_same f g a (suc n) h = ap₂ (λ (x y : ℕ). x + y) (h a (omega arith) (omega arith)) (sum_same f g (suc a) n (λ p u v. h p (omega arith) (omega arith)))

pub sum-none : (a n : ℕ) → sum_up (λ k. 0) a n ≡ 0
sum-none a zero = refl
sum-none a (suc n) = zero-add (sum_up (λ k. 0) (suc a) n) ∙ sum-none (suc a) n

pub sum-add : (f g : ℕ → ℕ) (a n : ℕ) → sum_up (λ k. f k + g k) a n ≡ sum_up f a n + sum_up g a n
sum-add f g a zero = refl
sum-add f g a (suc n) = omega (arith, sum-add f g (suc a) n)

pub sum-swap : (g : ℕ → ℕ → ℕ) (a n b m : ℕ) → sum_up (λ p. sum_up (g p) b m) a n ≡ sum_up (λ k. sum_up (λ p. g p k) a n) b m
sum-swap g a zero b m = sym (sum-none b m)
sum-swap g a (suc n) b m = ap (λ (x : ℕ). sum_up (g a) b m + x) (sum-swap g (suc a) n b m) ∙ sym (sum-add (g a) (λ k. sum_up (λ p. g p k) (suc a) n) b m)

pub sum-last : (f : ℕ → ℕ) (a n : ℕ) → sum_up f a (suc n) ≡ sum_up f a n + f (a + n)
sum-last f a zero = rw (add-zero, add-zero, zero-add)
sum-last f a (suc n) =
    let e : suc a + n ≡ a + suc n = omega arith in
    omega (arith, sum-last f (suc a) n, ap f e)

pub length-each {ℓ} : {A : Type ℓ} (f : ℕ → List A) (a n : ℕ) → length (each f a n) ≡ sum_up (λ p. length (f p)) a n
length-each f a zero = refl
length-each f a (suc n) = length-append (f a) (each f (suc a) n) ∙ ap (λ (x : ℕ). length (f a) + x) (length-each f (suc a) n)

pub length-keep {ℓ m} : {A : Type ℓ} {B : Type m} (b : Bool) (x : A) (y : B) → length (keep b x) ≡ length (keep b y)
length-keep true x y = refl
length-keep false x y = refl

-- a sum that has one number only at j: nothing behind it, and the number itself
single-none : (f : ℕ → ℕ) (j b m : ℕ) → j < b → sum_up (λ k. cond (eqb j k) (f k) 0) b m ≡ 0
single-none f j b m w =
    sum_same (λ k. cond (eqb j k) (f k) 0) (λ k. 0) b m (λ p x y. ap (λ (t : Bool). cond t (f p) 0) (ne_eqb j p (λ q. omega arith))) ∙ sum-none b m

single_step : (f : ℕ → ℕ) (j a n : ℕ) → (suc a ≤ j → sum_up (λ k. cond (eqb j k) (f k) 0) (suc a) n ≡ f j) → a ≤ j
    → (eqb j a ≡ true) ⊎ (eqb j a ≡ false) → sum_up (λ k. cond (eqb j k) (f k) 0) a (suc n) ≡ f j
single_step f j a n behind u (inl t) =
    let e : j ≡ a = eqb-true j a t in
    ap₂ (λ (x y : ℕ). x + y) (ap (λ (b : Bool). cond b (f a) 0) t ∙ ap f (sym e)) (single-none f j (suc a) n (omega arith)) ∙ add-zero (f j)
single_step f j a n behind u (inr e) =
    ap₂ (λ (x y : ℕ). x + y) (ap (λ (b : Bool). cond b (f a) 0) e) (behind (lt_of_ne j a u (λ q. eqb-false j a e q))) ∙ zero-add (f j)
  where
    lt_of_ne : (j a : ℕ) → a ≤ j → (j ≡ a → ⊥) → suc a ≤ j
    lt_of_ne j a u d = ⊎_elim (λ l. l) (λ l. absurd (d (omega arith))) (le-or-lt (suc a) j)

pub sum-single : (f : ℕ → ℕ) (j a n : ℕ) → a ≤ j → j < a + n → sum_up (λ k. cond (eqb j k) (f k) 0) a n ≡ f j
sum-single f j a zero u v = let z : ⊥ = omega arith in absurd z
sum-single f j a (suc n) u v = single_step f j a n (λ w. sum-single f j (suc a) n w (omega arith)) u (bool_cases (eqb j a))
