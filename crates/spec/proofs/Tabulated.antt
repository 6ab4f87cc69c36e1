-- Laws of lists with one element for each number of a range. Assumes nothing.
use mathlib.Core.Path.{◌≡◌, refl, sym, ap, ap₂, ◌∙◌}
use mathlib.Core.Bool.{Bool, true}
use mathlib.Core.List.{List, [], ◌∷◌, map}
use Prim.Native.Nat.{ℕ, zero, suc, ◌+◌, ◌≤◌, ◌<◌}
use native.Mathlib.Nat.{add-zero, zero-add, add-suc, suc-add, not-suc-le-zero, le_of_suc-le-suc}
use native.Mathlib.Omega.{arith}
use lib.ListN.{length, get_or}
use lib.Seq.{ext_get_or}
use Rattle.spec.specs.Bytes.{each, every}
use Rattle.spec.proofs.Each.{each-match}
use Rattle.spec.proofs.Tests.{and_left, and_right}

-- f of each of the n numbers from `at`
abbrev pub tabulated {ℓ} : {A : Type ℓ} → (ℕ → A) → ℕ → ℕ → List A
tabulated f at n = each (λ k. f k ∷ []) at n

module _ {ℓ} {A : Type ℓ} where
  pub length-tabulated : (f : ℕ → A) (at n : ℕ) → length (tabulated f at n) ≡ n
  length-tabulated f at zero = refl
  length-tabulated f at (suc n) = ap suc (length-tabulated f (suc at) n)

  pub tabulated-at : (f : ℕ → A) (at n k : ℕ) (d : A) → k < n → get_or (tabulated f at n) k d ≡ f (at + k)
  tabulated-at f at zero k d h = absurd (not-suc-le-zero h)
  tabulated-at f at (suc n) zero d h = rw add-zero
  tabulated-at f at (suc n) (suc k) d h = rw (add-suc, ← suc-add) (tabulated-at f (suc at) n k d (le_of_suc-le-suc h))

  -- a list is its elements
  pub tabulated-get_or : (xs : List A) (d : A) (n : ℕ) → length xs ≡ n → tabulated (λ k. get_or xs k d) 0 n ≡ xs
  tabulated-get_or xs d n l =
      ext_get_or d (tabulated (λ k. get_or xs k d) 0 n) xs (length-tabulated (λ k. get_or xs k d) 0 n ∙ sym l)
      (λ i h. tabulated-at (λ k. get_or xs k d) 0 n i d (omega (arith, length-tabulated (λ k. get_or xs k d) 0 n)) ∙ rw zero-add)

  pub tabulated-same : (f g : ℕ → A) (n : ℕ) → ((k : ℕ) → k < n → f k ≡ g k) → tabulated f 0 n ≡ tabulated g 0 n
  tabulated-same f g n h = each-match (λ k. f k ∷ []) (λ k. g k ∷ []) 0 0 n (λ k l. ap (λ (x : A). x ∷ []) (rw zero-add (h k l)))

pub map-tabulated {ℓ ℓ'} : {A : Type ℓ} {B : Type ℓ'} (g : A → B) (f : ℕ → A) (at n : ℕ) → map g (tabulated f at n) ≡ tabulated (λ k. g (f k)) at n
map-tabulated g f at zero = refl
map-tabulated {B = B} g f at (suc n) = ap {B = List B} (λ l. g (f at) ∷ l) (map-tabulated g f (suc at) n)

-- two functions that agree on every element of a list
pub map-match : {A B : Type 0} (f g : A → B) (d : A) (l : List A) → ((k : ℕ) → k < length l → f (get_or l k d) ≡ g (get_or l k d)) → map f l ≡ map g l
map-match f g d [] h = refl
map-match {B = B} f g d (x ∷ l) h = ap₂ {C = List B} (λ y ys. y ∷ ys) (h 0 (omega arith)) (map-match f g d l (λ k u. h (suc k) (omega arith)))

-- a test of every number of a range
pub every-range : (p : ℕ → Bool) (at n : ℕ) → ((k : ℕ) → at ≤ k → k < at + n → p k ≡ true) → every p (tabulated (λ k. k) at n) ≡ true
every-range p at zero h = refl
every-range p at (suc n) h = rw (h at (omega arith) (omega arith), every-range p (suc at) n (λ k l m. h k (omega arith) (omega arith)))

pub every-range-at : (p : ℕ → Bool) (at n : ℕ) → every p (tabulated (λ k. k) at n) ≡ true → (k : ℕ) → k < n → p (at + k) ≡ true
every-range-at p at zero e k h = absurd (not-suc-le-zero h)
every-range-at p at (suc n) e zero h = rw add-zero (and_left (p at) (every p (tabulated (λ k. k) (suc at) n)) e)
every-range-at p at (suc n) e (suc k) h = rw (add-suc, ← suc-add) (every-range-at p (suc at) n (and_right (p at) (every p (tabulated (λ k. k) (suc at) n)) e) k (le_of_suc-le-suc h))
