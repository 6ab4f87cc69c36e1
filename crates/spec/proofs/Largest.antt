-- Laws of `largest`, the largest number up to a bound that passes a test. Assumes nothing.
use mathlib.Core.Path.{◌≡◌, refl}
use mathlib.Core.Logic.{◌⊎◌, inl, inr}
use mathlib.Core.Bool.{Bool, true, false, cond}
use Prim.Native.Nat.{ℕ, zero, suc, ◌-◌, ◌≤◌, ◌<◌}
use native.Mathlib.Nat.{le-suc_iff, le_refl}
use native.Mathlib.Omega.{arith}
use Rattle.spec.specs.Bytes.{largest}
use Rattle.spec.proofs.Tests.{cond-elim}

-- the largest passes, if 0 does
pub largest-passes : (t : ℕ → Bool) (n : ℕ) → t 0 ≡ true → t (largest t n) ≡ true
largest-passes t zero h = h
largest-passes t (suc n) h = cond-elim (λ r. t r ≡ true) (t (suc n)) (suc n) (largest t n) (λ e. e) (λ e. largest-passes t n h)

pub largest-le : (t : ℕ → Bool) (n : ℕ) → largest t n ≤ n
largest-le t zero = le_refl zero
largest-le t (suc n) =
    let ih : largest t n ≤ n = largest-le t n in
    cond-elim (λ r. r ≤ suc n) (t (suc n)) (suc n) (largest t n) (λ e. omega arith) (λ e. omega arith)

-- a number above it, up to the bound, does not pass
pub largest-max : (t : ℕ → Bool) (n x : ℕ) → largest t n < x → x ≤ n → t x ≡ false
largest-max t zero x l h = let z : ⊥ = omega arith in absurd z
largest-max t (suc n) x l h = go (t (suc n)) refl l (le-suc_iff.0 h) (largest-max t n x)
  where
    go : (b : Bool) → t (suc n) ≡ b → cond b (suc n) (largest t n) < x → (x ≤ n) ⊎ (x ≡ suc n) → (largest t n < x → x ≤ n → t x ≡ false) → t x ≡ false
    go true e k d ih = let z : ⊥ = omega arith in absurd z
    go false e k (inl u) ih = ih k u
    go false e k (inr u) ih = rw u e

-- ---- the largest number that passes, found by going down

pub largest-yes : (t : ℕ → Bool) (n : ℕ) → t n ≡ true → largest t n ≡ n
largest-yes t zero e = refl
largest-yes t (suc n) e = rw e

pub largest-no : (t : ℕ → Bool) (n : ℕ) → 0 < n → t n ≡ false → largest t n ≡ largest t (n - 1)
largest-no t zero h e = let z : ⊥ = omega arith in absurd z
largest-no t (suc n) h e = let m : suc n - 1 ≡ n = omega arith in rw (m, e)
