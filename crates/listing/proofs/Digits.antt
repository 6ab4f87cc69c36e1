-- The members of a set, lowest first. Assumes nothing.
use mathlib.Core.Path.{◌≡◌, refl, sym, ap, ap₂, ◌∙◌}
use mathlib.Core.Bool.{Bool}
use mathlib.Core.List.{List, [], ◌∷◌, ◌++◌, append-nil}
use Prim.Native.Nat.{ℕ, zero, suc, ◌+◌, ◌-◌, ◌/◌, ◌%◌, ◌^◌, ◌≤◌, ◌<◌}
use native.Mathlib.Nat.{add-zero, zero-add, div-one, pow-succ', div-div-eq-div-mul}
use native.Mathlib.Numerals.{add-one}
use native.Mathlib.Omega.{arith}
use lib.ListN.{length, length-append}
use lib.Dec.{eqb}
use lib.Pow.{shr_le, shr-shr}
use lib.Count.{count_trailing_zeros, under, ones, ones_step, ones-le}
use Rattle.spec.specs.Bytes.{each, keep, in_set}
use Rattle.spec.specs.Table.{set_of}
use Rattle.spec.proofs.Sets.{has-set, has_above}
use Rattle.spec.proofs.Each.{each-match, each_append, each_none}
use Rattle.listing.specs.Streams.{bits}

-- ---- its members

half_lt : (d x : ℕ) → x < 2 ^ suc d → x / 2 < 2 ^ d
half_lt d x h = omega arith

pub bits_none : (d from : ℕ) → bits d from 0 ≡ []
unfolding bits
bits_none zero from = refl
bits_none (suc d) from = bits_none d (suc from)

-- a digit more that is 0
pub bits-more : (d from x : ℕ) → x < 2 ^ d → bits (suc d) from x ≡ bits d from x
unfolding bits
bits-more zero from x h = let e : x ≡ 0 = omega arith in rw e
bits-more (suc d) from x h = ap {B = List ℕ} (λ l. keep (eqb (x % 2) 1) from ++ l) (bits-more d (suc from) (x / 2) (half_lt d x h))

-- the lowest member, and the set without it
pub bits-first : (d from x : ℕ) → 0 < x → x < 2 ^ d
    → bits d from x ≡ (from + count_trailing_zeros d x) ∷ bits d (from + count_trailing_zeros d x + 1) (x / 2 ^ count_trailing_zeros d x / 2)
unfolding bits count_trailing_zeros
bits-first zero from x p h = let z : ⊥ = omega arith in absurd z
bits-first (suc d) from x p h = go (x % 2) refl (λ q. bits-first d (suc from) (x / 2) q (half_lt d x h))
  where
    go : (r : ℕ) → x % 2 ≡ r → let t : ℕ = count_trailing_zeros d (x / 2) in
        (0 < x / 2 → bits d (suc from) (x / 2) ≡ (suc from + t) ∷ bits d (suc from + t + 1) (x / 2 / 2 ^ t / 2))
        → keep (eqb r 1) from ++ bits d (suc from) (x / 2) ≡ (from + under r t) ∷ bits (suc d) (from + under r t + 1) (x / 2 ^ under r t / 2)
    go zero e ih =
        let t : ℕ = count_trailing_zeros d (x / 2) in
        let n : from + suc t ≡ suc from + t = omega arith in
        let l : x / 2 / 2 ^ t / 2 < 2 ^ d = omega (arith, half_lt d x h, shr_le (x / 2) t) in
        let q : x / 2 ^ suc t ≡ x / 2 / 2 ^ t = ap (λ (y : ℕ). x / y) (pow-succ' 2 t) ∙ sym (div-div-eq-div-mul x 2 (2 ^ t)) in
        ih (omega arith) ∙ sym (rw (n, q) (ap {B = List ℕ} (λ r. (suc from + t) ∷ r) (bits-more d (suc from + t + 1) (x / 2 / 2 ^ t / 2) l)))
    go (suc zero) e ih = rw (add-zero, div-one, add-one) (ap {B = List ℕ} (λ r. from ∷ r) (sym (bits-more d (suc from) (x / 2) (half_lt d x h))))
    go (suc (suc r)) e ih = let z : ⊥ = omega arith in absurd z

-- as many as the digits that are set
pub bits-length : (d from x : ℕ) → x < 2 ^ d → length (bits d from x) ≡ ones x
unfolding bits
bits-length zero from x h = let e : x ≡ 0 = omega arith in rw e (ones-zero)
  where
    ones-zero : 0 ≡ ones 0
    ones-zero = omega (arith, ones-le 0 0 (omega arith))
bits-length (suc d) from x h =
    rw (length-append, bits-length d (suc from) (x / 2) (half_lt d x h), ones_step x) (ap (λ (n : ℕ). n + ones (x / 2)) (go (x % 2) (omega arith)))
  where
    go : (r : ℕ) → r < 2 → length (keep (eqb r 1) from) ≡ r
    go zero l = refl
    go (suc zero) l = refl
    go (suc (suc r)) l = let z : ⊥ = omega arith in absurd z

-- the members by their tests
bits_each : (d from x : ℕ) → bits d from x ≡ each (λ s. keep (in_set x s) (from + s)) 0 d
unfolding bits in_set
bits_each zero from x = refl
bits_each (suc d) from x =
    ap₂ {C = List ℕ} (λ a b. a ++ b) first (bits_each d (suc from) (x / 2) ∙ each-match _ _ 0 1 d (λ p l. step p))
  where
    first : keep (eqb (x % 2) 1) from ≡ keep (in_set x 0) (from + 0)
    first = rw (add-zero, div-one)

    step : (p : ℕ) → keep (in_set (x / 2) (0 + p)) (suc from + (0 + p)) ≡ keep (in_set x (1 + p)) (from + (1 + p))
    step p =
        let n : suc from + (0 + p) ≡ from + (1 + p) = omega arith in
        let q : x / 2 / 2 ^ p ≡ x / 2 ^ (1 + p) = shr-shr x 1 p in
        rw (n, zero-add, q)

-- a set made by `set_of`
pub bits-set : (t : ℕ → Bool) (n d from : ℕ) → n ≤ d → bits d from (set_of t n) ≡ each (λ s. keep (t s) (from + s)) 0 n
bits-set t n d from h =
    let e : d ≡ n + (d - n) = omega arith in
    bits_each d from (set_of t n) ∙ ap (each (λ s. keep (in_set (set_of t n) s) (from + s)) 0) e ∙ each_append _ 0 n (d - n)
    ∙ rw (each_none (λ s. keep (in_set (set_of t n) s) (from + s)) (0 + n) (d - n) (λ p u v. rw (has_above t n p (omega arith))), append-nil)
    (each-match _ _ 0 0 n (λ p l. rw (has-set t n (0 + p) (omega arith))))
