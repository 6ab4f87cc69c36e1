-- The kit's digits of a number, as few as hold it, are its decimal text. Assumes nothing.
use mathlib.Core.Path.{◌≡◌, ap}
use mathlib.Core.List.{[], ◌∷◌, ◌++◌}
use Prim.Native.Nat.{ℕ, zero, suc, ◌+◌, ◌*◌, ◌-◌, ◌/◌, ◌%◌, ◌^◌, ◌≤◌, ◌<◌}
use native.Mathlib.Omega.{arith}
use native.Mathlib.Nat.{pow-suc, pow-le-pow_right}
use mathlib.Core.Logic.{⊎_elim}
use lib.ListN.{length, length-append}
use borrow.Author.Tests.{lt-ltb, le-ltb}
use Rattle.io.specs.Digits.{last_digits, IsDigitCount}
use Rattle.spec.proofs.Tests.{le-or-lt}
use Rattle.spec.specs.Program.{decimal_within, decimal}

-- one digit
small-digit : (most n : ℕ) → n < 10 → decimal_within (suc most) n ≡ (48 + n) ∷ []
unfolding decimal_within
small-digit most n l = rw (lt-ltb n 10 l)

-- one digit more
more-digits : (most n : ℕ) → 10 ≤ n → decimal_within (suc most) n ≡ decimal_within most (n / 10) ++ ((48 + n % 10) ∷ [])
unfolding decimal_within
more-digits most n l = rw (le-ltb n 10 l)

ten-pow : (k : ℕ) → 0 < 10 ^ k
ten-pow zero = omega arith
ten-pow (suc k) = omega (arith, pow-suc 10 k, ten-pow k)

-- k + 1 digits, where n < 10 ^ (k + 1) and no fewer hold n
digits-within : (k most n : ℕ) → k < most → n < 10 ^ suc k → (1 < suc k → 10 ^ k ≤ n) → last_digits 10 (suc k) n ≡ decimal_within most n
digits-within k zero n m a b = let y : ⊥ = omega (arith, m) in absurd y
digits-within zero (suc most) n m a b =
    let l : n < 10 = omega (arith, a) in
    let d : n % 10 ≡ n = omega arith in
    rw (d, lt-ltb n 10 l, small-digit most n l)
digits-within (suc k) (suc most) n m a b =
    let p : 10 ^ suc (suc k) ≡ 10 ^ suc k * 10 = pow-suc 10 (suc k) in
    let q : 10 ^ suc k ≡ 10 ^ k * 10 = pow-suc 10 k in
    let c : 10 ^ suc k ≤ n = b (omega arith) in
    let z : 0 < 10 ^ k = ten-pow k in
    let l : 10 ≤ n = omega (arith, c, q, z) in
    let d : n % 10 < 10 = omega arith in
    rw (
      lt-ltb (n % 10) 10 d,
      digits-within k most (n / 10) (omega (arith, m)) (omega (arith, a, p)) (λ x. omega (arith, c, q)),
      more-digits most n l,
    )

-- a number of 8 bytes has no more than 20
few-digits : (n k : ℕ) → n < 2 ^ 64 → 10 ^ k ≤ n → k < 20
few-digits n k l a =
    ⊎_elim
    (λ (g : 20 ≤ k). let p : 10 ^ 20 ≤ 10 ^ k = pow-le-pow_right {n = 10} (omega arith) g in let y : ⊥ = omega (arith, l, a, p) in absurd y)
    (λ (s : k < 20). s)
    (le-or-lt 20 k)

pub digits_decimal : (n k : ℕ) → n < 2 ^ 64 → IsDigitCount 10 1 n k → last_digits 10 k n ≡ decimal n
unfolding decimal
digits_decimal n zero b f = let y : ⊥ = omega (arith, f.0) in absurd y
digits_decimal n (suc zero) b f = digits-within 0 20 n (omega arith) f.1 (λ l. let y : ⊥ = omega (arith, l) in absurd y)
digits_decimal n (suc (suc k)) b f =
    let e : 10 ^ (suc (suc k) - 1) ≡ 10 ^ suc k = ap (λ (j : ℕ). 10 ^ j) (omega arith) in
    let a : 10 ^ suc k ≤ n = omega (arith, f.2 (omega arith), e) in
    digits-within (suc k) 20 n (few-digits n (suc k) b a) f.1 (λ l. a)

-- how many there are
length-within : (k most n : ℕ) → n < 10 ^ suc k → length (decimal_within most n) ≤ suc k
unfolding decimal_within
length-within k zero n l = omega arith
length-within zero (suc most) n l = rw (lt-ltb n 10 (omega (arith, l))) (omega arith)
length-within (suc k) (suc most) n l =
    let p : 10 ^ suc (suc k) ≡ 10 ^ suc k * 10 = pow-suc 10 (suc k) in
    let h : length (decimal_within most (n / 10)) ≤ suc k = length-within k most (n / 10) (omega (arith, l, p)) in
    ⊎_elim
    (λ (g : 10 ≤ n). rw (le-ltb n 10 g, length-append) (omega (arith, h)))
    (λ (s : n < 10). rw (lt-ltb n 10 s) (omega arith))
    (le-or-lt 10 n)

pub decimal-length : (k n : ℕ) → n < 10 ^ suc k → length (decimal n) ≤ suc k
unfolding decimal
decimal-length k n l = length-within k 20 n l
