-- A set made by `set_of` has exactly the numbers that pass, and a number is the set of its bits. Assumes nothing.
use mathlib.Core.Path.{◌≡◌, refl, sym, ap, ap₂, ◌∙◌}
use mathlib.Core.Logic.{◌⊎◌, inl, inr}
use mathlib.Core.Bool.{Bool, true, false, cond}
use Prim.Native.Nat.{ℕ, zero, suc, ◌+◌, ◌-◌, ◌*◌, ◌/◌, ◌%◌, ◌^◌, ◌≤◌, ◌<◌}
use native.Mathlib.Nat.{eq-or-lt_of_le, le_of_suc-le-suc, lt_of_lt_of_le, div-eq_of_lt, div-lt_iff_lt-mul, div-add-mod', mod-lt, one-mul, zero-mul, zero-add, add_comm, pow-suc}
use native.Mathlib.Numerals.{add-one}
use native.Mathlib.Omega.{arith}
use lib.Dec.{eqb}
use lib.Pow.{shl_exact, pow_mono, pow_pos, high, low, field, mod-mod-pow}
use Rattle.spec.specs.Bytes.{set_of, in_set}

pub set-lt : (t : ℕ → Bool) (n : ℕ) → set_of t n < 2 ^ n
set-lt t zero = omega arith
set-lt t (suc n) = go (t n) (set-lt t n)
  where
    go : (b : Bool) → set_of t n < 2 ^ n → cond b 1 0 * 2 ^ n + set_of t n < 2 ^ suc n
    go true h = omega arith
    go false h = omega arith

-- a bit of a number hangs only on what is below 2 to a higher power
pub bit-low : (x s n : ℕ) → s < n → x / 2 ^ s % 2 ≡ (x % 2 ^ n) / 2 ^ s % 2
bit-low x s n h =
    let e : n - (1 + s) + (1 + s) ≡ n = omega arith in
    sym (field x 1 s)
    ∙ ap (λ (y : ℕ). y / 2 ^ s) (sym (mod-mod-pow x (n - (1 + s)) (1 + s)) ∙ ap (λ (m : ℕ). x % 2 ^ m % 2 ^ (1 + s)) e)
    ∙ field (x % 2 ^ n) 1 s

pub has-set : (t : ℕ → Bool) (n s : ℕ) → s < n → in_set (set_of t n) s ≡ t s
unfolding in_set
has-set t zero s h = let z : ⊥ = omega arith in absurd z
has-set t (suc n) s h = go (eq-or-lt_of_le (le_of_suc-le-suc h)) (has-set t n s)
  where
    top : (b : Bool) → eqb (cond b 1 0 % 2) 1 ≡ b
    top true = refl
    top false = refl

    go : (s ≡ n) ⊎ (s < n) → (s < n → in_set (set_of t n) s ≡ t s) → in_set (set_of t (suc n)) s ≡ t s
    go (inl e) ih = rw (e, high (cond (t n) 1 0) n (set-lt t n)) (top (t n))
    go (inr l) ih = rw (bit-low (set_of t (suc n)) s n l, low (cond (t n) 1 0) n (set-lt t n)) (ih l)

-- a number has no bit beyond it
pub none_above : (x s : ℕ) → x < 2 ^ s → in_set x s ≡ false
unfolding in_set
none_above x s h = rw (div-eq_of_lt h)

pub has_above : (t : ℕ → Bool) (n s : ℕ) → n ≤ s → in_set (set_of t n) s ≡ false
has_above t n s h = none_above (set_of t n) s (lt_of_lt_of_le (set-lt t n) (pow_mono h))

pub none-empty : (s : ℕ) → in_set 0 s ≡ false
none-empty s = none_above 0 s (pow_pos s)

in-bit : (x n : ℕ) → ◌≡◌ {A = ℕ} (cond (in_set x n) 1 0) (cond (eqb (x / 2 ^ n % 2) 1) 1 0)
unfolding in_set
in-bit x n = refl

in-low : (x s n : ℕ) → s < n → in_set x s ≡ in_set (x % 2 ^ n) s
unfolding in_set
in-low x s n l = ap (λ (d : ℕ). eqb d 1) (bit-low x s n l)

-- two tests that agree below n have the same set
pub set_same : (t u : ℕ → Bool) (n : ℕ) → ((s : ℕ) → s < n → t s ≡ u s) → set_of t n ≡ set_of u n
set_same t u zero h = refl
set_same t u (suc n) h = rw (h n (omega arith), set_same t u n (λ s l. h s (omega arith)))

-- a number is the set of its bits
pub set-of-bits : (n x : ℕ) → x < 2 ^ n → set_of (in_set x) n ≡ x
set-of-bits zero x h = omega arith
set-of-bits (suc n) x h =
    ap₂ (λ (a b : ℕ). a * 2 ^ n + b) bit (set_same (in_set x) (in_set (x % 2 ^ n)) n low_bit ∙ set-of-bits n (x % 2 ^ n) (mod-lt x (pow_pos n)))
    ∙ div-add-mod' x (2 ^ n)
  where
    top : x / 2 ^ n < 2
    top = (div-lt_iff_lt-mul (pow_pos n)).1 (omega (arith, h))

    digit : (q : ℕ) → q < 2 → ◌≡◌ {A = ℕ} (cond (eqb (q % 2) 1) 1 0) q
    digit zero l = refl
    digit (suc zero) l = refl
    digit (suc (suc q)) l = let z : ⊥ = omega arith in absurd z

    bit : ◌≡◌ {A = ℕ} (cond (in_set x n) 1 0) (x / 2 ^ n)
    bit = in-bit x n ∙ digit (x / 2 ^ n) top

    low_bit : (s : ℕ) → s < n → in_set x s ≡ in_set (x % 2 ^ n) s
    low_bit s l = in-low x s n l

-- ---- a set filled one number after the other, by machine words of 32 bits

-- the machine's `1 << s`
pub shl_one : (s : ℕ) → s < 32 → 1 * 2 ^ s % 4294967296 ≡ 2 ^ s
shl_one s h = shl_exact 1 s 32 (omega arith) (omega arith) ∙ one-mul (2 ^ s)

pub set-in : (t : ℕ → Bool) (s : ℕ) → s < 32 → t s ≡ true → set_of t s + 1 * 2 ^ s % 4294967296 ≡ set_of t (s + 1)
set-in t s h e = rw (add-one, e, shl_one s h, one-mul) (add_comm (set_of t s) (2 ^ s))

pub set_out : (t : ℕ → Bool) (s : ℕ) → t s ≡ false → set_of t s ≡ set_of t (s + 1)
set_out t s e = rw (add-one, e, zero-mul, zero-add)

pub set_room : (t : ℕ → Bool) (s : ℕ) → s < 32 → set_of t s + 2 ^ s < 2 ^ 32
set_room t s h = omega (arith, set-lt t s, pow-suc 2 s, pow_mono {i = suc s} {j = 32} h)

-- a turn: the set with s in it, and without, by the answer r
pub turn_in : (t : ℕ → Bool) (s set next : ℕ) (r : Bool) → s < 32 → set ≡ set_of t s → r ≡ t s → r ≡ true
    → next ≡ set + 1 * 2 ^ s % 4294967296 → next ≡ set_of t (s + 1)
turn_in t s set next r h i e y n = n ∙ ap (λ (x : ℕ). x + 1 * 2 ^ s % 4294967296) i ∙ set-in t s h (sym e ∙ y)

pub turn-out : (t : ℕ → Bool) (s set next : ℕ) (r : Bool) → set ≡ set_of t s → r ≡ t s → r ≡ false → next ≡ set → next ≡ set_of t (s + 1)
turn-out t s set next r i e y n = n ∙ i ∙ set_out t s (sym e ∙ y)
