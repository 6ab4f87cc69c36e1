-- Sets as machine words: which numbers the union of two has, and a word as the set of its members. Assumes nothing.
use mathlib.Core.Path.{◌≡◌, refl, sym, ap, ◌∙◌}
use mathlib.Core.Bool.{Bool, false, ◌||◌}
use mathlib.Core.List.{List}
use Prim.Native.Nat.{ℕ, zero, suc, ◌+◌, ◌/◌, ◌%◌, ◌^◌, ◌≤◌, ◌<◌}
use native.Mathlib.Nat.{mod-lt, lt_of_lt_of_le}
use native.Mathlib.Numerals.{add-one}
use native.Mathlib.Omega.{arith}
use lib.Bits.{bit_or, or_shr, or_mod}
use lib.Dec.{eqb}
use lib.Pow.{pow_mono}
use Rattle.spec.specs.Bytes.{set_of, in_set}
use Rattle.spec.proofs.Sets.{none_above, none-empty, set_same, set-of-bits}
use Rattle.tables.specs.Tabled.{cell_at}
use Rattle.spans.specs.Spans.{some_cell}

-- ---- union

or_digits : (x y : ℕ) → x < 2 → y < 2 → eqb (bit_or x y) 1 ≡ (eqb x 1 || eqb y 1)
or_digits zero zero h l = refl
or_digits zero (suc zero) h l = refl
or_digits (suc zero) zero h l = refl
or_digits (suc zero) (suc zero) h l = refl
or_digits (suc (suc x)) y h l = let z : ⊥ = omega arith in absurd z
or_digits zero (suc (suc y)) h l = let z : ⊥ = omega arith in absurd z
or_digits (suc zero) (suc (suc y)) h l = let z : ⊥ = omega arith in absurd z

pub in-or : (a b s : ℕ) → in_set (bit_or a b) s ≡ (in_set a s || in_set b s)
unfolding in_set
in-or a b s =
    ap (λ (x : ℕ). eqb (x % 2) 1) (or_shr a b s)
    ∙ ap (λ (x : ℕ). eqb x 1) (or_mod (a / 2 ^ s) (b / 2 ^ s) 1)
    ∙ or_digits (a / 2 ^ s % 2) (b / 2 ^ s % 2) (mod-lt (a / 2 ^ s) (omega arith)) (mod-lt (b / 2 ^ s) (omega arith))

-- ---- a word whose members pass a test

pub word-is : (t : ℕ → Bool) (x n : ℕ) → x < 2 ^ n → ((s : ℕ) → s < n → in_set x s ≡ t s) → x ≡ set_of t n
word-is t x n h e = sym (set-of-bits n x h) ∙ set_same (in_set x) t n e

pub beyond : (x s : ℕ) → x < 2 ^ 32 → 32 ≤ s → in_set x s ≡ false
beyond x s h l = none_above x s (lt_of_lt_of_le h (pow_mono {i = 32} {j = s} l))

-- ---- the cells of a row, one after the other

module _ (tables : List (List (List ℕ))) (k i : ℕ) where
  abbrev pub Joined : ℕ → ℕ → Type 0
  Joined set j = (s : ℕ) → in_set set s ≡ some_cell tables k i s j

  pub joined-none : Joined 0 0
  unfolding some_cell
  joined-none s = none-empty s

  pub joined-on : (set j next : ℕ) → Joined set j → next ≡ bit_or set (cell_at tables k i j) → Joined next (j + 1)
  unfolding some_cell
  joined-on set j next h e s = rw (e, add-one) (in-or set (cell_at tables k i j) s ∙ ap (λ (b : Bool). b || in_set (cell_at tables k i j) s) (h s))

  pub joined-all : (set j : ℕ) → set < 2 ^ 32 → j ≡ 32 → Joined set j → set ≡ set_of (λ s. some_cell tables k i s 32) 32
  joined-all set j l e h = word-is (λ s. some_cell tables k i s 32) set 32 l (λ s m. rw (← e) (h s))
