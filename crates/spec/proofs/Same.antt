-- Laws of `same`, the test that two lists of bytes are equal. Assumes nothing.
use mathlib.Core.Path.{◌≡◌, refl, sym, ap, ap₂}
use mathlib.Core.Logic.{⊎_elim}
use mathlib.Core.Bool.{true, false, ◌&&◌}
use mathlib.Core.List.{List, [], ◌∷◌}
use Prim.Native.Nat.{ℕ, ◌+◌, ◌<◌, ◌≤◌}
use native.Mathlib.Numerals.{add-one}
use lib.Dec.{eqb, eqb→eq}
use lib.ListN.{length, get_or, drop, drop_of_length-le}
use lib.Seq.{drop-cons}
use Rattle.spec.specs.Bytes.{same}
use Rattle.spec.proofs.Tests.{T_of, and_left, and_right, eqb_same, bool_cases}

pub same-eq : (xs ys : List ℕ) → same xs ys ≡ true → xs ≡ ys
same-eq [] [] e = refl
same-eq [] (y ∷ ys) e = cc
same-eq (x ∷ xs) [] e = cc
same-eq (x ∷ xs) (y ∷ ys) e =
    ap₂ {C = List ℕ} (λ a as'. a ∷ as') (eqb→eq x y (T_of (eqb x y) (and_left (eqb x y) (same xs ys) e)))
    (same-eq xs ys (and_right (eqb x y) (same xs ys) e))

pub same_refl : (xs : List ℕ) → same xs xs ≡ true
same_refl [] = refl
same_refl (x ∷ xs) = rw (eqb_same x, same_refl xs)

pub same_of : (xs ys : List ℕ) → xs ≡ ys → same xs ys ≡ true
same_of xs ys e = rw (← e) (same_refl xs)

-- lists that are not equal
pub same_not : (xs ys : List ℕ) → (xs ≡ ys → ⊥) → same xs ys ≡ false
same_not xs ys n = ⊎_elim (λ t. absurd (n (same-eq xs ys t))) (λ f. f) (bool_cases (same xs ys))

-- lists of other lengths are not the same
pub same-lengths : (xs ys : List ℕ) → (length xs ≡ length ys → ⊥) → false ≡ same xs ys
same-lengths xs ys n = sym (same_not xs ys (λ e. n (ap length e)))

-- one byte of a comparison
pub same_turn : (xs ys : List ℕ) (i : ℕ) → i < length xs → i < length ys
    → same (drop i xs) (drop i ys) ≡ (eqb (get_or xs i 0) (get_or ys i 0) && same (drop (i + 1) xs) (drop (i + 1) ys))
same_turn xs ys i h l = rw (add-one, drop-cons xs i 0 h, drop-cons ys i 0 l)

pub same_end : (xs ys : List ℕ) (i : ℕ) → length xs ≤ i → length ys ≤ i → true ≡ same (drop i xs) (drop i ys)
same_end xs ys i h l = rw (drop_of_length-le xs h, drop_of_length-le ys l)
