-- Laws of Bool tests on numbers: what a test says as an equation, and back. Assumes nothing.
use mathlib.Core.Path.{◌≡◌, refl, sym, subst}
use mathlib.Core.Logic.{◌≢◌, ◌⊎◌, inl, inr}
use mathlib.Core.Bool.{Bool, true, false, cond, ◌&&◌, false≢true}
use Prim.Native.Nat.{ℕ, suc, ◌≤◌, ◌<◌}
use native.Mathlib.Nat.{lt_of_not-le}
use native.Mathlib.Decide.{dec_le}
use native.Mathlib.Omega.{arith}
use lib.Dec.{T, leb, leb→le, le→leb, ltb, eqb, eqb→eq, eqb_refl}

pub le-or-lt : (a b : ℕ) → (a ≤ b) ⊎ (b < a)
le-or-lt a b = go (dec_le a b)
  where
    go : Dec (a ≤ b) → (a ≤ b) ⊎ (b < a)
    go (yes h) = inl h
    go (no h) = inr (lt_of_not-le h)

pub cond-elim {ℓ} : {A : Type ℓ} (P : A → Type 0) (b : Bool) (x y : A) → (b ≡ true → P x) → (b ≡ false → P y) → P (cond b x y)
cond-elim P true x y f g = f refl
cond-elim P false x y f g = g refl

pub false_of : (b : Bool) → (b ≡ true → ⊥) → b ≡ false
false_of true h = absurd (h refl)
false_of false h = refl

pub T_of : (b : Bool) → b ≡ true → T b
T_of b e = subst T (sym e) tt

pub of_T : (b : Bool) → T b → b ≡ true
of_T true t = refl
of_T false t = absurd t

pub leb-true : (m n : ℕ) → m ≤ n → leb m n ≡ true
leb-true m n h = of_T (leb m n) (le→leb m n h)

pub leb-false : (m n : ℕ) → n < m → leb m n ≡ false
leb-false m n h = false_of (leb m n) (λ e. let l : m ≤ n = leb→le m n (T_of (leb m n) e) in omega arith)

pub ltb-suc : (m n : ℕ) → ltb (suc m) (suc n) ≡ ltb m n
ltb-suc m n = go (le-or-lt n m)
  where
    go : (n ≤ m) ⊎ (m < n) → ltb (suc m) (suc n) ≡ ltb m n
    go (inl h) = rw (leb-false (suc m) n (omega arith), leb-false (suc (suc m)) (suc n) (omega arith))
    go (inr h) = rw (leb-true (suc m) n h, leb-true (suc (suc m)) (suc n) (omega arith))

pub eqb_same : (n : ℕ) → eqb n n ≡ true
eqb_same n = of_T (eqb n n) (eqb_refl n)

pub eqb-ne : (m n : ℕ) → m ≢ n → eqb m n ≡ false
eqb-ne m n h = false_of (eqb m n) (λ e. h (eqb→eq m n (T_of (eqb m n) e)))

pub and_left : (a b : Bool) → (a && b) ≡ true → a ≡ true
and_left true b e = refl
and_left false b e = e

pub and_right : (a b : Bool) → (a && b) ≡ true → b ≡ true
and_right true b e = e
and_right false b e = absurd (false≢true e)

pub le-of-and : (m n : ℕ) (b : Bool) → (leb m n && b) ≡ true → m ≤ n
le-of-and m n b e = leb→le m n (T_of (leb m n) (and_left (leb m n) b e))

-- a Bool is one of two
pub bool_cases : (b : Bool) → (b ≡ true) ⊎ (b ≡ false)
bool_cases true = inl refl
bool_cases false = inr refl
