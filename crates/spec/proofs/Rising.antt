-- Laws of rising lists of numbers, and that the numbers of a range that are in one are the list. Assumes nothing.
use mathlib.Core.Path.{◌≡◌, refl, ap, ◌∙◌, subst}
use mathlib.Core.Logic.{◌⊎◌, inl, inr}
use mathlib.Core.Bool.{Bool, true, false, ◌&&◌, or-true}
use mathlib.Core.List.{List, [], ◌∷◌}
use Prim.Native.Nat.{ℕ, zero, suc, ◌+◌, ◌-◌, ◌≤◌, ◌<◌}
use native.Mathlib.Nat.{eq-or-lt_of_le, zero-lt-suc, not-suc-le-zero, le_of_suc-le-suc}
use native.Mathlib.Omega.{arith}
use lib.ListN.{length, get_or}
use lib.Dec.{leb, ltb, ltb→lt}
use Rattle.spec.specs.Bytes.{every, member, rising}
use Rattle.spec.proofs.Tests.{leb-true, eqb-ne, eqb_same, T_of, and_left, and_right, le-of-and}
use Rattle.spec.proofs.Each.{each-match, each_none, passing}

pub rising-tail : (x : ℕ) (xs : List ℕ) → rising (x ∷ xs) ≡ true → rising xs ≡ true
rising-tail x [] e = refl
rising-tail x (y ∷ xs) e = and_right (ltb x y) (rising (y ∷ xs)) e

-- below the head of a rising list
pub member-head : (p : ℕ) (xs : List ℕ) → rising xs ≡ true → (0 < length xs → p < get_or xs 0 0) → member p xs ≡ false
member-head p [] e h = refl
member-head p (x ∷ []) e h = let l : p < x = h (zero-lt-suc 0) in rw (eqb-ne p x (omega arith))
member-head p (x ∷ y ∷ xs) e h =
    let l : p < x = h (zero-lt-suc _) in
    let m : x < y = ltb→lt x y (T_of (ltb x y) (and_left (ltb x y) (rising (y ∷ xs)) e)) in
    rw (eqb-ne p x (omega arith)) (member-head p (y ∷ xs) (rising-tail x (y ∷ xs) e) (λ _. omega arith))

-- an element is a member
pub member-get : (i : ℕ) (xs : List ℕ) → i < length xs → member (get_or xs i 0) xs ≡ true
member-get i [] h = absurd (not-suc-le-zero h)
member-get zero (x ∷ xs) h = rw eqb_same
member-get (suc i) (x ∷ xs) h = rw (member-get i xs (le_of_suc-le-suc h), or-true)

abbrev pub all_below : ℕ → List ℕ → Bool
all_below n [] = true
all_below n (x ∷ xs) = ltb x n && all_below n xs

rising-head : (x y : ℕ) (xs : List ℕ) → rising (x ∷ y ∷ xs) ≡ true → x < y
rising-head x y xs e = ltb→lt x y (T_of (ltb x y) (and_left (ltb x y) (rising (y ∷ xs)) e))

pub rising-next : (x : ℕ) (xs : List ℕ) → rising (x ∷ xs) ≡ true → 0 < length xs → x < get_or xs 0 0
rising-next x [] e l = let z : ⊥ = omega arith in absurd z
rising-next x (y ∷ xs) e l = rising-head x y xs e

-- offsets that leave room for a keyword of n bytes stay below a shorter prefix at the end
pub below-prefix : (n size i : ℕ) (xs : List ℕ) → i < n → every (λ at. leb (at + n) size) xs ≡ true → all_below (size - i) xs ≡ true
below-prefix n size i [] h e = refl
below-prefix n size i (x ∷ xs) h e =
    let l : x + n ≤ size = le-of-and (x + n) size (every (λ at. leb (at + n) size) xs) e in
    rw (leb-true (suc x) (size - i) (omega arith)) (below-prefix n size i xs h (and_right (leb (x + n) size) (every (λ at. leb (at + n) size) xs) e))

-- the numbers of a range that are in a rising list: the list
pub passing-member : (n a : ℕ) (xs : List ℕ) → rising xs ≡ true → all_below (a + n) xs ≡ true → (0 < length xs → a ≤ get_or xs 0 0)
    → passing (λ at. member at xs) a n ≡ xs
passing-member zero a [] r b h = refl
passing-member zero a (x ∷ xs) r b h =
    let l : a ≤ x = h (zero-lt-suc _) in
    let m : x < a + 0 = le-of-and (suc x) (a + 0) (all_below (a + 0) xs) b in
    let z : ⊥ = omega arith in absurd z
passing-member (suc n) a [] r b h = each_none _ a (suc n) (λ p l m. refl)
passing-member (suc n) a (x ∷ xs) r b h =
    go (eq-or-lt_of_le (h (zero-lt-suc _)))
    (λ e. passing-member n (suc a) xs (rising-tail x xs r) (rw (← sum) (and_right (ltb x (a + suc n)) (all_below (a + suc n) xs) b)) (λ l. omega (arith, rising-next x xs r l)))
    (λ l. passing-member n (suc a) (x ∷ xs) r (subst (λ (t : ℕ). all_below t (x ∷ xs) ≡ true) sum b) (λ _. l))
  where
    sum : a + suc n ≡ suc a + n
    sum = omega arith

    go : (a ≡ x) ⊎ (a < x) → (a ≡ x → passing (λ at. member at xs) (suc a) n ≡ xs) → (a < x → passing (λ at. member at (x ∷ xs)) (suc a) n ≡ x ∷ xs)
        → passing (λ at. member at (x ∷ xs)) a (suc n) ≡ x ∷ xs
    go (inl e) same more =
        rw (e, eqb_same x)
        (ap {B = List ℕ} (λ l. x ∷ l) (each-match _ _ (suc x) (suc x) n (λ p l. rw (eqb-ne (suc x + p) x (omega arith))) ∙ (rw e at (same e))))
    go (inr l) same more = rw (member-head a (x ∷ xs) r (λ _. l)) (more l)
