-- The records of a real chunk keep the ranges of document 01: prefix and suffix in reach, offsets rising, and each keyword inside the
-- chunk. The offsets are the numbers of a range that pass a test, so they rise. Assumes nothing.
use mathlib.Core.Path.{◌≡◌, refl, sym, ◌∙◌}
use mathlib.Core.Logic.{◌⊎◌, inl, inr, ⊎_elim}
use mathlib.Core.Bool.{Bool, true, false, ◌&&◌, cond, false≢true}
use mathlib.Core.List.{List, [], ◌∷◌, ◌++◌, map}
use Prim.Native.Nat.{ℕ, zero, suc, ◌+◌, ◌-◌, ◌*◌, ◌%◌, ◌^◌, ◌≤◌, ◌<◌}
use native.Mathlib.Nat.{zero-lt-suc}
use native.Mathlib.Omega.{arith}
use borrow.Author.Tests.{lt-ltb}
use lib.Dec.{eqb, leb, ltb}
use lib.ListN.{length, get_or, drop, length-drop}
use Rattle.spec.specs.Bytes.{occurs_at, keep, rising, every, set_of}
use Rattle.spec.specs.Form.{Form}
use Rattle.spec.specs.Records.{reach, ends_with, starts_with, prefix_of, suffix_of, offsets_of, lies_at, inner_of, record_of, in_range, set_in_range, all_in_range}
use Rattle.spec.proofs.Tests.{leb-true, le-or-lt, bool_cases}
use Rattle.spec.proofs.Largest.{largest-le}
use Rattle.spec.proofs.Begins.{begins-short}
use Rattle.spec.proofs.Each.{passing}
use Rattle.spec.proofs.RecordLaws.{and_intro}
use Rattle.spec.proofs.Sets.{set-lt}

-- ---- the numbers of a range that pass a test

rising-cons : (x : ℕ) (xs : List ℕ) → (0 < length xs → x < get_or xs 0 0) → rising xs ≡ true → rising (x ∷ xs) ≡ true
rising-cons x [] h e = refl
rising-cons x (y ∷ xs) h e = let l : x < y = h (zero-lt-suc _) in rw (lt-ltb x y l) e

module _ (t : ℕ → Bool) where
  pub passing-from : (a n : ℕ) → 0 < length (passing t a n) → a ≤ get_or (passing t a n) 0 0
  passing-from a zero h = let z : ⊥ = omega arith in absurd z
  passing-from a (suc n) h = go (t a) (passing-from (suc a) n) h
    where
      go : (b : Bool) → (0 < length (passing t (suc a) n) → suc a ≤ get_or (passing t (suc a) n) 0 0) → 0 < length (keep b a ++ passing t (suc a) n)
          → a ≤ get_or (keep b a ++ passing t (suc a) n) 0 0
      go true ih h = omega arith
      go false ih h = omega (arith, ih h)

  pub passing-rises : (a n : ℕ) → rising (passing t a n) ≡ true
  passing-rises a zero = refl
  passing-rises a (suc n) = go (t a) (passing-rises (suc a) n)
    where
      go : (b : Bool) → rising (passing t (suc a) n) ≡ true → rising (keep b a ++ passing t (suc a) n) ≡ true
      go true ih = rising-cons a (passing t (suc a) n) (passing-from (suc a) n) ih
      go false ih = ih

  -- what holds wherever the test does
  pub passing-every : (p : ℕ → Bool) (a n : ℕ) → ((x : ℕ) → a ≤ x → x < a + n → t x ≡ true → p x ≡ true) → every p (passing t a n) ≡ true
  passing-every p a zero h = refl
  passing-every p a (suc n) h = go (t a) (λ e. h a (omega arith) (omega arith) e) (passing-every p (suc a) n (λ x l m. h x (omega arith) (omega arith)))
    where
      go : (b : Bool) → (b ≡ true → p a ≡ true) → every p (passing t (suc a) n) ≡ true → every p (keep b a ++ passing t (suc a) n) ≡ true
      go true e ih = and_intro (p a) (every p (passing t (suc a) n)) (e refl) ih
      go false e ih = ih

-- ---- records

-- an occurrence lies within the text
pub occurs-within : (keyword text : List ℕ) (at : ℕ) → at ≤ length text → occurs_at keyword text at ≡ true → at + length keyword ≤ length text
occurs-within keyword text at h e =
    ⊎_elim (λ l. l)
    (λ (m : length text < at + length keyword). absurd (false≢true (sym (begins-short keyword (drop at text) (rw length-drop (omega arith))) ∙ e)))
    (le-or-lt (at + length keyword) (length text))

pub record-in-range : (f : Form) (keyword chunk : List ℕ) → in_range (length keyword) (length chunk) (record_of f keyword chunk) ≡ true
unfolding in_range record_of prefix_of suffix_of offsets_of
record-in-range f keyword chunk =
    rw (
      leb-true _ _ (largest-le (ends_with keyword chunk) (reach (length keyword) (length chunk))),
      leb-true _ _ (largest-le (starts_with keyword chunk) (reach (length keyword) (length chunk))),
      passing-rises (occurs_at keyword chunk) 0 (length chunk),
    )
    (passing-every (occurs_at keyword chunk) (λ at. leb (at + length keyword) (length chunk)) 0 (length chunk)
    (λ x l m e. leb-true (x + length keyword) (length chunk) (occurs-within keyword chunk x (omega arith) e)))

-- a set of numbers above 0 is even
even-set : (t : ℕ → Bool) (n : ℕ) → set_of (λ p. leb 1 p && t p) n % 2 ≡ 0
even-set t zero = refl
even-set t (suc zero) = refl
even-set t (suc (suc n)) = go (leb 1 (suc n) && t (suc n)) (even-set t (suc n))
  where
    rest : ℕ
    rest = set_of (λ p. leb 1 p && t p) (suc n)

    go : (b : Bool) → rest % 2 ≡ 0 → (cond b 1 0 * 2 ^ suc n + rest) % 2 ≡ 0
    go true e = omega arith
    go false e = omega arith

pub set-in-range : (f : Form) (keyword chunk : List ℕ) → set_in_range f (length keyword) (length chunk) (record_of f keyword chunk).inner ≡ true
unfolding record_of set_in_range inner_of
set-in-range f keyword chunk = go (bool_cases f.sets)
  where
    n : ℕ
    n = length keyword - length chunk

    set : ℕ
    set = set_of (λ p. leb 1 p && lies_at keyword chunk p) n

    go : (f.sets ≡ true) ⊎ (f.sets ≡ false) → (ltb (cond f.sets set 0) (cond f.sets (2 ^ n) 1) && eqb (cond f.sets set 0 % 2) 0) ≡ true
    go (inl q) = rw (q, lt-ltb set (2 ^ n) (set-lt (λ p. leb 1 p && lies_at keyword chunk p) n), even-set (lies_at keyword chunk) n)
    go (inr q) = rw q

pub records-in-range : (f : Form) (keywords : List (List ℕ)) (chunk : List ℕ)
    → all_in_range f (length chunk) (map length keywords) (map (λ keyword. record_of f keyword chunk) keywords) ≡ true
unfolding all_in_range
records-in-range f [] chunk = refl
records-in-range f (keyword ∷ keywords) chunk = rw (record-in-range f keyword chunk, set-in-range f keyword chunk, records-in-range f keywords chunk)
