-- Laws of directories: the keys of fixed-size entries, the position of a key, and what the entry-by-entry check of a directory says. Assumes nothing.
-- Every law is one induction along its definition; the check's laws are one step of it, and the record that all its steps give.
use mathlib.Core.Path.{◌≡◌, refl, sym, ap, ◌∙◌, subst}
use mathlib.Core.Logic.{◌⊎◌, inl, inr, ⊎_elim}
use mathlib.Core.Bool.{true, false, or-true, true≢false}
use mathlib.Core.List.{List, [], ◌∷◌}
use Prim.Native.Nat.{ℕ, zero, suc, ◌+◌, ◌*◌, ◌-◌, ◌≤◌, ◌<◌}
use native.Mathlib.Nat.{eq-or-lt_of_le, suc-add, add-suc, sub-zero, mul-zero, mul-suc, add_assoc, add-zero}
use native.Mathlib.Omega.{arith}
use borrow.Author.Tests.{eq-eqb, ne_eqb, eqb-true, eqb-false, lt-ltb, le-ltb}
use lib.Dec.{eqb, ltb}
use lib.ListN.{length, get_or, take, drop, length-take, length-drop}
use lib.Seq.{drop-drop}
use Rattle.spec.specs.Bytes.{part, same, contains, twice, position_of, each, sum}
use Rattle.spec.specs.Directory.{Layout, keys_of, keys_in, directory_end, size_at, offset_at, length_at, entries_code}
use Rattle.spec.proofs.Tests.{bool_cases, le-or-lt, ltb-suc}
use Rattle.spec.proofs.Codes.{last-whole, or_left, or_right}
use Rattle.spec.proofs.Same.{same-eq, same_refl, same_not}

-- what holds of the first of a range, and of those after it
pub range_cons : (P : ℕ → Type 0) (k n : ℕ) → P k → ((e : ℕ) → suc k ≤ e → e < suc k + n → P e) → (e : ℕ) → k ≤ e → e < k + suc n → P e
range_cons P k n p h e l m = go (eq-or-lt_of_le l)
  where
    go : (k ≡ e) ⊎ (k < e) → P e
    go (inl q) = subst P q p
    go (inr q) = h e q (omega arith)

-- ---- keys

pub length-keys : (stride n : ℕ) (bytes : List ℕ) → length (keys_of stride n bytes) ≡ n
length-keys stride zero bytes = refl
length-keys stride (suc n) bytes = ap suc (length-keys stride n (drop stride bytes))

pub drop-keys : (stride n k : ℕ) (bytes : List ℕ) → k ≤ n → drop k (keys_of stride n bytes) ≡ keys_of stride (n - k) (drop (stride * k) bytes)
drop-keys stride n zero bytes h = rw (mul-zero, sub-zero)
drop-keys stride zero (suc k) bytes h = let z : ⊥ = omega arith in absurd z
drop-keys stride (suc n) (suc k) bytes h =
    drop-keys stride n k (drop stride bytes) (omega arith)
    ∙ rw drop-drop (let d : suc n - suc k ≡ n - k = omega arith in let e : stride + stride * k ≡ stride * suc k = omega (arith, mul-suc stride k) in rw (d, e))

pub key-at : (stride n k : ℕ) (bytes : List ℕ) → k < n → get_or (keys_of stride n bytes) k [] ≡ take 20 (drop (stride * k) bytes)
key-at stride zero k bytes h = let z : ⊥ = omega arith in absurd z
key-at stride (suc n) zero bytes h = rw mul-zero
key-at stride (suc n) (suc k) bytes h =
    key-at stride n k (drop stride bytes) (omega arith)
    ∙ rw drop-drop (let e : stride + stride * k ≡ stride * suc k = omega (arith, mul-suc stride k) in ap (λ (m : ℕ). take 20 (drop m bytes)) e)

-- the keys of a directory
module _ (layout : Layout) (bytes : List ℕ) where
  pub length-keys_in : (c : ℕ) → length (keys_in layout bytes c) ≡ c
  length-keys_in c = length-keys layout.stride c (drop layout.start bytes)

  pub key_in-at : (c k : ℕ) → k < c → get_or (keys_in layout bytes c) k [] ≡ part bytes (directory_end layout k) 20
  key_in-at c k h = key-at layout.stride c k (drop layout.start bytes) h ∙ rw drop-drop

  -- a key that lies within the bytes has 20 of them
  pub key_in-length : (c k : ℕ) → k < c → directory_end layout k + 20 ≤ length bytes → length (get_or (keys_in layout bytes c) k []) ≡ 20
  key_in-length c k h l = ap length (key_in-at c k h) ∙ simp (length-take, length-drop) (omega arith)

-- ---- the position of a key

pub position-le : (key : List ℕ) (keys : List (List ℕ)) → position_of key keys ≤ length keys
position-le key [] = omega arith
position-le key (x ∷ keys) = ⊎_elim (λ t. rw t (omega arith)) (λ f. rw f (let l = position-le key keys in omega arith)) (bool_cases (same key x))

-- a key is in the list exactly when its position is
pub contains-position : (key : List ℕ) (keys : List (List ℕ)) → contains key keys ≡ ltb (position_of key keys) (length keys)
contains-position key [] = refl
contains-position key (x ∷ keys) = ⊎_elim (λ t. rw t (sym (lt-ltb 0 (suc (length keys)) (omega arith)))) (λ f. rw f (contains-position key keys ∙ sym (ltb-suc (position_of key keys) (length keys)))) (bool_cases (same key x))

pub position-of : (key : List ℕ) (keys : List (List ℕ)) → position_of key keys < length keys → get_or keys (position_of key keys) [] ≡ key
position-of key [] h = let z : ⊥ = omega arith in absurd z
position-of key (x ∷ keys) h =
    ⊎_elim (λ t. rw t (sym (same-eq key x t)))
    (λ f. rw f (position-of key keys (let l : suc (position_of key keys) < suc (length keys) = rw f at h in omega arith)))
    (bool_cases (same key x))

-- no element before a key's position is the key
pub position_first : (key : List ℕ) (keys : List (List ℕ)) (j : ℕ) → j < position_of key keys → same key (get_or keys j []) ≡ false
position_first key [] j h = let z : ⊥ = omega arith in absurd z
position_first key (x ∷ keys) zero h =
    ⊎_elim (λ t. let l : 0 < 0 = rw t at h in absurd (omega arith)) (λ f. f) (bool_cases (same key x))
position_first key (x ∷ keys) (suc j) h =
    ⊎_elim (λ t. let l : suc j < 0 = rw t at h in absurd (omega arith))
    (λ f. position_first key keys j (let l : suc j < suc (position_of key keys) = rw f at h in omega arith))
    (bool_cases (same key x))

-- an element is in the list
pub contains-at : (keys : List (List ℕ)) (k : ℕ) → k < length keys → contains (get_or keys k []) keys ≡ true
contains-at [] k h = let z : ⊥ = omega arith in absurd z
contains-at (x ∷ keys) zero h = rw same_refl
contains-at (x ∷ keys) (suc k) h = rw (contains-at keys k (omega arith)) (or-true (same (get_or keys k []) x))

-- where no two elements are the same, every element stands at its own position
pub position_at : (keys : List (List ℕ)) (k : ℕ) → twice keys ≡ false → k < length keys → position_of (get_or keys k []) keys ≡ k
position_at [] k t h = let z : ⊥ = omega arith in absurd z
position_at (x ∷ keys) zero t h = rw same_refl
position_at (x ∷ keys) (suc k) t h =
    let differ : same (get_or keys k []) x ≡ false =
    same_not (get_or keys k []) x (λ e. absurd (true≢false (sym (ap (λ (y : List ℕ). contains y keys) (sym e) ∙ contains-at keys k (omega arith)) ∙ or_left (contains x keys) (twice keys) t))) in
    rw differ (ap suc (position_at keys k (or_right (contains x keys) (twice keys) t) (omega arith)))

-- ---- the check of a directory, entry by entry

module _ (layout : Layout) (bytes : List ℕ) (most code : ℕ) where
  -- a good entry hands on to the next
  pub entries-more : (n k at : ℕ) → 1 ≤ size_at layout bytes k → size_at layout bytes k ≤ most → offset_at layout bytes k ≡ at
      → entries_code layout bytes most code (suc n) k at ≡ entries_code layout bytes most code n (suc k) (at + length_at layout bytes k)
  entries-more n k at a b e =
      rw (ne_eqb (size_at layout bytes k) 0 (λ z. omega arith), le-ltb most (size_at layout bytes k) b, eq-eqb (offset_at layout bytes k) at e)
      (last-whole (entries_code layout bytes most code n (suc k) (at + length_at layout bytes k)))

  -- the wrong ones
  pub entries_none : (n k at : ℕ) → size_at layout bytes k ≡ 0 → entries_code layout bytes most code (suc n) k at ≡ code
  entries_none n k at e = rw (eq-eqb (size_at layout bytes k) 0 e)

  pub entries-long : (n k at : ℕ) → most < size_at layout bytes k → entries_code layout bytes most code (suc n) k at ≡ code
  entries-long n k at h = rw (lt-ltb most (size_at layout bytes k) h, or-true)

  pub entries-gap : (n k at : ℕ) → 1 ≤ size_at layout bytes k → size_at layout bytes k ≤ most → (offset_at layout bytes k ≡ at → ⊥)
      → entries_code layout bytes most code (suc n) k at ≡ code
  entries-gap n k at a b d =
      rw (ne_eqb (size_at layout bytes k) 0 (λ z. omega arith), le-ltb most (size_at layout bytes k) b, ne_eqb (offset_at layout bytes k) at d)

  -- the end
  pub entries-end : (k at : ℕ) → at ≡ length bytes → entries_code layout bytes most code 0 k at ≡ 0
  entries-end k at e = rw (eq-eqb at (length bytes) e)

  pub entries-short : (k at : ℕ) → (at ≡ length bytes → ⊥) → entries_code layout bytes most code 0 k at ≡ code
  entries-short k at d = rw (ne_eqb at (length bytes) d)

  -- what a check that found nothing says of its first entry, and that it goes on
  pub entries-step : (n k at : ℕ) → 0 < code → entries_code layout bytes most code (suc n) k at ≡ 0
      → (1 ≤ size_at layout bytes k) × (size_at layout bytes k ≤ most) × (offset_at layout bytes k ≡ at)
      × (entries_code layout bytes most code n (suc k) (at + length_at layout bytes k) ≡ 0)
  entries-step n k at p e = (low, high, place, sym (entries-more n k at low high place) ∙ e)
    where
      low : 1 ≤ size_at layout bytes k
      low = ⊎_elim (λ h. h) (λ h. let z : code ≡ 0 = sym (entries_none n k at (omega arith)) ∙ e in absurd (omega arith)) (le-or-lt 1 (size_at layout bytes k))

      high : size_at layout bytes k ≤ most
      high = ⊎_elim (λ h. h) (λ h. let z : code ≡ 0 = sym (entries-long n k at h) ∙ e in absurd (omega arith)) (le-or-lt (size_at layout bytes k) most)

      place : offset_at layout bytes k ≡ at
      place =
          ⊎_elim (λ t. eqb-true (offset_at layout bytes k) at t)
          (λ f. let z : code ≡ 0 = sym (entries-gap n k at low high (eqb-false (offset_at layout bytes k) at f)) ∙ e in absurd (omega arith))
          (bool_cases (eqb (offset_at layout bytes k) at))

  pub entries-last : (k at : ℕ) → 0 < code → entries_code layout bytes most code 0 k at ≡ 0 → at ≡ length bytes
  entries-last k at p e =
      ⊎_elim (λ t. eqb-true at (length bytes) t)
      (λ f. let z : code ≡ 0 = sym (entries-short k at (eqb-false at (length bytes) f)) ∙ e in absurd (omega arith))
      (bool_cases (eqb at (length bytes)))

-- the lengths that n entries from k on say
abbrev pub lengths_from : Layout → List ℕ → ℕ → ℕ → List ℕ
lengths_from layout bytes k n = each (λ e. length_at layout bytes e ∷ []) k n

-- n entries from k on are good, what they point to lies gapless from `at` on, and the last ends the bytes
pub record Entries (layout : Layout) (bytes : List ℕ) (most n k at : ℕ) : Type 0 where
  pub sized : (e : ℕ) → k ≤ e → e < k + n → (1 ≤ size_at layout bytes e) × (size_at layout bytes e ≤ most)
  pub within : (e : ℕ) → k ≤ e → e < k + n → (at ≤ offset_at layout bytes e) × (offset_at layout bytes e + length_at layout bytes e ≤ length bytes)
  pub first : 0 < n → offset_at layout bytes k ≡ at
  pub next : (e : ℕ) → k ≤ e → suc e < k + n → offset_at layout bytes (suc e) ≡ offset_at layout bytes e + length_at layout bytes e
  pub sums : (i : ℕ) → i < n → offset_at layout bytes (k + i) ≡ at + sum (lengths_from layout bytes k i)
  pub ends : at + sum (lengths_from layout bytes k n) ≡ length bytes

-- one more entry in front
entries-cons : (layout : Layout) (bytes : List ℕ) (most n k at : ℕ)
    → 1 ≤ size_at layout bytes k → size_at layout bytes k ≤ most → offset_at layout bytes k ≡ at
    → Entries layout bytes most n (suc k) (at + length_at layout bytes k) → Entries layout bytes most (suc n) k at
entries-cons layout bytes most n k at a b o r = record {
  sized = range_cons (λ e. (1 ≤ size_at layout bytes e) × (size_at layout bytes e ≤ most)) k n (a, b) r.sized;
  within = range_cons (λ e. (at ≤ offset_at layout bytes e) × (offset_at layout bytes e + length_at layout bytes e ≤ length bytes)) k n
      (omega arith, let s = r.ends in omega arith)
      (λ e l h. let w = r.within e l h in (omega arith, w.1));
  first = λ h. o;
  next = λ e l h. range_cons (λ e. suc e < k + suc n → offset_at layout bytes (suc e) ≡ offset_at layout bytes e + length_at layout bytes e) k n
      (λ m. r.first (omega arith) ∙ rw o)
      (λ e l h m. r.next e l (omega arith)) e l (omega arith) h;
  sums = λ i h. sums i h;
  ends = sym (add_assoc at (length_at layout bytes k) (sum (lengths_from layout bytes (suc k) n))) ∙ r.ends;
}
  where
    sums : (i : ℕ) → i < suc n → offset_at layout bytes (k + i) ≡ at + sum (lengths_from layout bytes k i)
    sums zero h = rw (add-zero, add-zero) o
    sums (suc i) h = rw (add-suc, ← suc-add) (r.sums i (omega arith) ∙ add_assoc at (length_at layout bytes k) (sum (lengths_from layout bytes (suc k) i)))

module _ (layout : Layout) (bytes : List ℕ) (most code : ℕ) (p : 0 < code) where
  pub entries-good : (n k at : ℕ) → entries_code layout bytes most code n k at ≡ 0 → Entries layout bytes most n k at
  entries-good zero k at z = record {
    sized = λ e l h. absurd (omega arith);
    within = λ e l h. absurd (omega arith);
    first = λ h. absurd (omega arith);
    next = λ e l h. absurd (omega arith);
    sums = λ i h. absurd (omega arith);
    ends = add-zero at ∙ entries-last layout bytes most code k at p z;
  }
  entries-good (suc n) k at z =
      let s = entries-step layout bytes most code n k at p z in
      entries-cons layout bytes most n k at s.0 s.1 s.2 (entries-good n (suc k) (at + length_at layout bytes k) s.3)

-- the other way: entries of good sizes at the running sums pass, whatever the code
pub entries-pass : (layout : Layout) (bytes : List ℕ) (most code n k at : ℕ)
    → ((e : ℕ) → k ≤ e → e < k + n → (1 ≤ size_at layout bytes e) × (size_at layout bytes e ≤ most))
    → ((i : ℕ) → i < n → offset_at layout bytes (k + i) ≡ at + sum (lengths_from layout bytes k i))
    → at + sum (lengths_from layout bytes k n) ≡ length bytes
    → entries_code layout bytes most code n k at ≡ 0
entries-pass layout bytes most code zero k at z o e = entries-end layout bytes most code k at (sym (add-zero at) ∙ e)
entries-pass layout bytes most code (suc n) k at z o e =
    let here = z k (omega arith) (omega arith) in
    entries-more layout bytes most code n k at here.0 here.1 (rw (add-zero, add-zero) at (o 0 (omega arith)))
    ∙ entries-pass layout bytes most code n (suc k) (at + length_at layout bytes k)
    (λ e l h. z e (omega arith) (omega arith))
    (λ i h. rw (suc-add, ← add-suc) (o (suc i) (omega arith) ∙ sym (add_assoc at (length_at layout bytes k) (sum (lengths_from layout bytes (suc k) i)))))
    (add_assoc at (length_at layout bytes k) (sum (lengths_from layout bytes (suc k) n)) ∙ e)

-- past the end of the bytes no later end can be right
pub entries-past : (layout : Layout) (bytes : List ℕ) (most code n k at : ℕ) → length bytes < at → entries_code layout bytes most code n k at ≡ code
entries-past layout bytes most code zero k at h = entries-short layout bytes most code k at (λ e. omega arith)
entries-past layout bytes most code (suc n) k at h =
    ⊎_elim
    (λ low. ⊎_elim
    (λ high. ⊎_elim
    (λ t. entries-more layout bytes most code n k at low high (eqb-true (offset_at layout bytes k) at t)
    ∙ entries-past layout bytes most code n (suc k) (at + length_at layout bytes k) (omega arith))
    (λ f. entries-gap layout bytes most code n k at low high (eqb-false (offset_at layout bytes k) at f))
    (bool_cases (eqb (offset_at layout bytes k) at)))
    (λ long. entries-long layout bytes most code n k at long)
    (le-or-lt (size_at layout bytes k) most))
    (λ none. entries_none layout bytes most code n k at (omega arith))
    (le-or-lt 1 (size_at layout bytes k))
