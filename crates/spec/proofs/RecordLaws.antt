-- Match records and bodies: what is written reads back as the same, and a body has one written form. A record's head says its kind, so each
-- law goes by the three kinds of a full record and the tiny one; bodies follow by induction on the keywords. Assumes nothing.
use mathlib.Core.Path.{◌≡◌, refl, sym, ap, ◌∙◌}
use mathlib.Core.Logic.{◌⊎◌, inl, inr}
use mathlib.Core.Bool.{Bool, true, false, ◌&&◌, not, cond, and-true, and-false, false≢true}
use mathlib.Core.List.{List, [], ◌∷◌, ◌++◌, append_assoc}
use Prim.Native.Nat.{ℕ, zero, suc, ◌+◌, ◌-◌, ◌*◌, ◌/◌, ◌%◌, ◌^◌, ◌≤◌, ◌<◌, min}
use native.Mathlib.Nat.{add-mul-div_left, add-mul-mod_self_left, mod-eq_of_lt, div-eq_of_lt, zero-add, add-zero}
use native.Mathlib.Omega.{arith}
use lib.Dec.{eqb, leb, ltb, eqb→eq, leb→le, ltb→lt}
use lib.Pow.{pow_mono, pow_pos}
use lib.ListN.{length, drop, get_or, length-append}
use lib.Seq.{take_at, drop_at, drop-drop}
use Rattle.spec.specs.Bytes.{le_value, le_bytes, field_at, fields_bytes, same, begins, rising, every}
use Rattle.spec.specs.Form.{Form, form1, form2, form3}
use Rattle.spec.specs.Records.{MatchRecord, empty_record, is_empty, is_tiny, reach, in_range, kind_of, offsets_bytes, full_bytes, tiny_bytes, record_bytes}
use Rattle.spec.specs.Records.{body_from, body_bytes, read_offsets, read_record, record_size, read_from, read_body, all_in_range, good_body, head_bytes}
use Rattle.spec.specs.Records.{set_in_range, set_bytes, set_is_next, record_is_next, record_taken, set_taken, read_set, with_set, read_keyword, behind_keyword}
use Rattle.spec.proofs.Tests.{le-or-lt, T_of, and_left, and_right, leb-true, leb-false, eqb_same, eqb-ne, bool_cases, le-of-and}
use Rattle.spec.proofs.Same.{same-eq, same_refl}
use Rattle.spec.proofs.Fields.{length-le_bytes, le_value-le_bytes}
use Rattle.spec.proofs.FieldLists.{length-fields_bytes, fields_of-fields_bytes}

-- ---- tests

-- two tests that imply each other are the same
pub bool-ext : (a b : Bool) → (a ≡ true → b ≡ true) → (b ≡ true → a ≡ true) → a ≡ b
bool-ext true b f g = sym (f refl)
bool-ext false true f g = g refl
bool-ext false false f g = refl

pub and_intro : (a b : Bool) → a ≡ true → b ≡ true → (a && b) ≡ true
and_intro a b p q = rw (p, q)

pub eq_of : (m n : ℕ) → eqb m n ≡ true → m ≡ n
eq_of m n e = eqb→eq m n (T_of (eqb m n) e)

pub le_of : (m n : ℕ) → leb m n ≡ true → m ≤ n
le_of m n e = leb→le m n (T_of (leb m n) e)

pub not-false : (b : Bool) → not b ≡ true → b ≡ false
not-false true e = absurd (false≢true e)
not-false false e = refl

-- ---- forms

-- What the laws ask of a form: offsets and exact counts fit their fields, and the tiny byte can be taken apart.
pub record FormGood (f : Form) : Type 0 where
  pub fits : f.longest_chunk < 256 ^ f.width
  pub apart : (n : ℕ) → f.tiny_most n < f.tiny_step

pub form1-good : FormGood form1
form1-good = record { fits = omega arith; apart = λ n. omega arith }

pub form2-good : FormGood form2
form2-good = record { fits = omega arith; apart = λ n. omega arith }

pub form3-good : FormGood form3
form3-good = record { fits = omega arith; apart = λ n. omega arith }

-- ---- records in range

pub no-offsets : (offsets : List ℕ) → length offsets ≡ 0 → offsets ≡ []
no-offsets [] e = refl
no-offsets (x ∷ offsets) e = let z : ⊥ = omega arith in absurd z

pub empty-is : (r : MatchRecord) → is_empty r ≡ true → with_set r 0 ≡ empty_record
empty-is r e =
    let a = and_left (eqb r.prefix 0 && eqb r.suffix 0) (eqb (length r.offsets) 0) e in
    let p : r.prefix ≡ 0 = eq_of r.prefix 0 (and_left (eqb r.prefix 0) (eqb r.suffix 0) a) in
    let s : r.suffix ≡ 0 = eq_of r.suffix 0 (and_right (eqb r.prefix 0) (eqb r.suffix 0) a) in
    let o : r.offsets ≡ [] = no-offsets r.offsets (eq_of (length r.offsets) 0 (and_right (eqb r.prefix 0 && eqb r.suffix 0) (eqb (length r.offsets) 0) e)) in
    λ i. record { prefix = p i; suffix = s i; offsets = o i; inner = 0 }

-- the parts of a record in range
module _ (n size : ℕ) (r : MatchRecord) (e : in_range n size r ≡ true) where
  pub prefix-in : r.prefix ≤ reach n size
  unfolding in_range
  prefix-in = le_of r.prefix (reach n size) (and_left _ _ (and_left _ _ (and_left _ _ e)))

  pub suffix-in : r.suffix ≤ reach n size
  unfolding in_range
  suffix-in = le_of r.suffix (reach n size) (and_right (leb r.prefix (reach n size)) _ (and_left _ _ (and_left _ _ e)))

  pub offsets-rise : rising r.offsets ≡ true
  unfolding in_range
  offsets-rise = and_right (leb r.prefix (reach n size) && leb r.suffix (reach n size)) _ (and_left _ _ e)

  pub offsets-in : every (λ at. leb (at + n) size) r.offsets ≡ true
  unfolding in_range
  offsets-in = and_right (leb r.prefix (reach n size) && leb r.suffix (reach n size) && rising r.offsets) _ e

-- rising offsets that leave room for n bytes, each, are at most size + 1 - n many
pub offsets-many : (n size x : ℕ) (xs : List ℕ) → rising (x ∷ xs) ≡ true → every (λ at. leb (at + n) size) (x ∷ xs) ≡ true → x + length xs + n ≤ size
offsets-many n size x [] r e = rw add-zero (le-of-and (x + n) size true e)
offsets-many n size x (y ∷ xs) r e =
    let l : x < y = ltb→lt x y (T_of (ltb x y) (and_left (ltb x y) (rising (y ∷ xs)) r)) in
    let m : y + length xs + n ≤ size =
    offsets-many n size y xs (and_right (ltb x y) (rising (y ∷ xs)) r) (and_right (leb (x + n) size) (every (λ at. leb (at + n) size) (y ∷ xs)) e) in
    omega arith

pub offsets-count : (n size : ℕ) (xs : List ℕ) → 1 ≤ n → rising xs ≡ true → every (λ at. leb (at + n) size) xs ≡ true → length xs ≤ size
offsets-count n size [] h r e = omega arith
offsets-count n size (x ∷ xs) h r e = omega (arith, offsets-many n size x xs r e)

pub every-imp {ℓ} : {A : Type ℓ} (p q : A → Bool) (xs : List A) → ((x : A) → p x ≡ true → q x ≡ true) → every p xs ≡ true → every q xs ≡ true
every-imp p q [] f e = refl
every-imp p q (x ∷ xs) f e = and_intro (q x) (every q xs) (f x (and_left (p x) (every p xs) e)) (every-imp p q xs f (and_right (p x) (every p xs) e))

-- ---- a written record reads back

pub kinds : (count : ℕ) → (count ≤ 1) ⊎ ((1 < count × count ≤ 254) ⊎ (254 < count))
kinds count = go (le-or-lt count 1) (le-or-lt count 254)
  where
    go : (count ≤ 1) ⊎ (1 < count) → (count ≤ 254) ⊎ (254 < count) → (count ≤ 1) ⊎ ((1 < count × count ≤ 254) ⊎ (254 < count))
    go (inl h) _ = inl h
    go (inr l) (inl h) = inr (inl (l, h))
    go (inr l) (inr h) = inr (inr h)

-- kind 2 has the offsets alone; kind 3 the exact count, then the offsets
module _ (f : Form) (offsets : List ℕ) where
  pub offsets-one : length offsets ≤ 1 → offsets_bytes f offsets ≡ []
  unfolding offsets_bytes
  offsets-one h = rw (leb-true (length offsets) 1 h)

  pub offsets-two : 1 < length offsets → length offsets ≤ 254 → offsets_bytes f offsets ≡ fields_bytes f.width offsets
  unfolding offsets_bytes
  offsets-two l h = rw (leb-false (length offsets) 1 l, leb-true (length offsets) 254 h)

  pub offsets-three : 254 < length offsets → offsets_bytes f offsets ≡ le_bytes f.width (length offsets) ++ fields_bytes f.width offsets
  unfolding offsets_bytes
  offsets-three h = let l : 1 < length offsets = omega arith in rw (leb-false (length offsets) 1 l, leb-false (length offsets) 254 h)

-- a head with the fields behind it, and what reading finds there
module _ (f : Form) (k kind p s count : ℕ) where
  abbrev pub laid : List ℕ → List ℕ → List ℕ
  laid offsets rest = k ∷ kind ∷ p ∷ s ∷ count ∷ (le_bytes f.width (get_or offsets 0 0) ++ (offsets_bytes f offsets ++ rest))

  pub first-laid : (offsets rest : List ℕ) → get_or offsets 0 0 < 256 ^ f.width → field_at (laid offsets rest) 5 f.width ≡ get_or offsets 0 0
  first-laid offsets rest h =
      ap le_value (take_at (le_bytes f.width (get_or offsets 0 0)) (offsets_bytes f offsets ++ rest) f.width (length-le_bytes f.width (get_or offsets 0 0)))
      ∙ le_value-le_bytes f.width (get_or offsets 0 0) h

  behind : (offsets rest : List ℕ) → drop (5 + f.width) (laid offsets rest) ≡ offsets_bytes f offsets ++ rest
  behind offsets rest =
      sym (drop-drop f.width 5 (laid offsets rest))
      ∙ drop_at (le_bytes f.width (get_or offsets 0 0)) (offsets_bytes f offsets ++ rest) f.width (length-le_bytes f.width (get_or offsets 0 0))

  -- the exact count of kind 3, and what is behind it
  exact : (offsets rest : List ℕ) → 254 < length offsets → length offsets < 256 ^ f.width → field_at (laid offsets rest) (5 + f.width) f.width ≡ length offsets
  exact offsets rest h l =
      rw (
        behind offsets rest,
        offsets-three f offsets h,
        append_assoc (le_bytes f.width (length offsets)) (fields_bytes f.width offsets) rest,
        take_at (le_bytes f.width (length offsets)) (fields_bytes f.width offsets ++ rest) f.width (length-le_bytes f.width (length offsets)),
      )
      (le_value-le_bytes f.width (length offsets) l)

  behind-exact : (offsets rest : List ℕ) → 254 < length offsets → drop (5 + 2 * f.width) (laid offsets rest) ≡ fields_bytes f.width offsets ++ rest
  behind-exact offsets rest h =
      let e : 5 + 2 * f.width ≡ 5 + f.width + f.width = omega arith in
      rw (
        e,
        ← drop-drop f.width (5 + f.width) (laid offsets rest),
        behind offsets rest,
        offsets-three f offsets h,
        append_assoc (le_bytes f.width (length offsets)) (fields_bytes f.width offsets) rest,
        drop_at (le_bytes f.width (length offsets)) (fields_bytes f.width offsets ++ rest) f.width (length-le_bytes f.width (length offsets)),
      )

module _ (f : Form) (k p s : ℕ) where
  read_one : (offsets rest : List ℕ) → length offsets ≤ 1 → every (λ x. ltb x (256 ^ f.width)) offsets ≡ true
      → read_offsets f (laid f k 1 p s (length offsets) offsets rest) ≡ offsets
  unfolding read_offsets
  read_one [] rest h b = refl
  read_one (x ∷ []) rest h b =
      ap {B = List ℕ} (λ y. y ∷ []) (first-laid f k 1 p s 1 (x ∷ []) rest (ltb→lt x (256 ^ f.width) (T_of _ (and_left (ltb x (256 ^ f.width)) true b))))
  read_one (x ∷ y ∷ offsets) rest h b = let z : ⊥ = omega arith in absurd z

  read-two : (offsets rest : List ℕ) → 1 < length offsets → length offsets ≤ 254 → every (λ x. ltb x (256 ^ f.width)) offsets ≡ true
      → read_offsets f (laid f k 2 p s (length offsets) offsets rest) ≡ offsets
  unfolding read_offsets
  read-two offsets rest l h b = rw (behind f k 2 p s (length offsets) offsets rest, offsets-two f offsets l h) (fields_of-fields_bytes f.width offsets rest b)

  read-three : (offsets rest : List ℕ) → 254 < length offsets → length offsets < 256 ^ f.width → every (λ x. ltb x (256 ^ f.width)) offsets ≡ true
      → read_offsets f (laid f k 3 p s 255 offsets rest) ≡ offsets
  unfolding read_offsets
  read-three offsets rest h few b =
      rw (exact f k 3 p s 255 offsets rest h few, behind-exact f k 3 p s 255 offsets rest h) (fields_of-fields_bytes f.width offsets rest b)

  read-laid : (offsets rest : List ℕ) → every (λ x. ltb x (256 ^ f.width)) offsets ≡ true → length offsets < 256 ^ f.width
      → read_record f (laid f k (kind_of (length offsets)) p s (min (length offsets) 255) offsets rest) ≡ record { prefix = p; suffix = s; offsets = offsets; inner = 0 }
  unfolding read_record
  read-laid offsets rest b few = go (kinds (length offsets))
    where
      go : (length offsets ≤ 1) ⊎ ((1 < length offsets × length offsets ≤ 254) ⊎ (254 < length offsets))
          → read_record f (laid f k (kind_of (length offsets)) p s (min (length offsets) 255) offsets rest) ≡ record { prefix = p; suffix = s; offsets = offsets; inner = 0 }
      go (inl h) =
          let m : min (length offsets) 255 ≡ length offsets = omega arith in
          rw (leb-true (length offsets) 1 h, m, read_one offsets rest h b)
      go (inr (inl (l, h))) =
          let m : min (length offsets) 255 ≡ length offsets = omega arith in
          rw (leb-false (length offsets) 1 l, leb-true (length offsets) 254 h, m, read-two offsets rest l h b)
      go (inr (inr h)) =
          let l : 1 < length offsets = omega arith in
          let m : min (length offsets) 255 ≡ 255 = omega arith in
          rw (leb-false (length offsets) 1 l, leb-false (length offsets) 254 h, m, read-three offsets rest h few b)

  pub size-laid : (offsets rest : List ℕ) → length offsets < 256 ^ f.width
      → record_size f (laid f k (kind_of (length offsets)) p s (min (length offsets) 255) offsets rest) ≡ 5 + (f.width + length (offsets_bytes f offsets))
  unfolding record_size
  size-laid offsets rest few = go (kinds (length offsets))
    where
      go : (length offsets ≤ 1) ⊎ ((1 < length offsets × length offsets ≤ 254) ⊎ (254 < length offsets))
          → record_size f (laid f k (kind_of (length offsets)) p s (min (length offsets) 255) offsets rest) ≡ 5 + (f.width + length (offsets_bytes f offsets))
      go (inl h) = rw (leb-true (length offsets) 1 h, offsets-one f offsets h) (omega arith)
      go (inr (inl (l, h))) =
          let m : min (length offsets) 255 ≡ length offsets = omega arith in
          rw (leb-false (length offsets) 1 l, leb-true (length offsets) 254 h, m, offsets-two f offsets l h, length-fields_bytes) (omega arith)
      go (inr (inr h)) =
          let l : 1 < length offsets = omega arith in
          let m : min (length offsets) 255 ≡ 255 = omega arith in
          rw (leb-false (length offsets) 1 l, leb-false (length offsets) 254 h, m, exact f k 3 p s 255 offsets rest h few, offsets-three f offsets h, length-append, length-le_bytes, length-fields_bytes) (omega arith)

-- a full record with bytes behind it
pub full-laid : (f : Form) (k : ℕ) (r : MatchRecord) (rest : List ℕ)
    → full_bytes f k r ++ rest ≡ laid f k (kind_of (length r.offsets)) r.prefix r.suffix (min (length r.offsets) 255) r.offsets rest
unfolding full_bytes head_bytes
full-laid f k r rest =
    ap {B = List ℕ} (λ t. k ∷ kind_of (length r.offsets) ∷ r.prefix ∷ r.suffix ∷ min (length r.offsets) 255 ∷ t)
    (append_assoc (le_bytes f.width (get_or r.offsets 0 0)) (offsets_bytes f r.offsets) rest)

pub length-full : (f : Form) (k : ℕ) (r : MatchRecord) → length (full_bytes f k r) ≡ 5 + (f.width + length (offsets_bytes f r.offsets))
unfolding full_bytes head_bytes
length-full f k r = rw (length-append, length-le_bytes) (omega arith)

-- which of the written forms a record has
two-conds {ℓ} : {A : Type ℓ} (b c : Bool) (x y z : A) → (b ≡ true → cond b x (cond c y z) ≡ x) × (b ≡ false → c ≡ true → cond b x (cond c y z) ≡ y) × (b ≡ false → c ≡ false → cond b x (cond c y z) ≡ z)
two-conds b c x y z = (λ p. rw p, λ p q. rw (p, q), λ p q. rw (p, q))

module _ (f : Form) (n k : ℕ) (r : MatchRecord) where
  pub written-empty : is_empty r ≡ true → record_bytes f n k r ≡ []
  unfolding record_bytes
  written-empty e = (two-conds (is_empty r) (is_tiny f n r) [] (tiny_bytes f k r) (full_bytes f k r)).0 e

  tiny-some : is_tiny f n r ≡ true → is_empty r ≡ false
  tiny-some e =
      not-false (is_empty r) (and_right (eqb (length r.offsets) 0 && leb r.prefix (f.tiny_most n) && leb r.suffix (f.tiny_most n)) (not (is_empty r)) e)

  pub written-tiny : is_tiny f n r ≡ true → record_bytes f n k r ≡ tiny_bytes f k r
  unfolding record_bytes
  written-tiny e = (two-conds (is_empty r) (is_tiny f n r) [] (tiny_bytes f k r) (full_bytes f k r)).1 (tiny-some e) e

  pub written-full : is_empty r ≡ false → is_tiny f n r ≡ false → record_bytes f n k r ≡ full_bytes f k r
  unfolding record_bytes
  written-full p q = (two-conds (is_empty r) (is_tiny f n r) [] (tiny_bytes f k r) (full_bytes f k r)).2 p q

-- a record that is written starts with its keyword's number
pub begins-some : (f : Form) (n k j : ℕ) (r : MatchRecord) → is_empty r ≡ false → (rest : List ℕ) → begins (j ∷ []) (record_bytes f n k r ++ rest) ≡ eqb j k
begins-some f n k j r nonempty rest = go (bool_cases (is_tiny f n r))
  where
    go : (is_tiny f n r ≡ true) ⊎ (is_tiny f n r ≡ false) → begins (j ∷ []) (record_bytes f n k r ++ rest) ≡ eqb j k
    go (inl e) = rw (written-tiny f n k r e) (and-true (eqb j k))
    go (inr e) = rw (written-full f n k r nonempty e, full-laid f k r rest) (and-true (eqb j k))

-- ---- the tiny byte

tiny-apart : (p s step : ℕ) → p < step → ((p + step * s) % step ≡ p) × ((p + step * s) / step ≡ s)
tiny-apart p s step h =
    (add-mul-mod_self_left p step s ∙ mod-eq_of_lt h, add-mul-div_left p s {y = step} (omega arith) ∙ rw (div-eq_of_lt h) (zero-add s))

read-tiny : (f : Form) → FormGood f → (n k : ℕ) (r : MatchRecord) → is_tiny f n r ≡ true → (rest : List ℕ) → read_record f (tiny_bytes f k r ++ rest) ≡ with_set r 0
unfolding read_record
read-tiny f good n k r e rest =
    let a = and_left (eqb (length r.offsets) 0 && leb r.prefix (f.tiny_most n)) (leb r.suffix (f.tiny_most n)) (and_left _ (not (is_empty r)) e) in
    let o : r.offsets ≡ [] = no-offsets r.offsets (eq_of (length r.offsets) 0 (and_left (eqb (length r.offsets) 0) (leb r.prefix (f.tiny_most n)) a)) in
    let p : r.prefix ≤ f.tiny_most n = le_of r.prefix (f.tiny_most n) (and_right (eqb (length r.offsets) 0) (leb r.prefix (f.tiny_most n)) a) in
    let q = tiny-apart r.prefix r.suffix f.tiny_step (omega (arith, good.apart n)) in
    λ i. record { prefix = q.0 i; suffix = q.1 i; offsets = sym o i; inner = 0 }

size-tiny : (f : Form) (n k : ℕ) (r : MatchRecord) (rest : List ℕ) → record_size f (tiny_bytes f k r ++ rest) ≡ 3
unfolding record_size
size-tiny f n k r rest = refl

-- ---- any record

module _ (f : Form) (good : FormGood f) (n size k : ℕ) (positive : 1 ≤ n) (fit : size ≤ f.longest_chunk) where
  -- offsets in range, and their count, fit a field
  offsets-below : (offsets : List ℕ) → every (λ at. leb (at + n) size) offsets ≡ true → every (λ x. ltb x (256 ^ f.width)) offsets ≡ true
  offsets-below offsets e =
      every-imp (λ at. leb (at + n) size) (λ x. ltb x (256 ^ f.width)) offsets
      (λ x t. let l : x + n ≤ size = le_of (x + n) size t in leb-true (suc x) (256 ^ f.width) (omega (arith, good.fits)))
      e

  module _ (r : MatchRecord) (within : in_range n size r ≡ true) (nonempty : is_empty r ≡ false) (rest : List ℕ) where
    few : length r.offsets < 256 ^ f.width
    few = omega (arith, good.fits, offsets-count n size r.offsets positive (offsets-rise n size r within) (offsets-in n size r within))

    below : every (λ x. ltb x (256 ^ f.width)) r.offsets ≡ true
    below = offsets-below r.offsets (offsets-in n size r within)

    pub read-written : read_record f (record_bytes f n k r ++ rest) ≡ with_set r 0
    read-written = go (bool_cases (is_tiny f n r))
      where
        go : (is_tiny f n r ≡ true) ⊎ (is_tiny f n r ≡ false) → read_record f (record_bytes f n k r ++ rest) ≡ with_set r 0
        go (inl e) = rw (written-tiny f n k r e) (read-tiny f good n k r e rest)
        go (inr e) = rw (written-full f n k r nonempty e, full-laid f k r rest) (read-laid f k r.prefix r.suffix r.offsets rest below few)

    pub size-written : record_size f (record_bytes f n k r ++ rest) ≡ length (record_bytes f n k r)
    size-written = go (bool_cases (is_tiny f n r))
      where
        go : (is_tiny f n r ≡ true) ⊎ (is_tiny f n r ≡ false) → record_size f (record_bytes f n k r ++ rest) ≡ length (record_bytes f n k r)
        go (inl e) = rw (written-tiny f n k r e) (size-tiny f n k r rest)
        go (inr e) =
            rw (written-full f n k r nonempty e, full-laid f k r rest)
            (size-laid f k r.prefix r.suffix r.offsets rest few ∙ sym (length-full f k r))

    pub begins-written : begins (k ∷ []) (record_bytes f n k r ++ rest) ≡ true
    begins-written = rw (begins-some f n k k r nonempty rest) (eqb_same k)

-- ---- sets

none_of : (n : ℕ) → (n ≡ 0) ⊎ (0 < n)
none_of zero = inl refl
none_of (suc n) = inr (omega arith)

-- the parts of a set in range
module _ (f : Form) (n size set : ℕ) (e : set_in_range f n size set ≡ true) where
  pub set-even : set % 2 ≡ 0
  unfolding set_in_range
  set-even = eq_of (set % 2) 0 (and_right (ltb set (cond f.sets (2 ^ (n - size)) 1)) (eqb (set % 2) 0) e)

  below_of : (b : Bool) → f.sets ≡ b → set < cond b (2 ^ (n - size)) 1
  unfolding set_in_range
  below_of b q =
      ltb→lt set (cond b (2 ^ (n - size)) 1)
      (T_of (ltb set (cond b (2 ^ (n - size)) 1)) (rw q at (and_left (ltb set (cond f.sets (2 ^ (n - size)) 1)) (eqb (set % 2) 0) e)))

  -- no set in a form without sets
  pub plain-set : f.sets ≡ false → set ≡ 0
  plain-set q = let l : set < 1 = below_of false q in omega arith

  pub set_below : set < 2 ^ (n - size)
  set_below = go (bool_cases f.sets)
    where
      go : (f.sets ≡ true) ⊎ (f.sets ≡ false) → set < 2 ^ (n - size)
      go (inl q) = below_of true q
      go (inr q) = let z : set ≡ 0 = plain-set q in omega (arith, pow_pos (n - size))

  pub has-sets : 0 < set → f.sets ≡ true
  has-sets h = go (bool_cases f.sets)
    where
      go : (f.sets ≡ true) ⊎ (f.sets ≡ false) → f.sets ≡ true
      go (inl q) = q
      go (inr q) = let z : ⊥ = omega (arith, plain-set q) in absurd z

  -- it fits 4 bytes
  pub set-fits : n ≤ 32 → set < 256 ^ 4
  set-fits h = let m : n - size ≤ 32 = omega arith in omega (arith, set_below, pow_mono {i = n - size} {j = 32} m)

pub zero_in : (f : Form) (n size : ℕ) → set_in_range f n size 0 ≡ true
unfolding set_in_range
zero_in f n size = go (bool_cases f.sets)
  where
    go : (f.sets ≡ true) ⊎ (f.sets ≡ false) → (ltb 0 (cond f.sets (2 ^ (n - size)) 1) && eqb (0 % 2) 0) ≡ true
    go (inl q) = rw (q, leb-true 1 (2 ^ (n - size)) (pow_pos (n - size)))
    go (inr q) = rw q

pub set-empty : (k set : ℕ) → set ≡ 0 → set_bytes k set ≡ []
unfolding set_bytes
set-empty k set e = rw e

pub set-some : (k set : ℕ) → 0 < set → set_bytes k set ≡ k ∷ 4 ∷ le_bytes 4 set
unfolding set_bytes
set-some k set h = rw (eqb-ne set 0 (λ e. omega arith))

set-begins : (j k set : ℕ) (rest : List ℕ) → 0 < set → begins (j ∷ []) (set_bytes k set ++ rest) ≡ eqb j k
set-begins j k set rest h = rw (set-some k set h) (and-true (eqb j k))

-- what does not start with k does not start with k and more
begins-more : (k : ℕ) (more bytes : List ℕ) → begins (k ∷ []) bytes ≡ false → begins (k ∷ more) bytes ≡ false
begins-more k more [] e = refl
begins-more k more (b ∷ bytes) e = let z : eqb k b ≡ false = sym (and-true (eqb k b)) ∙ e in rw z

-- ---- a keyword's record and set read back, where what follows them is not the keyword's

kind-below : (count : ℕ) → kind_of count < 4
kind-below count = go (kinds count)
  where
    go : (count ≤ 1) ⊎ ((1 < count × count ≤ 254) ⊎ (254 < count)) → kind_of count < 4
    go (inl h) = rw (leb-true count 1 h) (omega arith)
    go (inr (inl (l, h))) = rw (leb-false count 1 l, leb-true count 254 h) (omega arith)
    go (inr (inr h)) = let l : 1 < count = omega arith in rw (leb-false count 1 l, leb-false count 254 h) (omega arith)

-- a record that is written is not a set
not_set : (f : Form) (n k : ℕ) (r : MatchRecord) → is_empty r ≡ false → (rest : List ℕ) → begins (k ∷ 4 ∷ []) (record_bytes f n k r ++ rest) ≡ false
not_set f n k r some rest = go (bool_cases (is_tiny f n r))
  where
    go : (is_tiny f n r ≡ true) ⊎ (is_tiny f n r ≡ false) → begins (k ∷ 4 ∷ []) (record_bytes f n k r ++ rest) ≡ false
    go (inl e) = rw (written-tiny f n k r e, and-false)
    go (inr e) =
        rw (written-full f n k r some e, full-laid f k r rest, eqb-ne 4 (kind_of (length r.offsets)) (λ q. omega (arith, kind-below (length r.offsets))), and-false)

module _ (f : Form) (n size k set : ℕ) (short : n ≤ 32) (within : set_in_range f n size set ≡ true) (rest : List ℕ) (other : begins (k ∷ []) rest ≡ false) where
  set-absent : set ≡ 0 → set_is_next f k (set_bytes k set ++ rest) ≡ false
  set-absent e = rw (set-empty k set e, begins-more k (4 ∷ []) rest other, and-false)

  set-present : 0 < set → set_is_next f k (set_bytes k set ++ rest) ≡ true
  set-present h = rw (has-sets f n size set within h, set-some k set h, eqb_same k)

  pub set-read : read_set f k (set_bytes k set ++ rest) ≡ set
  unfolding read_set
  set-read = go (none_of set)
    where
      go : (set ≡ 0) ⊎ (0 < set) → read_set f k (set_bytes k set ++ rest) ≡ set
      go (inl e) = rw (set-absent e) (sym e)
      go (inr h) =
          rw (set-present h, set-some k set h)
          (ap le_value (take_at (le_bytes 4 set) rest 4 (length-le_bytes 4 set)) ∙ le_value-le_bytes 4 set (set-fits f n size set within short))

  pub set-taken : set_taken f k (set_bytes k set ++ rest) ≡ length (set_bytes k set)
  unfolding set_taken
  set-taken = go (none_of set)
    where
      go : (set ≡ 0) ⊎ (0 < set) → set_taken f k (set_bytes k set ++ rest) ≡ length (set_bytes k set)
      go (inl e) = rw (set-absent e, set-empty k set e)
      go (inr h) = rw (set-present h, set-some k set h, length-le_bytes)

module _ (f : Form) (good : FormGood f) (n size k : ℕ) (positive : 1 ≤ n) (short : n ≤ 32) (fit : size ≤ f.longest_chunk)
    (r : MatchRecord) (within : in_range n size r ≡ true) (set_within : set_in_range f n size r.inner ≡ true)
    (rest : List ℕ) (other : begins (k ∷ []) rest ≡ false) where
  abbrev bytes : List ℕ
  bytes = record_bytes f n k r ++ (set_bytes k r.inner ++ rest)

  record-absent : is_empty r ≡ true → record_is_next f k bytes ≡ false
  record-absent t = go (none_of r.inner)
    where
      go : (r.inner ≡ 0) ⊎ (0 < r.inner) → record_is_next f k bytes ≡ false
      go (inl e) = rw (written-empty f n k r t, set-empty k r.inner e, other, and-false)
      go (inr h) = rw (written-empty f n k r t, set-present f n size k r.inner short set_within rest other h)

  record-present : is_empty r ≡ false → record_is_next f k bytes ≡ true
  record-present t =
      rw (not_set f n k r t (set_bytes k r.inner ++ rest), and-false, begins-written f good n size k positive fit r within t (set_bytes k r.inner ++ rest))

  pub record-taken : record_taken f k bytes ≡ length (record_bytes f n k r)
  unfolding record_taken
  record-taken = go (bool_cases (is_empty r))
    where
      go : (is_empty r ≡ true) ⊎ (is_empty r ≡ false) → record_taken f k bytes ≡ length (record_bytes f n k r)
      go (inl t) = rw (record-absent t, written-empty f n k r t)
      go (inr t) = rw (record-present t, size-written f good n size k positive fit r within t (set_bytes k r.inner ++ rest))

  behind-record : drop (record_taken f k bytes) bytes ≡ set_bytes k r.inner ++ rest
  behind-record = drop_at (record_bytes f n k r) (set_bytes k r.inner ++ rest) (record_taken f k bytes) (sym record-taken)

  record_is : with_set (cond (record_is_next f k bytes) (read_record f bytes) empty_record) 0 ≡ with_set r 0
  record_is = go (bool_cases (is_empty r))
    where
      go : (is_empty r ≡ true) ⊎ (is_empty r ≡ false) → with_set (cond (record_is_next f k bytes) (read_record f bytes) empty_record) 0 ≡ with_set r 0
      go (inl t) = rw (record-absent t) (sym (empty-is r t))
      go (inr t) = rw (record-present t, read-written f good n size k positive fit r within t (set_bytes k r.inner ++ rest))

  pub keyword-read : read_keyword f k bytes ≡ r
  unfolding read_keyword
  keyword-read =
      ap (λ (s : MatchRecord). with_set s (read_set f k (drop (record_taken f k bytes) bytes))) record_is
      ∙ ap (with_set r) (ap (read_set f k) behind-record ∙ set-read f n size k r.inner short set_within rest other)

  pub keyword-behind : behind_keyword f k bytes ≡ rest
  unfolding behind_keyword
  keyword-behind =
      ap (λ (b : List ℕ). drop (set_taken f k b) b) behind-record
      ∙ drop_at (set_bytes k r.inner) rest _ (sym (set-taken f n size k r.inner short set_within rest other))

-- ---- bodies

-- Every length is in 1 to 32, as a checked keyword's is.
abbrev pub all_proper : List ℕ → Bool
all_proper lengths = every (λ n. ltb 0 n && leb n 32) lengths

pub proper-first : (n : ℕ) (lengths : List ℕ) → all_proper (n ∷ lengths) ≡ true → (1 ≤ n) × (n ≤ 32)
proper-first n lengths p =
    let h = and_left (ltb 0 n && leb n 32) (all_proper lengths) p in
    (le_of 1 n (and_left (ltb 0 n) (leb n 32) h), le_of n 32 (and_right (ltb 0 n) (leb n 32) h))

pub proper-rest : (n : ℕ) (lengths : List ℕ) → all_proper (n ∷ lengths) ≡ true → all_proper lengths ≡ true
proper-rest n lengths p = and_right (ltb 0 n && leb n 32) (all_proper lengths) p

-- a body from keyword k on does not start with a number below k
pub body-begins : (f : Form) (j k : ℕ) (lengths : List ℕ) (records : List MatchRecord) → j < k → begins (j ∷ []) (body_from f k lengths records) ≡ false
unfolding body_from
body-begins f j k [] records l = refl
body-begins f j k (n ∷ lengths) [] l = refl
body-begins f j k (n ∷ lengths) (r ∷ records) l =
    go (bool_cases (is_empty r)) (none_of r.inner) (body-begins f j (suc k) lengths records (omega arith))
  where
    rest : List ℕ
    rest = body_from f (suc k) lengths records

    go : (is_empty r ≡ true) ⊎ (is_empty r ≡ false) → (r.inner ≡ 0) ⊎ (0 < r.inner) → begins (j ∷ []) rest ≡ false
        → begins (j ∷ []) (record_bytes f n k r ++ (set_bytes k r.inner ++ rest)) ≡ false
    go (inl e) (inl z) ih = rw (written-empty f n k r e, set-empty k r.inner z) ih
    go (inl e) (inr h) ih = rw (written-empty f n k r e) (set-begins j k r.inner rest h ∙ eqb-ne j k (omega arith))
    go (inr e) d ih = begins-some f n k j r e (set_bytes k r.inner ++ rest) ∙ eqb-ne j k (omega arith)

pub range_none : (f : Form) (size n : ℕ) (lengths : List ℕ) → all_in_range f size (n ∷ lengths) [] ≡ true → ⊥
unfolding all_in_range
range_none f size n lengths e = false≢true e

-- the parts of records in range
module _ (f : Form) (size n : ℕ) (lengths : List ℕ) (r : MatchRecord) (records : List MatchRecord) (e : all_in_range f size (n ∷ lengths) (r ∷ records) ≡ true) where
  pub range-first : in_range n size r ≡ true
  unfolding all_in_range
  range-first = and_left (in_range n size r) (set_in_range f n size r.inner && all_in_range f size lengths records) e

  pub set_first : set_in_range f n size r.inner ≡ true
  unfolding all_in_range
  set_first =
      and_left (set_in_range f n size r.inner) (all_in_range f size lengths records)
      (and_right (in_range n size r) (set_in_range f n size r.inner && all_in_range f size lengths records) e)

  pub range-rest : all_in_range f size lengths records ≡ true
  unfolding all_in_range
  range-rest =
      and_right (set_in_range f n size r.inner) (all_in_range f size lengths records)
      (and_right (in_range n size r) (set_in_range f n size r.inner && all_in_range f size lengths records) e)

module _ (f : Form) (good : FormGood f) (size : ℕ) (fit : size ≤ f.longest_chunk) where
  -- written records read back as the same records
  pub body-read : (k : ℕ) (lengths : List ℕ) (records : List MatchRecord) → all_proper lengths ≡ true → all_in_range f size lengths records ≡ true → length records ≡ length lengths
      → read_from f k (length lengths) (body_from f k lengths records) ≡ records
  unfolding body_from read_from
  body-read k [] [] p e l = refl
  body-read k [] (r ∷ records) p e l = let z : ⊥ = omega arith in absurd z
  body-read k (n ∷ lengths) [] p e l = let z : ⊥ = omega arith in absurd z
  body-read k (n ∷ lengths) (r ∷ records) p e l =
      let rest = body_from f (suc k) lengths records in
      let h = proper-first n lengths p in
      let within = range-first f size n lengths r records e in
      let set_within = set_first f size n lengths r records e in
      let other = body-begins f k (suc k) lengths records (omega arith) in
      rw (
        keyword-read f good n size k h.0 h.1 fit r within set_within rest other,
        keyword-behind f good n size k h.0 h.1 fit r within set_within rest other,
        body-read (suc k) lengths records (proper-rest n lengths p) (range-rest f size n lengths r records e) (omega arith),
      )

  -- the writing of records in range is good
  pub good-written : (lengths : List ℕ) (records : List MatchRecord) → all_proper lengths ≡ true → all_in_range f size lengths records ≡ true → length records ≡ length lengths
      → good_body f lengths size (body_bytes f lengths records) ≡ true
  unfolding good_body
  good-written lengths records p e l = rw (body-read 0 lengths records p e l, same_refl (body_bytes f lengths records), e)

-- a good body is the writing of records in range
pub good-is-written : (f : Form) (lengths : List ℕ) (size : ℕ) (body : List ℕ) → good_body f lengths size body ≡ true
    → (body ≡ body_bytes f lengths (read_body f (length lengths) body)) × (all_in_range f size lengths (read_body f (length lengths) body) ≡ true)
unfolding good_body
good-is-written f lengths size body e = (
  sym (same-eq _ _ (and_left (same (body_bytes f lengths (read_body f (length lengths) body)) body) _ e)),
  and_right (same (body_bytes f lengths (read_body f (length lengths) body)) body) _ e,
)

-- two good bodies that say the same records are the same
pub one-written-form : (f : Form) (lengths : List ℕ) (size size' : ℕ) (body body' : List ℕ) → good_body f lengths size body ≡ true → good_body f lengths size' body' ≡ true
    → read_body f (length lengths) body ≡ read_body f (length lengths) body' → body ≡ body'
one-written-form f lengths size size' body body' e e' q =
    (good-is-written f lengths size body e).0 ∙ ap (body_bytes f lengths) q ∙ sym (good-is-written f lengths size' body' e').0
