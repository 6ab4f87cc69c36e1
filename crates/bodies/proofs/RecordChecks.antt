-- What a record check has to test: bytes start with a good record exactly if the facts of `Tiny` or of `Full` hold, by the kind.
-- There: the bytes are the writing and what follows, so reading them meets RecordLaws. Back: each field read is written again as it was.
use mathlib.Core.Path.{◌≡◌, refl, sym, ap, ap₂, ◌∙◌}
use mathlib.Core.Logic.{◌⊎◌, inl, inr}
use mathlib.Core.Bool.{Bool, true, false, ◌&&◌, cond, true≢false}
use mathlib.Core.List.{List, [], ◌∷◌, ◌++◌}
use Prim.Native.Nat.{ℕ, ◌+◌, ◌-◌, ◌*◌, ◌/◌, ◌%◌, ◌^◌, ◌≤◌, ◌<◌, min}
use native.Mathlib.Nat.{mod-add-div, zero-mod, zero-div, mul-zero}
use native.Mathlib.Omega.{arith}
use lib.Dec.{eqb, leb}
use lib.ListN.{length, take, drop, get_or, length-append, length-drop, length-take, take-append-drop}
use lib.Seq.{drop-drop, take-add, get_or-take}
use Rattle.spec.specs.Bytes.{le_value, le_bytes, field_at, fields_of, fields_bytes, same, rising, every, AllBytes}
use Rattle.spec.specs.Form.{Form}
use Rattle.spec.specs.Records.{MatchRecord, is_empty, is_tiny, reach, in_range, kind_of, head_bytes}
use Rattle.spec.specs.Records.{offsets_bytes, full_bytes, tiny_bytes, record_bytes, read_offsets, read_record, record_size}
use Rattle.bodies.specs.Steps.{record_good}
use Rattle.spec.proofs.Tests.{le-or-lt, and_left, and_right, leb-true, leb-false, eqb-ne, bool_cases, false_of}
use Rattle.spec.proofs.Same.{same-eq, same_of}
use Rattle.spec.proofs.Fields.{length-le_bytes}
use Rattle.spec.proofs.FieldLists.{bytes_drop, le_bytes-take, length-fields_of, fields_bytes-fields_of, length-fields_bytes}
use Rattle.spec.proofs.RecordLaws.{FormGood, eq_of, le_of, kinds, laid, first-laid, size-laid, full-laid, offsets-count}
use Rattle.spec.proofs.RecordLaws.{prefix-in, suffix-in, offsets-rise, offsets-in, offsets-one, offsets-two, offsets-three}
use Rattle.spec.proofs.RecordLaws.{written-empty, written-tiny, written-full, length-full}

-- ---- tiny records

-- The facts of bytes that start with a good tiny record.
pub record Tiny (f : Form) (n size : ℕ) (bytes : List ℕ) : Type 0 where
  pub long : 3 ≤ length bytes
  pub nonempty : 1 ≤ get_or bytes 2 0
  pub low : get_or bytes 2 0 % f.tiny_step ≤ f.tiny_most n
  pub high : get_or bytes 2 0 / f.tiny_step ≤ f.tiny_most n
  pub prefix : get_or bytes 2 0 % f.tiny_step ≤ reach n size
  pub suffix : get_or bytes 2 0 / f.tiny_step ≤ reach n size

-- The facts of bytes that start with a good full record.
pub record Full (f : Form) (n size : ℕ) (bytes : List ℕ) : Type 0 where
  pub long : record_size f bytes ≤ length bytes
  pub kind : get_or bytes 1 0 ≡ kind_of (length (read_offsets f bytes))
  pub count : get_or bytes 4 0 ≡ min (length (read_offsets f bytes)) 255
  pub first : field_at bytes 5 f.width ≡ get_or (read_offsets f bytes) 0 0
  pub large : is_tiny f n (read_record f bytes) ≡ false
  pub nonempty : is_empty (read_record f bytes) ≡ false
  pub prefix : get_or bytes 2 0 ≤ reach n size
  pub suffix : get_or bytes 3 0 ≤ reach n size
  pub rise : rising (read_offsets f bytes) ≡ true
  pub inside : every (λ at. leb (at + n) size) (read_offsets f bytes) ≡ true

-- ---- what the sizes say

size-two : (a b c : Bool) (w m x : ℕ) → 3 ≤ cond a 3 (cond b (5 + w) (cond c (5 + w + m) (5 + 2 * w + x)))
size-two true b c w m x = omega arith
size-two false true c w m x = omega arith
size-two false false true w m x = omega arith
size-two false false false w m x = omega arith

pub size-least : (f : Form) (bytes : List ℕ) → 3 ≤ record_size f bytes
unfolding record_size
size-least f bytes =
    size-two (eqb (get_or bytes 1 0) 0) (eqb (get_or bytes 1 0) 1) (eqb (get_or bytes 1 0) 2) f.width (f.width * get_or bytes 4 0)
    (f.width * field_at bytes (5 + f.width) f.width)

module _ (f : Form) (n size : ℕ) (bytes : List ℕ) (start : 1 ≤ length bytes) where
  -- the record that is compared, if the bytes are its writing
  module _ (e : record_good f n (get_or bytes 0 0) size bytes ≡ true) where
    are : record_bytes f n (get_or bytes 0 0) (read_record f bytes) ≡ take (record_size f bytes) bytes
    unfolding record_good
    are = same-eq _ _ (and_left (same (record_bytes f n (get_or bytes 0 0) (read_record f bytes)) (take (record_size f bytes) bytes)) _ e)

    within : in_range n size (read_record f bytes) ≡ true
    unfolding record_good
    within = and_right (same (record_bytes f n (get_or bytes 0 0) (read_record f bytes)) (take (record_size f bytes) bytes)) _ e

    not-empty : is_empty (read_record f bytes) ≡ false
    not-empty =
        false_of (is_empty (read_record f bytes))
        (λ t. let z : 0 ≡ length (take (record_size f bytes) bytes) = ap length (sym (written-empty f n (get_or bytes 0 0) (read_record f bytes) t) ∙ are) in
        let l : length (take (record_size f bytes) bytes) ≡ min (record_size f bytes) (length bytes) = length-take (record_size f bytes) bytes in
        omega (arith, size-least f bytes))

    -- by the kind: not 0 for a full record, 0 for a tiny one
    kind-of-tiny : is_tiny f n (read_record f bytes) ≡ true → get_or bytes 1 0 ≡ 0
    kind-of-tiny t =
        sym (get_or-take (record_size f bytes) bytes 1 0 (omega (arith, size-least f bytes)))
        ∙ ap (λ (l : List ℕ). get_or l 1 0) (sym are ∙ written-tiny f n (get_or bytes 0 0) (read_record f bytes) t)

    kind-of-full : is_tiny f n (read_record f bytes) ≡ false → get_or bytes 1 0 ≡ kind_of (length (read_record f bytes).offsets)
    unfolding full_bytes head_bytes
    kind-of-full t =
        sym (get_or-take (record_size f bytes) bytes 1 0 (omega (arith, size-least f bytes)))
        ∙ ap (λ (l : List ℕ). get_or l 1 0) (sym are ∙ written-full f n (get_or bytes 0 0) (read_record f bytes) not-empty t)

-- ---- tiny records

pub read-zero : (f : Form) (bytes : List ℕ) → get_or bytes 1 0 ≡ 0
    → read_record f bytes ≡ record { prefix = get_or bytes 2 0 % f.tiny_step; suffix = get_or bytes 2 0 / f.tiny_step; offsets = []; inner = 0 }
unfolding read_record
read-zero f bytes z = rw z

pub size-zero : (f : Form) (bytes : List ℕ) → get_or bytes 1 0 ≡ 0 → record_size f bytes ≡ 3
unfolding record_size
size-zero f bytes z = rw z

kind-least : (m : ℕ) → 1 ≤ kind_of m
kind-least m = go (leb m 1) (leb m 254)
  where
    go : (a b : Bool) → 1 ≤ cond a 1 (cond b 2 3)
    go true b = omega arith
    go false true = omega arith
    go false false = omega arith

abbrev tiny_of : Form → ℕ → MatchRecord
tiny_of f v = record { prefix = v % f.tiny_step; suffix = v / f.tiny_step; offsets = []; inner = 0 }

empty-zero : (f : Form) (v : ℕ) → v ≡ 0 → is_empty (tiny_of f v) ≡ true
empty-zero f v z = rw (z, zero-mod, zero-div)

some-tiny : (f : Form) (v : ℕ) → 1 ≤ v → is_empty (tiny_of f v) ≡ false
some-tiny f v h =
    false_of (is_empty (tiny_of f v))
    (λ t. let a = and_left (eqb (v % f.tiny_step) 0 && eqb (v / f.tiny_step) 0) true t in
    let p : v % f.tiny_step ≡ 0 = eq_of _ 0 (and_left _ _ a) in
    let q : v / f.tiny_step ≡ 0 = eq_of _ 0 (and_right (eqb (v % f.tiny_step) 0) _ a) in
    let m : f.tiny_step * (v / f.tiny_step) ≡ 0 = rw q (mul-zero f.tiny_step) in
    omega (arith, mod-add-div v f.tiny_step))

module _ (f : Form) (n size : ℕ) (bytes : List ℕ) (start : 1 ≤ length bytes) (zero-kind : get_or bytes 1 0 ≡ 0) where
  pub tiny-of : record_good f n (get_or bytes 0 0) size bytes ≡ true → Tiny f n size bytes
  tiny-of e = record {
    long = long;
    nonempty = nonempty;
    low = le_of _ _ (and_right (eqb (length r.offsets) 0) _ (and_left _ _ (and_left _ _ tiny)));
    high = le_of _ _ (and_right (eqb (length r.offsets) 0 && leb r.prefix (f.tiny_most n)) _ (and_left _ _ tiny));
    prefix = prefix-in n size r (ap (in_range n size) (sym is) ∙ within f n size bytes start e);
    suffix = suffix-in n size r (ap (in_range n size) (sym is) ∙ within f n size bytes start e);
  }
    where
      r : MatchRecord
      r = tiny_of f (get_or bytes 2 0)

      is : read_record f bytes ≡ r
      is = read-zero f bytes zero-kind

      tested : is_tiny f n (read_record f bytes) ≡ true
      tested = go (bool_cases (is_tiny f n (read_record f bytes)))
        where
          go : (is_tiny f n (read_record f bytes) ≡ true) ⊎ (is_tiny f n (read_record f bytes) ≡ false) → is_tiny f n (read_record f bytes) ≡ true
          go (inl t) = t
          go (inr t) = let z : ⊥ = omega (arith, kind-least (length (read_record f bytes).offsets), kind-of-full f n size bytes start e t) in absurd z

      tiny : is_tiny f n r ≡ true
      tiny = ap (is_tiny f n) (sym is) ∙ tested

      long : 3 ≤ length bytes
      long =
          let l : length (take (record_size f bytes) bytes) ≡ min (record_size f bytes) (length bytes) = length-take (record_size f bytes) bytes in
          let z : length (tiny_bytes f (get_or bytes 0 0) (read_record f bytes)) ≡ length (take (record_size f bytes) bytes) =
          ap length (sym (written-tiny f n (get_or bytes 0 0) (read_record f bytes) tested) ∙ are f n size bytes start e) in
          omega arith

      nonempty : 1 ≤ get_or bytes 2 0
      nonempty = go (le-or-lt 1 (get_or bytes 2 0))
        where
          go : (1 ≤ get_or bytes 2 0) ⊎ (get_or bytes 2 0 < 1) → 1 ≤ get_or bytes 2 0
          go (inl h) = h
          go (inr h) = absurd (true≢false (sym (ap is_empty is ∙ empty-zero f (get_or bytes 2 0) (omega arith)) ∙ not-empty f n size bytes start e))

-- the three bytes, written again
tiny-taken : (f : Form) (bytes : List ℕ) → 3 ≤ length bytes → get_or bytes 1 0 ≡ 0
    → tiny_bytes f (get_or bytes 0 0) (tiny_of f (get_or bytes 2 0)) ≡ take 3 bytes
tiny-taken f [] h z = let x : ⊥ = omega arith in absurd x
tiny-taken f (a ∷ []) h z = let x : ⊥ = omega arith in absurd x
tiny-taken f (a ∷ b ∷ []) h z = let x : ⊥ = omega arith in absurd x
tiny-taken f (a ∷ b ∷ v ∷ bytes) h z = rw (mod-add-div v f.tiny_step, z)

pub tiny-is : (f : Form) (n size : ℕ) (bytes : List ℕ) → get_or bytes 1 0 ≡ 0 → Tiny f n size bytes → record_good f n (get_or bytes 0 0) size bytes ≡ true
unfolding record_good in_range
tiny-is f n size bytes zero-kind t =
    let v = get_or bytes 2 0 in
    let low = leb-true (v % f.tiny_step) (f.tiny_most n) t.low in
    let high = leb-true (v / f.tiny_step) (f.tiny_most n) t.high in
    let w : is_tiny f n (tiny_of f v) ≡ true = rw (low, high, some-tiny f v t.nonempty) in
    rw (
      read-zero f bytes zero-kind,
      size-zero f bytes zero-kind,
      written-tiny f n (get_or bytes 0 0) (tiny_of f v) w,
      same_of _ _ (tiny-taken f bytes t.long zero-kind),
      leb-true (v % f.tiny_step) (reach n size) t.prefix,
      leb-true (v / f.tiny_step) (reach n size) t.suffix,
    )

-- ---- full records

abbrev pub full_of : Form → List ℕ → MatchRecord
full_of f bytes = record { prefix = get_or bytes 2 0; suffix = get_or bytes 3 0; offsets = read_offsets f bytes; inner = 0 }

pub read_some : (f : Form) (bytes : List ℕ) → 1 ≤ get_or bytes 1 0 → read_record f bytes ≡ full_of f bytes
unfolding read_record
read_some f bytes h = rw (eqb-ne (get_or bytes 1 0) 0 (omega arith))

module _ (f : Form) (good : FormGood f) (n size : ℕ) (bytes : List ℕ) (positive : 1 ≤ n) (fit : size ≤ f.longest_chunk) (some-kind : 1 ≤ get_or bytes 1 0) where
  -- offsets in range fit a field
  first_fits : (offsets : List ℕ) → every (λ at. leb (at + n) size) offsets ≡ true → get_or offsets 0 0 < 256 ^ f.width
  first_fits [] e = omega (arith, good.fits)
  first_fits (x ∷ offsets) e = omega (arith, good.fits, le_of (x + n) size (and_left (leb (x + n) size) (every (λ at. leb (at + n) size) offsets) e))

  pub full-of : 1 ≤ length bytes → record_good f n (get_or bytes 0 0) size bytes ≡ true → Full f n size bytes
  full-of start e = record {
    long = long;
    kind = ap (λ (l : List ℕ). get_or l 1 0) whole;
    count = ap (λ (l : List ℕ). get_or l 4 0) whole;
    first =
        ap (λ (l : List ℕ). field_at l 5 f.width) whole
        ∙ first-laid f k (kind_of m) r.prefix r.suffix (min m 255) r.offsets rest (first_fits r.offsets inside);
    large = large;
    nonempty = not-empty f n size bytes start e;
    prefix = prefix-in n size r ranges;
    suffix = suffix-in n size r ranges;
    rise = offsets-rise n size r ranges;
    inside = inside;
  }
    where
      r : MatchRecord
      r = full_of f bytes

      k : ℕ
      k = get_or bytes 0 0

      m : ℕ
      m = length (read_offsets f bytes)

      rest : List ℕ
      rest = drop (record_size f bytes) bytes

      ranges : in_range n size r ≡ true
      ranges = ap (in_range n size) (sym (read_some f bytes some-kind)) ∙ within f n size bytes start e

      large : is_tiny f n (read_record f bytes) ≡ false
      large = false_of (is_tiny f n (read_record f bytes)) (λ t. omega (arith, kind-of-tiny f n size bytes start e t))

      inside : every (λ at. leb (at + n) size) (read_offsets f bytes) ≡ true
      inside = offsets-in n size r ranges

      written : full_bytes f k r ≡ take (record_size f bytes) bytes
      written =
          ap (full_bytes f k) (sym (read_some f bytes some-kind))
          ∙ sym (written-full f n k (read_record f bytes) (not-empty f n size bytes start e) large)
          ∙ are f n size bytes start e

      whole : bytes ≡ laid f k (kind_of m) r.prefix r.suffix (min m 255) r.offsets rest
      whole = sym (take-append-drop (record_size f bytes) bytes) ∙ ap {B = List ℕ} (λ l. l ++ rest) (sym written) ∙ full-laid f k r rest

      long : record_size f bytes ≤ length bytes
      long =
          let few : m < 256 ^ f.width = omega (arith, good.fits, offsets-count n size r.offsets positive (offsets-rise n size r ranges) inside) in
          let s : record_size f bytes ≡ length (full_bytes f k r) =
          ap (record_size f) whole ∙ size-laid f k r.prefix r.suffix r.offsets rest few ∙ sym (length-full f k r) in
          let t : length (full_bytes f k r) ≡ length (take (record_size f bytes) bytes) = ap length written in
          omega (arith, length-take (record_size f bytes) bytes)

-- ---- full records, read and written again

-- what the kinds say of offsets and size
module _ (f : Form) (bytes : List ℕ) where
  pub read-1 : get_or bytes 1 0 ≡ 1 → read_offsets f bytes ≡ cond (eqb (get_or bytes 4 0) 0) [] (field_at bytes 5 f.width ∷ [])
  unfolding read_offsets
  read-1 e = rw e

  pub read-2 : get_or bytes 1 0 ≡ 2 → read_offsets f bytes ≡ fields_of f.width (get_or bytes 4 0) (drop (5 + f.width) bytes)
  unfolding read_offsets
  read-2 e = rw e

  pub read-3 : 3 ≤ get_or bytes 1 0 → read_offsets f bytes ≡ fields_of f.width (field_at bytes (5 + f.width) f.width) (drop (5 + 2 * f.width) bytes)
  unfolding read_offsets
  read-3 e = rw (eqb-ne (get_or bytes 1 0) 1 (omega arith), eqb-ne (get_or bytes 1 0) 2 (omega arith))

  pub size-1 : get_or bytes 1 0 ≡ 1 → record_size f bytes ≡ 5 + f.width
  unfolding record_size
  size-1 e = rw e

  pub size-2 : get_or bytes 1 0 ≡ 2 → record_size f bytes ≡ 5 + f.width + f.width * get_or bytes 4 0
  unfolding record_size
  size-2 e = rw e

  pub size-3 : 3 ≤ get_or bytes 1 0 → record_size f bytes ≡ 5 + 2 * f.width + f.width * field_at bytes (5 + f.width) f.width
  unfolding record_size
  size-3 e = rw (eqb-ne (get_or bytes 1 0) 0 (omega arith), eqb-ne (get_or bytes 1 0) 1 (omega arith), eqb-ne (get_or bytes 1 0) 2 (omega arith))

-- fields that were read, written again: with an exact count before them, and without
again-fields : (w c : ℕ) (l : List ℕ) → AllBytes l → w * c ≤ length l → fields_bytes w (fields_of w c l) ≡ take (length (fields_bytes w (fields_of w c l))) l
again-fields w c l b h = rw (length-fields_bytes w (fields_of w c l), length-fields_of w c l) (fields_bytes-fields_of w c l b h)

again-exact : (w c : ℕ) (l : List ℕ) → AllBytes l → c ≡ le_value (take w l) → w + w * c ≤ length l
    → le_bytes w c ++ fields_bytes w (fields_of w c (drop w l)) ≡ take (length (le_bytes w c ++ fields_bytes w (fields_of w c (drop w l)))) l
again-exact w c l b e h =
    let n : length (le_bytes w c ++ fields_bytes w (fields_of w c (drop w l))) ≡ w + w * c =
    rw (length-append, length-le_bytes, length-fields_bytes, length-fields_of) in
    let m : w * c ≤ length (drop w l) = rw length-drop (omega arith) in
    rw (n, take-add w (w * c) l, fields_bytes-fields_of w c (drop w l) (bytes_drop w l b) m, ← le_bytes-take w l b (omega arith), ← e)

-- the fields behind the head, if the head is as it should be
module _ (f : Form) (bytes : List ℕ) (b : AllBytes bytes) (long : record_size f bytes ≤ length bytes)
    (kind : get_or bytes 1 0 ≡ kind_of (length (read_offsets f bytes)))
    (count : get_or bytes 4 0 ≡ min (length (read_offsets f bytes)) 255) where
  abbrev Again : List ℕ → Type 0
  Again ob = (record_size f bytes ≡ 5 + (f.width + length ob)) × (ob ≡ take (length ob) (drop (5 + f.width) bytes))

  again-1 : length (read_offsets f bytes) ≤ 1 → Again (offsets_bytes f (read_offsets f bytes))
  again-1 h =
      let e : get_or bytes 1 0 ≡ 1 = kind ∙ rw (leb-true (length (read_offsets f bytes)) 1 h) in
      rw (offsets-one f (read_offsets f bytes) h) (size-1 f bytes e ∙ omega arith, refl)

  again-2 : 1 < length (read_offsets f bytes) → length (read_offsets f bytes) ≤ 254 → Again (offsets_bytes f (read_offsets f bytes))
  again-2 l h =
      let e : get_or bytes 1 0 ≡ 2 = kind ∙ rw (leb-false (length (read_offsets f bytes)) 1 l, leb-true (length (read_offsets f bytes)) 254 h) in
      let s = size-2 f bytes e in
      let d : length (drop (5 + f.width) bytes) ≡ length bytes - (5 + f.width) = length-drop (5 + f.width) bytes in
      rw (offsets-two f (read_offsets f bytes) l h, read-2 f bytes e) (
        s ∙ rw (length-fields_bytes, length-fields_of) (omega arith),
        again-fields f.width (get_or bytes 4 0) (drop (5 + f.width) bytes) (bytes_drop (5 + f.width) bytes b) (omega arith),
      )

  again-3 : 254 < length (read_offsets f bytes) → Again (offsets_bytes f (read_offsets f bytes))
  again-3 h =
      let l : 1 < length (read_offsets f bytes) = omega arith in
      let e : get_or bytes 1 0 ≡ 3 = kind ∙ rw (leb-false (length (read_offsets f bytes)) 1 l, leb-false (length (read_offsets f bytes)) 254 h) in
      let c = field_at bytes (5 + f.width) f.width in
      let s : record_size f bytes ≡ 5 + 2 * f.width + f.width * c = size-3 f bytes (omega arith) in
      let t : 5 + 2 * f.width ≡ 5 + f.width + f.width = omega arith in
      let o : read_offsets f bytes ≡ fields_of f.width c (drop f.width (drop (5 + f.width) bytes)) =
      read-3 f bytes (omega arith) ∙ rw (t, ← drop-drop f.width (5 + f.width) bytes) in
      let d : length (drop (5 + f.width) bytes) ≡ length bytes - (5 + f.width) = length-drop (5 + f.width) bytes in
      rw (offsets-three f (read_offsets f bytes) h, o, length-fields_of f.width c (drop f.width (drop (5 + f.width) bytes))) (
        s ∙ rw (length-append, length-le_bytes, length-fields_bytes, length-fields_of) (omega arith),
        again-exact f.width c (drop (5 + f.width) bytes) (bytes_drop (5 + f.width) bytes b) refl (omega arith),
      )

  again : Again (offsets_bytes f (read_offsets f bytes))
  again = go (kinds (length (read_offsets f bytes)))
    where
      go : (length (read_offsets f bytes) ≤ 1) ⊎ ((1 < length (read_offsets f bytes) × length (read_offsets f bytes) ≤ 254) ⊎ (254 < length (read_offsets f bytes)))
          → Again (offsets_bytes f (read_offsets f bytes))
      go (inl h) = again-1 h
      go (inr (inl (l, h))) = again-2 l h
      go (inr (inr h)) = again-3 h

-- the first n + 5 bytes
take_head : (bytes : List ℕ) (n : ℕ) → 5 ≤ length bytes
    → take (5 + n) bytes ≡ get_or bytes 0 0 ∷ get_or bytes 1 0 ∷ get_or bytes 2 0 ∷ get_or bytes 3 0 ∷ get_or bytes 4 0 ∷ take n (drop 5 bytes)
take_head bytes n h = take-add 5 n bytes ∙ go bytes h
  where
    go : (l : List ℕ) → 5 ≤ length l → take 5 l ++ take n (drop 5 l) ≡ get_or l 0 0 ∷ get_or l 1 0 ∷ get_or l 2 0 ∷ get_or l 3 0 ∷ get_or l 4 0 ∷ take n (drop 5 l)
    go [] h = let z : ⊥ = omega arith in absurd z
    go (a ∷ []) h = let z : ⊥ = omega arith in absurd z
    go (a ∷ b ∷ []) h = let z : ⊥ = omega arith in absurd z
    go (a ∷ b ∷ c ∷ []) h = let z : ⊥ = omega arith in absurd z
    go (a ∷ b ∷ c ∷ d ∷ []) h = let z : ⊥ = omega arith in absurd z
    go (a ∷ b ∷ c ∷ d ∷ e ∷ l) h = refl

full-taken : (f : Form) (n size : ℕ) (bytes : List ℕ) → AllBytes bytes → Full f n size bytes
    → full_bytes f (get_or bytes 0 0) (full_of f bytes) ≡ take (record_size f bytes) bytes
unfolding full_bytes head_bytes
full-taken f n size bytes b t =
    let a = again f bytes b t.long t.kind t.count in
    let w = f.width in
    let ob = offsets_bytes f (read_offsets f bytes) in
    let long : 5 + (w + length ob) ≤ length bytes = rw (← a.0) t.long in
    let d : length (drop 5 bytes) ≡ length bytes - 5 = length-drop 5 bytes in
    let head : le_bytes w (get_or (read_offsets f bytes) 0 0) ≡ take w (drop 5 bytes) =
    ap (le_bytes w) (sym t.first) ∙ le_bytes-take w (drop 5 bytes) (bytes_drop 5 bytes b) (omega arith) in
    let rest : le_bytes w (get_or (read_offsets f bytes) 0 0) ++ ob ≡ take (w + length ob) (drop 5 bytes) =
    ap₂ {C = List ℕ} (λ x y. x ++ y) head (a.1 ∙ rw (← drop-drop w 5 bytes)) ∙ sym (take-add w (length ob) (drop 5 bytes)) in
    rw (a.0, take_head bytes (w + length ob) (omega arith), t.kind, t.count)
    (ap {B = List ℕ}
    (λ x. get_or bytes 0 0 ∷ kind_of (length (read_offsets f bytes)) ∷ get_or bytes 2 0 ∷ get_or bytes 3 0 ∷ min (length (read_offsets f bytes)) 255 ∷ x)
    rest)

pub full_is : (f : Form) (n size : ℕ) (bytes : List ℕ) → AllBytes bytes → 1 ≤ get_or bytes 1 0 → Full f n size bytes
    → record_good f n (get_or bytes 0 0) size bytes ≡ true
unfolding record_good in_range
full_is f n size bytes b some-kind t =
    rw (
      written-full f n (get_or bytes 0 0) (read_record f bytes) t.nonempty t.large,
      read_some f bytes some-kind,
      same_of _ _ (full-taken f n size bytes b t),
      leb-true (get_or bytes 2 0) (reach n size) t.prefix,
      leb-true (get_or bytes 3 0) (reach n size) t.suffix,
      t.rise,
      t.inside,
    )
