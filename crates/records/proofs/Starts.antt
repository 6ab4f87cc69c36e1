-- A record before its list of offsets: its tests, its length, its stores. Assumes nothing.
use mathlib.Core.Path.{◌≡◌, refl, sym, ap}
use mathlib.Core.Logic.{⊎_elim}
use mathlib.Core.Bool.{Bool, true, false, not, ◌&&◌}
use mathlib.Core.List.{List, [], ◌∷◌, ◌++◌, append-nil}
use Prim.Native.Nat.{ℕ, ◌+◌, ◌*◌, ◌≤◌, ◌<◌, min}
use native.Mathlib.Omega.{arith}
use lib.ListN.{length, set, length-append}
use lib.Dec.{eqb, leb}
use Rattle.spec.specs.Bytes.{le_bytes, splice}
use Rattle.spec.specs.Form.{newest}
use Rattle.spec.specs.Records.{kind_of}
use Rattle.spec.proofs.Tests.{leb-true, leb-false, and_left, and_right, bool_cases, le-or-lt}
use Rattle.spec.proofs.Fields.{length-le_bytes}
use Rattle.spec.proofs.Splices.{splice-nil, sets-splice, splice-then}
use Rattle.spec.proofs.RecordLaws.{le_of}
use Rattle.records.specs.declared.Summary.{Summary}
use Rattle.records.specs.Summaries.{empty_in, tiny_in, tiny_part, head_part, record_part, Wrote}

-- ---- tests

module _ (s : Summary) where
  -- a tiny summary's numbers
  pub tiny-prefix-most : (n : ℕ) → tiny_in newest n s ≡ true → s.prefix ≤ 1
  unfolding tiny_in
  tiny-prefix-most n t =
      let none : Bool = eqb s.count 0 in
      let p : Bool = leb s.prefix 1 in
      let q : Bool = leb s.suffix 1 in
      le_of s.prefix 1 (and_right none p (and_left (none && p) q (and_left (none && p && q) (not (empty_in s)) t)))

  pub tiny-suffix-most : (n : ℕ) → tiny_in newest n s ≡ true → s.suffix ≤ 1
  unfolding tiny_in
  tiny-suffix-most n t =
      let p : Bool = eqb s.count 0 && leb s.prefix 1 in
      let q : Bool = leb s.suffix 1 in
      le_of s.suffix 1 (and_right p q (and_left (p && q) (not (empty_in s)) t))

-- ---- the record's three forms

-- the bytes of a full record's head: number, kind, prefix, suffix, count byte, first offset; the most of a record before its list: the exact count too
abbrev pub head_size : ℕ
head_size = 5 + newest.width

abbrev pub part_most : ℕ
part_most = head_size + newest.width

module _ (n k : ℕ) (s : Summary) where
  pub part-empty : empty_in s ≡ true → record_part newest n k s ≡ []
  unfolding record_part
  part-empty e = rw e

  pub part-tiny : empty_in s ≡ false → tiny_in newest n s ≡ true → record_part newest n k s ≡ tiny_part newest k s
  unfolding record_part
  part-tiny e t = rw (e, t)

  pub part-few : empty_in s ≡ false → tiny_in newest n s ≡ false → s.count ≤ 254 → record_part newest n k s ≡ head_part newest k s
  unfolding record_part
  part-few e t h = rw (e, t, leb-true s.count 254 h, append-nil)

  pub part-many : empty_in s ≡ false → tiny_in newest n s ≡ false → 254 < s.count
      → record_part newest n k s ≡ head_part newest k s ++ le_bytes newest.width s.count
  unfolding record_part
  part-many e t h = rw (e, t, leb-false s.count 254 h)

  pub length-tiny : length (tiny_part newest k s) ≡ 3
  unfolding tiny_part
  length-tiny = refl

  pub length-head : length (head_part newest k s) ≡ head_size
  unfolding head_part
  length-head = omega (arith, length-le_bytes newest.width s.first)

  pub length-many : empty_in s ≡ false → tiny_in newest n s ≡ false → 254 < s.count → length (record_part newest n k s) ≡ part_most
  length-many e t h =
      let count : List ℕ = le_bytes newest.width s.count in
      omega (arith, ap length (part-many e t h), length-append (head_part newest k s) count, length-head, length-le_bytes newest.width s.count)

  pub part-most : length (record_part newest n k s) ≤ part_most
  part-most = ⊎_elim
      (λ e. omega (arith, ap length (part-empty e)))
      (λ e. ⊎_elim
      (λ t. omega (arith, ap length (part-tiny e t), length-tiny))
      (λ t. ⊎_elim
      (λ h. omega (arith, ap length (part-few e t h), length-head))
      (λ h. omega (arith, length-many e t h))
      (le-or-lt s.count 254))
      (bool_cases (tiny_in newest n s)))
      (bool_cases (empty_in s))

  -- a full record has a head
  pub part-least : empty_in s ≡ false → tiny_in newest n s ≡ false → head_size ≤ length (record_part newest n k s)
  part-least e t = ⊎_elim
      (λ h. omega (arith, ap length (part-few e t h), length-head))
      (λ h. omega (arith, length-many e t h))
      (le-or-lt s.count 254)

  -- the form does not hang on the keyword's length
  pub any_part : (m : ℕ) → record_part newest m k s ≡ record_part newest n k s
  unfolding record_part tiny_in
  any_part m = refl

-- ---- stores into a buffer

module _ (l : List ℕ) (k : ℕ) (s : Summary) where
  pub tiny-put : 3 ≤ length l → Wrote l 0 (tiny_part newest k s) (set (set (set l 0 k) 1 0) 2 (s.prefix + 2 * s.suffix)) 3
  unfolding tiny_part
  tiny-put h = record { written = sets-splice (k ∷ 0 ∷ (s.prefix + 2 * s.suffix) ∷ []) l 0 h; ends = refl }

  pub head-put : (kind count : ℕ) (after : List ℕ) → kind ≡ kind_of s.count → count ≡ min s.count 255 → head_size ≤ length l
      → after ≡ splice (set (set (set (set (set l 0 k) 1 kind) 2 s.prefix) 3 s.suffix) 4 count) 5 (le_bytes newest.width s.first)
      → Wrote l 0 (head_part newest k s) after head_size
  unfolding head_part
  head-put kind count after p q h w =
      let v : List ℕ = k ∷ kind_of s.count ∷ s.prefix ∷ s.suffix ∷ min s.count 255 ∷ [] in
      let x : after ≡ splice (splice l 0 v) 5 (le_bytes newest.width s.first) = (rw (p, q, sets-splice v l 0 (omega arith)) at w) in
      record {
        written = splice-then l 0 v (le_bytes newest.width s.first) (omega arith) refl refl x;
        ends = omega (arith, length-le_bytes newest.width s.first);
      }

  -- the forms as they are put
  pub put-nothing : (n : ℕ) → empty_in s ≡ true → Wrote l 0 (record_part newest n k s) l 0
  put-nothing n h = rw (part-empty n k s h) (record { written = sym (splice-nil l 0); ends = refl })

  pub put-as-tiny : (n end : ℕ) (after : List ℕ) → empty_in s ≡ false → tiny_in newest n s ≡ true → Wrote l 0 (tiny_part newest k s) after end
      → Wrote l 0 (record_part newest n k s) after end
  put-as-tiny n end after e t w = rw (part-tiny n k s e t) w

  pub put-as-few : (n end : ℕ) (after : List ℕ) → empty_in s ≡ false → tiny_in newest n s ≡ false → s.count ≤ 254 → Wrote l 0 (head_part newest k s) after end
      → Wrote l 0 (record_part newest n k s) after end
  put-as-few n end after e t h w = rw (part-few n k s e t h) w

  pub put-as-many : (n head : ℕ) (l₁ after : List ℕ) → empty_in s ≡ false → tiny_in newest n s ≡ false → 254 < s.count
      → Wrote l 0 (head_part newest k s) l₁ head → after ≡ splice l₁ head (le_bytes newest.width s.count)
      → Wrote l 0 (record_part newest n k s) after (head + newest.width)
  put-as-many n head l₁ after e t h w x = rw (part-many n k s e t h) (record {
    written = splice-then l 0 (head_part newest k s) (le_bytes newest.width s.count) (omega arith) w.written w.ends x;
    ends = omega (arith, w.ends, length-append (head_part newest k s) (le_bytes newest.width s.count), length-le_bytes newest.width s.count);
  })
