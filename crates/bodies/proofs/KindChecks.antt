-- The record check, kind by kind: what each test of the code says of `good_size`.
use mathlib.Core.Path.{◌≡◌, refl, sym, ap, ◌∙◌}
use mathlib.Core.Logic.{◌≢◌, ◌⊎◌, inl, inr}
use mathlib.Core.Bool.{Bool, true, false, ◌&&◌, not, cond, and-false, false≢true}
use mathlib.Core.List.{List, [], ◌∷◌}
use Prim.Native.Nat.{ℕ, zero, suc, ◌+◌, ◌*◌, ◌/◌, ◌%◌, ◌^◌, ◌≤◌, ◌<◌, min}
use native.Mathlib.Nat.{mul-le-mul_right, pow-le-pow_right}
use native.Mathlib.Omega.{arith}
use Rattle.std.specs.Prelude.{Some, None}
use lib.Dec.{eqb, leb}
use lib.ListN.{length, take, drop, get_or}
use Rattle.spec.specs.Bytes.{le_value, field_at, fields_of, rising, AllBytes}
use Rattle.spec.specs.declared.Format.{Format}
use Rattle.spec.specs.Form.{form_in}
use Rattle.spec.specs.Records.{MatchRecord, is_empty, is_tiny, reach, kind_of, read_offsets, read_record, record_size}
use Rattle.bodies.specs.Steps.{record_good}
use Rattle.spec.proofs.Tests.{and_left, and_right, leb-true, leb-false, eqb_same, eqb-ne, false_of}
use Rattle.spec.proofs.FieldLists.{length-fields_of}
use Rattle.spec.proofs.RecordLaws.{FormGood, eq_of, le_of, kinds}
use Rattle.bodies.specs.Check.{good_size, offsets_in_range, offsets_good, Fits, Lengths, Head}
use Rattle.bodies.proofs.RecordChecks.{Tiny, Full, tiny-of, tiny-is, full-of, full_is}
use Rattle.bodies.proofs.RecordChecks.{read_some, size-zero, read-1, read-2, read-3, size-1, size-2, size-3}

-- the laws of records hold of a format whose fields fit
pub fields-good : (format : Format) → Fits format → FormGood (form_in format)
fields-good format h = record { fits = h.fits; apart = λ n. omega arith }

-- ---- refused or accepted

module _ (format : Format) (n size : ℕ) (bytes : List ℕ) (start : 1 ≤ length bytes) where
  refuse : record_good (form_in format) n (get_or bytes 0 0) size bytes ≡ false → None ≡ good_size format n size bytes
  unfolding good_size
  refuse e = rw e

  accept : (s : ℕ) → record_good (form_in format) n (get_or bytes 0 0) size bytes ≡ true → s ≡ record_size (form_in format) bytes
      → Some s ≡ good_size format n size bytes
  unfolding good_size
  accept s e q = rw e (ap Some q)

  pub refuse-tiny : get_or bytes 1 0 ≡ 0 → (Tiny (form_in format) n size bytes → ⊥) → None ≡ good_size format n size bytes
  refuse-tiny z never = refuse (false_of _ (λ e. never (tiny-of (form_in format) n size bytes start z e)))

  pub accept-tiny : get_or bytes 1 0 ≡ 0 → Tiny (form_in format) n size bytes → Some 3 ≡ good_size format n size bytes
  accept-tiny z t = accept 3 (tiny-is (form_in format) n size bytes z t) (sym (size-zero (form_in format) bytes z))

  pub refuse-full : Lengths format n size → 1 ≤ get_or bytes 1 0 → (Full (form_in format) n size bytes → ⊥) → None ≡ good_size format n size bytes
  refuse-full l nonempty never =
      let good = fields-good format l.fields in
      refuse (false_of _ (λ e. never (full-of (form_in format) good n size bytes l.positive l.fit nonempty start e)))

  pub accept-full : (s : ℕ) → AllBytes bytes → 1 ≤ get_or bytes 1 0 → Full (form_in format) n size bytes → s ≡ record_size (form_in format) bytes
      → Some s ≡ good_size format n size bytes
  accept-full s b nonempty t q = accept s (full_is (form_in format) n size bytes b nonempty t) q

-- ---- kinds

kind-most : (m : ℕ) → kind_of m ≤ 3
kind-most m = go (leb m 1) (leb m 254)
  where
    go : (a b : Bool) → cond a 1 (cond b 2 3) ≤ 3
    go true b = omega arith
    go false true = omega arith
    go false false = omega arith

-- which counts have a kind
module _ (m : ℕ) where
  kind_1 : m ≤ 1 → kind_of m ≡ 1
  kind_1 h = rw (leb-true m 1 h)

  kind_2 : 1 < m → m ≤ 254 → kind_of m ≡ 2
  kind_2 l h = rw (leb-false m 1 l, leb-true m 254 h)

  kind_3 : 254 < m → kind_of m ≡ 3
  kind_3 h = let l : 1 < m = omega arith in rw (leb-false m 1 l, leb-false m 254 h)

  of-2 : kind_of m ≡ 2 → (1 < m) × (m ≤ 254)
  of-2 e = go (kinds m)
    where
      go : (m ≤ 1) ⊎ ((1 < m × m ≤ 254) ⊎ (254 < m)) → (1 < m) × (m ≤ 254)
      go (inl h) = let z : ⊥ = omega (arith, sym e ∙ kind_1 h) in absurd z
      go (inr (inl p)) = p
      go (inr (inr h)) = let z : ⊥ = omega (arith, sym e ∙ kind_3 h) in absurd z

  of-3 : kind_of m ≡ 3 → 254 < m
  of-3 e = go (kinds m)
    where
      go : (m ≤ 1) ⊎ ((1 < m × m ≤ 254) ⊎ (254 < m)) → 254 < m
      go (inl h) = let z : ⊥ = omega (arith, sym e ∙ kind_1 h) in absurd z
      go (inr (inl (l, h))) = let z : ⊥ = omega (arith, sym e ∙ kind_2 l h) in absurd z
      go (inr (inr h)) = h

-- ---- a record with offsets is neither tiny nor empty

module _ (format : Format) (n : ℕ) (bytes : List ℕ) (nonempty : 1 ≤ get_or bytes 1 0) (has : 0 < length (read_offsets (form_in format) bytes)) where
  no_zero : eqb (length (read_offsets (form_in format) bytes)) 0 ≡ false
  no_zero = eqb-ne (length (read_offsets (form_in format) bytes)) 0 (omega arith)

  many-large : is_tiny (form_in format) n (read_record (form_in format) bytes) ≡ false
  many-large = rw (read_some (form_in format) bytes nonempty, no_zero)

  many-some : is_empty (read_record (form_in format) bytes) ≡ false
  many-some = rw (read_some (form_in format) bytes nonempty, no_zero, and-false)

-- ---- kind 0

module _ (format : Format) (n size : ℕ) (bytes : List ℕ) (start : 1 ≤ length bytes) (kind : get_or bytes 1 0 ≡ 0) where
  pub tiny-short : length bytes < 3 → None ≡ good_size format n size bytes
  tiny-short h = refuse-tiny format n size bytes start kind (λ t. omega (arith, t.long))

  pub tiny-prefix : reach n size < get_or bytes 2 0 % 2 → None ≡ good_size format n size bytes
  tiny-prefix h = refuse-tiny format n size bytes start kind (λ t. omega (arith, t.prefix))

  pub tiny-suffix : reach n size < get_or bytes 2 0 / 2 → None ≡ good_size format n size bytes
  tiny-suffix h = refuse-tiny format n size bytes start kind (λ t. omega (arith, t.suffix))

  pub tiny-good : 3 ≤ length bytes → 1 ≤ get_or bytes 2 0 → get_or bytes 2 0 ≤ 3 → get_or bytes 2 0 % 2 ≤ reach n size → get_or bytes 2 0 / 2 ≤ reach n size
      → Some 3 ≡ good_size format n size bytes
  tiny-good l s m p q =
      accept-tiny format n size bytes start kind (record { long = l; nonempty = s; low = omega arith; high = omega arith; prefix = p; suffix = q })

-- ---- heads that no kind has

module _ (format : Format) (n size : ℕ) (bytes : List ℕ) (start : 1 ≤ length bytes) (l : Lengths format n size) where
  pub kind-large : 3 < get_or bytes 1 0 → None ≡ good_size format n size bytes
  kind-large h = refuse-full format n size bytes start l (omega arith) (λ t. omega (arith, t.kind, kind-most (length (read_offsets (form_in format) bytes))))

  size-head : 1 ≤ get_or bytes 1 0 → 5 + format.width ≤ record_size (form_in format) bytes
  unfolding record_size
  size-head h =
      let w = format.width in
      rw (eqb-ne (get_or bytes 1 0) 0 (omega arith))
      (go (eqb (get_or bytes 1 0) 1) (eqb (get_or bytes 1 0) 2) (w * get_or bytes 4 0) (w * field_at bytes (5 + w) w))
    where
      go : (a b : Bool) (x y : ℕ) → 5 + format.width ≤ cond a (5 + format.width) (cond b (5 + format.width + x) (5 + 2 * format.width + y))
      go true b x y = omega arith
      go false true x y = omega arith
      go false false x y = omega arith

  pub head-short : 1 ≤ get_or bytes 1 0 → length bytes < 5 + format.width → None ≡ good_size format n size bytes
  head-short nonempty h = refuse-full format n size bytes start l nonempty (λ t. omega (arith, t.long, size-head nonempty))

  pub head-prefix : 1 ≤ get_or bytes 1 0 → reach n size < get_or bytes 2 0 → None ≡ good_size format n size bytes
  head-prefix nonempty h = refuse-full format n size bytes start l nonempty (λ t. omega (arith, t.prefix))

  pub head-suffix : 1 ≤ get_or bytes 1 0 → reach n size < get_or bytes 3 0 → None ≡ good_size format n size bytes
  head-suffix nonempty h = refuse-full format n size bytes start l nonempty (λ t. omega (arith, t.suffix))

-- ---- kind 1 without an offset

tiny-test : (format : Format) (n : ℕ) (r : MatchRecord) → r.offsets ≡ [] → r.prefix ≤ 1 → r.suffix ≤ 1 → is_empty r ≡ false
    → is_tiny (form_in format) n r ≡ true
tiny-test format n r o p s e = rw (leb-true r.prefix 1 p, leb-true r.suffix 1 s, o) (ap not (rw o at e))

module _ (format : Format) (n size : ℕ) (bytes : List ℕ) (h : Head format 1 n size bytes) (zero-count : get_or bytes 4 0 ≡ 0) where
  none-offsets : read_offsets (form_in format) bytes ≡ []
  none-offsets = read-1 (form_in format) bytes h.is ∙ rw zero-count

  abbrev bare : MatchRecord
  bare = record { prefix = get_or bytes 2 0; suffix = get_or bytes 3 0; offsets = []; inner = 0 }

  none_is : read_record (form_in format) bytes ≡ bare
  none_is = read_some (form_in format) bytes (omega (arith, h.is)) ∙ rw none-offsets

  pub none_first : field_at bytes 5 format.width ≢ 0 → None ≡ good_size format n size bytes
  none_first d =
      refuse-full format n size bytes (omega (arith, h.long)) h.lengths (omega (arith, h.is))
      (λ t. d (t.first ∙ ap (λ (l : List ℕ). get_or l 0 0) none-offsets))

  pub none-small : get_or bytes 2 0 ≤ 1 → get_or bytes 3 0 ≤ 1 → None ≡ good_size format n size bytes
  none-small p s =
      refuse-full format n size bytes (omega (arith, h.long)) h.lengths (omega (arith, h.is))
      (λ t. false≢true (sym t.large ∙ rw none_is (tiny-test format n bare refl p s (rw none_is at t.nonempty))))

  pub none-good : AllBytes bytes → field_at bytes 5 format.width ≡ 0 → (1 < get_or bytes 2 0) ⊎ (1 < get_or bytes 3 0)
      → Some (5 + format.width) ≡ good_size format n size bytes
  none-good b z d =
      accept-full format n size bytes (omega (arith, h.long)) (5 + format.width) b (omega (arith, h.is))
      (record {
        long = omega (arith, size-1 (form_in format) bytes h.is, h.long);
        kind = h.is ∙ rw none-offsets;
        count = zero-count ∙ rw none-offsets;
        first = z ∙ rw none-offsets;
        large = rw none_is (large d);
        nonempty = rw none_is (nonempty d);
        prefix = h.prefix;
        suffix = h.suffix;
        rise = rw none-offsets;
        inside = rw none-offsets;
      })
      (sym (size-1 (form_in format) bytes h.is))
    where
      large : (1 < get_or bytes 2 0) ⊎ (1 < get_or bytes 3 0) → is_tiny (form_in format) n bare ≡ false
      large (inl l) = rw (leb-false (get_or bytes 2 0) 1 l)
      large (inr l) = rw (leb-false (get_or bytes 3 0) 1 l, and-false)

      nonempty : (1 < get_or bytes 2 0) ⊎ (1 < get_or bytes 3 0) → is_empty bare ≡ false
      nonempty (inl l) = rw (eqb-ne (get_or bytes 2 0) 0 (omega arith))
      nonempty (inr l) = rw (eqb-ne (get_or bytes 3 0) 0 (omega arith), and-false)

-- ---- kind 1 with an offset

module _ (format : Format) (n size : ℕ) (bytes : List ℕ) (h : Head format 1 n size bytes) (some-count : get_or bytes 4 0 ≢ 0) where
  single-offsets : read_offsets (form_in format) bytes ≡ field_at bytes 5 format.width ∷ []
  single-offsets = read-1 (form_in format) bytes h.is ∙ rw (eqb-ne (get_or bytes 4 0) 0 some-count)

  pub single-count : get_or bytes 4 0 ≢ 1 → None ≡ good_size format n size bytes
  single-count d =
      refuse-full format n size bytes (omega (arith, h.long)) h.lengths (omega (arith, h.is))
      (λ t. d (t.count ∙ rw single-offsets))

  pub single-out : size < field_at bytes 5 format.width + n → None ≡ good_size format n size bytes
  single-out l =
      refuse-full format n size bytes (omega (arith, h.long)) h.lengths (omega (arith, h.is))
      (λ t. let m : field_at bytes 5 format.width + n ≤ size =
      le_of _ _ (and_left (leb (field_at bytes 5 format.width + n) size) true (rw single-offsets at t.inside))
      in
      omega arith)

  pub single-good : AllBytes bytes → get_or bytes 4 0 ≡ 1 → field_at bytes 5 format.width + n ≤ size → Some (5 + format.width) ≡ good_size format n size bytes
  single-good b one l =
      accept-full format n size bytes (omega (arith, h.long)) (5 + format.width) b (omega (arith, h.is))
      (record {
        long = omega (arith, size-1 (form_in format) bytes h.is, h.long);
        kind = h.is ∙ rw single-offsets;
        count = one ∙ rw single-offsets;
        first = rw single-offsets;
        large = many-large format n bytes (omega (arith, h.is)) has;
        nonempty = many-some format n bytes (omega (arith, h.is)) has;
        prefix = h.prefix;
        suffix = h.suffix;
        rise = rw single-offsets;
        inside = rw (single-offsets, leb-true (field_at bytes 5 format.width + n) size l);
      })
      (sym (size-1 (form_in format) bytes h.is))
    where
      has : 0 < length (read_offsets (form_in format) bytes)
      has = rw single-offsets (omega arith)

-- ---- kinds 2 and 3: `count` offsets from `at` on

fields-head : (w c : ℕ) (l : List ℕ) → 0 < c → get_or (fields_of w c l) 0 0 ≡ le_value (take w l)
unfolding fields_of
fields-head w zero l h = let z : ⊥ = omega arith in absurd z
fields-head w (suc c) l h = refl

module _ (format : Format) (n size : ℕ) (bytes : List ℕ) (at count : ℕ) (long : 5 + format.width ≤ length bytes)
    (l : Lengths format n size) (nonempty : 1 ≤ get_or bytes 1 0) (has : 0 < count)
    (offsets : read_offsets (form_in format) bytes ≡ fields_of format.width count (drop at bytes))
    (ends : record_size (form_in format) bytes ≡ at + format.width * count) where
  many-count : length (read_offsets (form_in format) bytes) ≡ count
  many-count = rw offsets (length-fields_of format.width count (drop at bytes))

  many-of : Full (form_in format) n size bytes → offsets_good format.width n size bytes at count ≡ true
  unfolding offsets_good offsets_in_range
  many-of t =
      let a : at + format.width * count ≤ length bytes = rw (← ends) t.long in
      let b : field_at bytes 5 format.width ≡ field_at bytes at format.width =
      t.first ∙ rw offsets (fields-head format.width count (drop at bytes) has)
      in
      rw (leb-true (at + format.width * count) (length bytes) a, b, eqb_same, ← offsets, t.rise, t.inside)

  pub many-refused : offsets_good format.width n size bytes at count ≡ false → None ≡ good_size format n size bytes
  many-refused e = refuse-full format n size bytes (omega arith) l nonempty (λ t. false≢true (sym e ∙ many-of t))

  pub many-good : AllBytes bytes → get_or bytes 2 0 ≤ reach n size → get_or bytes 3 0 ≤ reach n size
      → get_or bytes 1 0 ≡ kind_of count → get_or bytes 4 0 ≡ min count 255 → offsets_good format.width n size bytes at count ≡ true
      → Some (at + format.width * count) ≡ good_size format n size bytes
  unfolding offsets_good offsets_in_range
  many-good b p s kind c e =
      accept-full format n size bytes (omega arith) (at + format.width * count) b nonempty
      (record {
        long = rw ends (le_of _ _ (and_left (leb (at + format.width * count) (length bytes)) _ (and_left _ _ e)));
        kind = kind ∙ rw many-count;
        count = c ∙ rw many-count;
        first =
            eq_of _ _ (and_right (leb (at + format.width * count) (length bytes)) (eqb (field_at bytes 5 format.width) (field_at bytes at format.width))
            (and_left _ _ e))
            ∙ rw offsets (sym (fields-head format.width count (drop at bytes) has));
        large = many-large format n bytes nonempty (rw many-count has);
        nonempty = many-some format n bytes nonempty (rw many-count has);
        prefix = p;
        suffix = s;
        rise = rw offsets (and_left _ _ order);
        inside = rw offsets (and_right (rising (fields_of format.width count (drop at bytes))) _ order);
      })
      (sym ends)
    where
      order : offsets_in_range n size (fields_of format.width count (drop at bytes)) ≡ true
      order = and_right (leb (at + format.width * count) (length bytes) && eqb (field_at bytes 5 format.width) (field_at bytes at format.width)) _ e

module _ (format : Format) (n size : ℕ) (bytes : List ℕ) (h : Head format 2 n size bytes) where
  two-counts : length (read_offsets (form_in format) bytes) ≡ get_or bytes 4 0
  two-counts = rw (read-2 (form_in format) bytes h.is) (length-fields_of format.width (get_or bytes 4 0) (drop (5 + format.width) bytes))

  pub two-range : (1 < get_or bytes 4 0 → get_or bytes 4 0 ≤ 254 → ⊥) → None ≡ good_size format n size bytes
  two-range d =
      refuse-full format n size bytes (omega (arith, h.long)) h.lengths (omega (arith, h.is))
      (λ t. let k = of-2 (length (read_offsets (form_in format) bytes)) (sym t.kind ∙ h.is) in
      d (omega (arith, two-counts, k.0)) (omega (arith, two-counts, k.1)))

  pub two-refused : 1 < get_or bytes 4 0 → offsets_good format.width n size bytes (5 + format.width) (get_or bytes 4 0) ≡ false
      → None ≡ good_size format n size bytes
  two-refused c e =
      many-refused format n size bytes (5 + format.width) (get_or bytes 4 0) h.long h.lengths (omega (arith, h.is)) (omega arith)
      (read-2 (form_in format) bytes h.is) (size-2 (form_in format) bytes h.is) e

  pub two_good : AllBytes bytes → 1 < get_or bytes 4 0 → get_or bytes 4 0 ≤ 254
      → offsets_good format.width n size bytes (5 + format.width) (get_or bytes 4 0) ≡ true
      → Some (5 + format.width + format.width * get_or bytes 4 0) ≡ good_size format n size bytes
  two_good b c m e =
      many-good format n size bytes (5 + format.width) (get_or bytes 4 0) h.long h.lengths (omega (arith, h.is)) (omega arith)
      (read-2 (form_in format) bytes h.is) (size-2 (form_in format) bytes h.is)
      b h.prefix h.suffix (h.is ∙ sym (kind_2 (get_or bytes 4 0) c m)) (omega arith) e

module _ (format : Format) (n size : ℕ) (bytes : List ℕ) (h : Head format 3 n size bytes) where
  three-is : 3 ≤ get_or bytes 1 0
  three-is = omega (arith, h.is)

  three-counts : length (read_offsets (form_in format) bytes) ≡ field_at bytes (5 + format.width) format.width
  three-counts =
      let w = format.width in
      rw (read-3 (form_in format) bytes three-is) (length-fields_of w (field_at bytes (5 + w) w) (drop (5 + 2 * w) bytes))

  three-many : Full (form_in format) n size bytes → 254 < field_at bytes (5 + format.width) format.width
  three-many t = omega (arith, three-counts, of-3 (length (read_offsets (form_in format) bytes)) (sym t.kind ∙ h.is))

  pub three-short : length bytes < 5 + 2 * format.width → None ≡ good_size format n size bytes
  three-short l =
      refuse-full format n size bytes (omega (arith, h.long)) h.lengths (omega (arith, h.is))
      (λ t. omega (arith, t.long, size-3 (form_in format) bytes three-is))

  pub three-count : get_or bytes 4 0 ≢ 255 → None ≡ good_size format n size bytes
  three-count d =
      refuse-full format n size bytes (omega (arith, h.long)) h.lengths (omega (arith, h.is))
      (λ t. d (omega (arith, t.count, three-counts, three-many t)))

  pub three-few : field_at bytes (5 + format.width) format.width < 255 → None ≡ good_size format n size bytes
  three-few l = refuse-full format n size bytes (omega (arith, h.long)) h.lengths (omega (arith, h.is)) (λ t. omega (arith, three-many t))

  pub three-refused : 254 < field_at bytes (5 + format.width) format.width
      → offsets_good format.width n size bytes (5 + 2 * format.width) (field_at bytes (5 + format.width) format.width) ≡ false
      → None ≡ good_size format n size bytes
  three-refused c e =
      many-refused format n size bytes (5 + 2 * format.width) (field_at bytes (5 + format.width) format.width)
      h.long h.lengths (omega (arith, h.is)) (omega arith)
      (read-3 (form_in format) bytes three-is) (size-3 (form_in format) bytes three-is) e

  pub three-good : AllBytes bytes → get_or bytes 4 0 ≡ 255 → 254 < field_at bytes (5 + format.width) format.width
      → offsets_good format.width n size bytes (5 + 2 * format.width) (field_at bytes (5 + format.width) format.width) ≡ true
      → Some (5 + 2 * format.width + format.width * field_at bytes (5 + format.width) format.width) ≡ good_size format n size bytes
  three-good b c m e =
      many-good format n size bytes (5 + 2 * format.width) (field_at bytes (5 + format.width) format.width)
      h.long h.lengths (omega (arith, h.is)) (omega arith)
      (read-3 (form_in format) bytes three-is) (size-3 (form_in format) bytes three-is)
      b h.prefix h.suffix (h.is ∙ sym (kind_3 (field_at bytes (5 + format.width) format.width) m)) (omega arith) e

-- ---- sizes in 64 bits

pub times-small : (w x : ℕ) → w ≤ 3 → w * x ≤ 3 * x
times-small w x h = mul-le-mul_right x h

pub field-small : (w x : ℕ) → w ≤ 3 → x < 256 ^ w → x < 16777216
field-small w x h l = omega (arith, pow-le-pow_right {n = 256} (omega arith) h)
