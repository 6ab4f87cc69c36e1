-- The row of one record. What is read through a part of the index is what the index has there, so each kind's row is a matter of
-- places; the record's size, known to be there, gives the room for every read. Assumes nothing.
use mathlib.Core.Path.{◌≡◌, refl, sym, ap, ap₂, ◌∙◌, subst}
use mathlib.Core.Logic.{◌≢◌, ◌⊎◌, inl, inr}
use mathlib.Core.Bool.{Bool, true, false, ◌&&◌, cond, and-true, and-false}
use mathlib.Core.List.{List, [], ◌∷◌}
use Prim.Native.Nat.{ℕ, zero, suc, ◌+◌, ◌-◌, ◌*◌, ◌/◌, ◌%◌, ◌≤◌, ◌<◌}
use native.Mathlib.Nat.{add-zero, zero-add, mul-suc}
use native.Mathlib.Omega.{arith}
use lib.Dec.{eqb}
use lib.ListN.{length, take, drop, get_or, length-drop}
use lib.Seq.{length-take-le, take-take, drop-drop, get_or-take, get_or-drop}
use Rattle.spec.specs.Bytes.{part, le_value, field_at, fields_of, begins}
use Rattle.spec.specs.Form.{Form}
use Rattle.spec.specs.Records.{MatchRecord, empty_record, with_set, read_offsets, read_record, record_size}
use Rattle.spec.specs.Records.{set_is_next, record_is_next, record_taken, set_taken, read_set, read_keyword}
use Rattle.spec.proofs.Tests.{le-or-lt, leb-true, leb-false, eqb_same, eqb-ne, cond-elim, bool_cases}
use Rattle.spec.proofs.Begins.{begins-short}
use Rattle.spec.proofs.RecordLaws.{bool-ext, eq_of}
use Rattle.spec.proofs.Splices.{drop-take}
use Rattle.spec.proofs.FieldLists.{length-fields_of}
use Rattle.loader.specs.Loaded.{behind_record, keyword_taken, Row, row_at, row_end, set_at}

-- ---- parts of a list

-- the part of a part
pub part-drop : (i n at : ℕ) (l : List ℕ) → i ≤ n → drop i (part l at n) ≡ part l (at + i) (n - i)
part-drop i n at l h =
    let e : n ≡ i + (n - i) = omega arith in
    ap (λ (m : ℕ). drop i (part l at m)) e ∙ drop-take i (n - i) (drop at l) ∙ ap (take (n - i)) (drop-drop i at l)

pub byte_at : (i n at : ℕ) (l : List ℕ) → i < n → get_or (part l at n) i 0 ≡ get_or l (at + i) 0
byte_at i n at l h = get_or-take n (drop at l) i 0 h ∙ get_or-drop at l i 0

pub field-at : (w i n at : ℕ) (l : List ℕ) → i + w ≤ n → field_at (part l at n) i w ≡ field_at l (at + i) w
field-at w i n at l h = ap le_value (ap (take w) (part-drop i n at l (omega arith)) ∙ take-take w (n - i) (drop (at + i) l) (omega arith))

fields-take : (w c n : ℕ) (l : List ℕ) → w * c ≤ n → fields_of w c (take n l) ≡ fields_of w c l
unfolding fields_of
fields-take w zero n l h = refl
fields-take w (suc c) n l h =
    let m : w * suc c ≡ w + w * c = mul-suc w c ∙ omega arith in
    let e : n ≡ w + (n - w) = omega arith in
    let q : w * c ≤ n - w = omega arith in
    let d : drop w (take n l) ≡ take (n - w) (drop w l) = ap (λ (m : ℕ). drop w (take m l)) e ∙ drop-take w (n - w) l in
    rw (take-take w n l (omega arith), d, fields-take w c (n - w) (drop w l) q)

pub fields_at : (w c i n at : ℕ) (l : List ℕ) → i + w * c ≤ n → fields_of w c (drop i (part l at n)) ≡ fields_of w c (drop (at + i) l)
fields_at w c i n at l h = ap (fields_of w c) (part-drop i n at l (omega arith)) ∙ fields-take w c (n - i) (drop (at + i) l) (omega arith)

-- ---- a record by its kind

module _ (f : Form) (bytes : List ℕ) where
  abbrev kind : ℕ
  kind = get_or bytes 1 0

  pub size-least : 3 ≤ record_size f bytes
  unfolding record_size
  size-least =
      cond-elim (λ (n : ℕ). 3 ≤ n) (eqb kind 0) _ _ (λ _. omega arith)
      (λ _. cond-elim (λ (n : ℕ). 3 ≤ n) (eqb kind 1) _ _ (λ _. omega arith)
      (λ _. cond-elim (λ (n : ℕ). 3 ≤ n) (eqb kind 2) _ _ (λ _. omega arith) (λ _. omega arith)))

  pub size-full : kind ≢ 0 → 5 + f.width ≤ record_size f bytes
  unfolding record_size
  size-full h =
      rw (eqb-ne kind 0 h)
      (cond-elim (λ (n : ℕ). 5 + f.width ≤ n) (eqb kind 1) _ _ (λ _. omega arith)
      (λ _. cond-elim (λ (n : ℕ). 5 + f.width ≤ n) (eqb kind 2) _ _ (λ _. omega arith) (λ _. omega arith)))

  size-tiny : kind ≡ 0 → record_size f bytes ≡ 3
  unfolding record_size
  size-tiny e = rw e

  size-one : kind ≡ 1 → record_size f bytes ≡ 5 + f.width
  unfolding record_size
  size-one e = rw e

  size-two : kind ≡ 2 → record_size f bytes ≡ 5 + f.width + f.width * get_or bytes 4 0
  unfolding record_size
  size-two e = rw e

  pub size-three : kind ≢ 0 → kind ≢ 1 → kind ≢ 2 → record_size f bytes ≡ 5 + 2 * f.width + f.width * field_at bytes (5 + f.width) f.width
  unfolding record_size
  size-three h i j = rw (eqb-ne kind 0 h, eqb-ne kind 1 i, eqb-ne kind 2 j)

  read-tiny : kind ≡ 0 → read_record f bytes ≡ record { prefix = get_or bytes 2 0 % f.tiny_step; suffix = get_or bytes 2 0 / f.tiny_step; offsets = []; inner = 0 }
  unfolding read_record
  read-tiny e = rw e

  read-full : kind ≢ 0 → read_record f bytes ≡ record { prefix = get_or bytes 2 0; suffix = get_or bytes 3 0; offsets = read_offsets f bytes; inner = 0 }
  unfolding read_record
  read-full h = rw (eqb-ne kind 0 h)

  offsets-none : kind ≡ 1 → get_or bytes 4 0 ≡ 0 → read_offsets f bytes ≡ []
  unfolding read_offsets
  offsets-none e z = rw (e, z)

  offsets-one : kind ≡ 1 → get_or bytes 4 0 ≢ 0 → read_offsets f bytes ≡ field_at bytes 5 f.width ∷ []
  unfolding read_offsets
  offsets-one e h = rw (e, eqb-ne (get_or bytes 4 0) 0 h)

  offsets-two : kind ≡ 2 → read_offsets f bytes ≡ fields_of f.width (get_or bytes 4 0) (drop (5 + f.width) bytes)
  unfolding read_offsets
  offsets-two e = rw e

  offsets-three : kind ≢ 0 → kind ≢ 1 → kind ≢ 2
      → read_offsets f bytes ≡ fields_of f.width (field_at bytes (5 + f.width) f.width) (drop (5 + 2 * f.width) bytes)
  unfolding read_offsets
  offsets-three h i j = rw (eqb-ne kind 1 i, eqb-ne kind 2 j)

-- ---- its row

-- A row of a record that takes `size` bytes at `place`: the list's end is the record's.
pub record RowAt (index : List ℕ) (width place : ℕ) (row : List ℕ) (r : MatchRecord) (size : ℕ) : Type 0 where
  pub holds : Row index width row r
  pub ends : get_or row 2 0 + width * get_or row 3 0 ≡ place + size

-- four numbers are in one way such a row
pub row_is : {index : List ℕ} {width at a b c d size : ℕ} {r : MatchRecord} → RowAt index width at (a ∷ b ∷ c ∷ d ∷ []) r size → a ∷ b ∷ c ∷ d ∷ [] ≡ row_at width at size r
unfolding row_at
row_is {width = width} {at = at} {c = c} {d = d} {size = size} h =
    let e : c ≡ at + size - width * d = omega (arith, h.ends) in
    let p = e ∙ ap (λ (n : ℕ). at + size - width * n) h.holds.many in
    λ i. h.holds.prefix i ∷ h.holds.suffix i ∷ p i ∷ h.holds.many i ∷ []

-- what holds of the row as it stands holds of the row by its definition
row-so : {index : List ℕ} {width at a b c d size : ℕ} {r : MatchRecord} → RowAt index width at (a ∷ b ∷ c ∷ d ∷ []) r size
    → RowAt index width at (row_at width at size r) r size
row-so {index = index} {width = width} {at = at} {size = size} {r = r} h = subst (λ (row : List ℕ). RowAt index width at row r size) (row_is h) h

-- a row as it stands, of a record that the bytes say
module _ (f : Form) (index : List ℕ) (at len : ℕ) (inside : at + len ≤ length index) (whole : record_size f (part index at len) ≤ len) where
  abbrev bytes : List ℕ
  bytes = part index at len

  -- room for the reads
  pub room-least : at + 3 ≤ length index
  room-least = omega (arith, size-least f bytes)

  kind_at : get_or bytes 1 0 ≡ get_or index (at + 1) 0
  kind_at = byte_at 1 len at index (omega (arith, size-least f bytes))

  kind-not : (x : ℕ) → get_or index (at + 1) 0 ≢ x → get_or bytes 1 0 ≢ x
  kind-not x h e = h (sym kind_at ∙ e)

  pub room-full : get_or index (at + 1) 0 ≢ 0 → at + (5 + f.width) ≤ length index
  room-full h = omega (arith, size-full f bytes (kind-not 0 h))

  pub row-tiny : get_or index (at + 1) 0 ≡ 0
      → RowAt index f.width at ((get_or index (at + 2) 0 % f.tiny_step) ∷ (get_or index (at + 2) 0 / f.tiny_step) ∷ (at + 3) ∷ 0 ∷ []) (read_record f bytes) (record_size f bytes)
  unfolding fields_of
  row-tiny e =
      let z : get_or bytes 1 0 ≡ 0 = kind_at ∙ e in
      let b : get_or bytes 2 0 ≡ get_or index (at + 2) 0 = byte_at 2 len at index (omega (arith, size-least f bytes)) in
      let l : 3 ≤ len = omega (arith, size-least f bytes) in
      rw (read-tiny f bytes z, size-tiny f bytes z, b)
      (record { holds = record { prefix = refl; suffix = refl; offsets = refl; inside = omega arith; many = refl }; ends = omega arith })

  module _ (full : get_or index (at + 1) 0 ≢ 0) where
    -- a full record's row, once its list is found
    row-full : (place left : ℕ) → fields_of f.width left (drop place index) ≡ read_offsets f bytes → place + f.width * left ≡ at + record_size f bytes
        → RowAt index f.width at (get_or index (at + 2) 0 ∷ get_or index (at + 3) 0 ∷ place ∷ left ∷ []) (read_record f bytes) (record_size f bytes)
    row-full place left o e =
        let l : 5 ≤ len = omega (arith, size-full f bytes (kind-not 0 full)) in
        rw (read-full f bytes (kind-not 0 full))
        (record {
          holds = record {
            prefix = sym (byte_at 2 len at index (omega arith));
            suffix = sym (byte_at 3 len at index (omega arith));
            offsets = o;
            inside = omega arith;
            many = sym (length-fields_of f.width left (drop place index)) ∙ ap length o;
          };
          ends = e;
        })

    count_at : get_or bytes 4 0 ≡ get_or index (at + 4) 0
    count_at = byte_at 4 len at index (omega (arith, size-full f bytes (kind-not 0 full)))

    pub row-none : get_or index (at + 1) 0 ≡ 1 → get_or index (at + 4) 0 ≡ 0
        → RowAt index f.width at (get_or index (at + 2) 0 ∷ get_or index (at + 3) 0 ∷ (at + (5 + f.width)) ∷ 0 ∷ []) (read_record f bytes) (record_size f bytes)
    unfolding fields_of
    row-none e z =
        row-full (at + (5 + f.width)) 0 (sym (offsets-none f bytes (kind_at ∙ e) (count_at ∙ z))) (omega (arith, size-one f bytes (kind_at ∙ e)))

    pub row_one : get_or index (at + 1) 0 ≡ 1 → get_or index (at + 4) 0 ≢ 0
        → RowAt index f.width at (get_or index (at + 2) 0 ∷ get_or index (at + 3) 0 ∷ (at + 5) ∷ 1 ∷ []) (read_record f bytes) (record_size f bytes)
    unfolding fields_of
    row_one e h =
        let s = size-one f bytes (kind_at ∙ e) in
        row-full (at + 5) 1
        (ap {B = List ℕ} (λ x. x ∷ []) (sym (field-at f.width 5 len at index (omega arith))) ∙ sym (offsets-one f bytes (kind_at ∙ e) (λ z. h (sym count_at ∙ z))))
        (omega arith)

    pub row-two : get_or index (at + 1) 0 ≡ 2
        → RowAt index f.width at (get_or index (at + 2) 0 ∷ get_or index (at + 3) 0 ∷ (at + (5 + f.width)) ∷ get_or index (at + 4) 0 ∷ []) (read_record f bytes) (record_size f bytes)
    row-two e =
        let s : record_size f bytes ≡ 5 + f.width + f.width * get_or index (at + 4) 0 = size-two f bytes (kind_at ∙ e) ∙ ap (λ (c : ℕ). 5 + f.width + f.width * c) count_at in
        let o : read_offsets f bytes ≡ fields_of f.width (get_or index (at + 4) 0) (drop (5 + f.width) bytes) =
        offsets-two f bytes (kind_at ∙ e) ∙ ap (λ (c : ℕ). fields_of f.width c (drop (5 + f.width) bytes)) count_at in
        row-full (at + (5 + f.width)) (get_or index (at + 4) 0)
        (sym (o ∙ fields_at f.width (get_or index (at + 4) 0) (5 + f.width) len at index (omega arith)))
        (omega arith)

    module _ (not-one : get_or index (at + 1) 0 ≢ 1) (not-two : get_or index (at + 1) 0 ≢ 2) where
      size_exact : record_size f bytes ≡ 5 + 2 * f.width + f.width * field_at bytes (5 + f.width) f.width
      size_exact = size-three f bytes (kind-not 0 full) (kind-not 1 not-one) (kind-not 2 not-two)

      pub room-exact : at + (5 + f.width) + f.width ≤ length index
      room-exact = omega (arith, size_exact)

      exact-at : field_at bytes (5 + f.width) f.width ≡ field_at index (at + (5 + f.width)) f.width
      exact-at = field-at f.width (5 + f.width) len at index (omega (arith, size_exact))

      pub row-three : (exact : ℕ) → exact ≡ field_at index (at + (5 + f.width)) f.width
          → RowAt index f.width at (get_or index (at + 2) 0 ∷ get_or index (at + 3) 0 ∷ (at + (5 + 2 * f.width)) ∷ exact ∷ []) (read_record f bytes) (record_size f bytes)
      row-three exact x =
          let q : field_at bytes (5 + f.width) f.width ≡ exact = exact-at ∙ sym x in
          let s : record_size f bytes ≡ 5 + 2 * f.width + f.width * exact = size_exact ∙ ap (λ (c : ℕ). 5 + 2 * f.width + f.width * c) q in
          let o : read_offsets f bytes ≡ fields_of f.width exact (drop (5 + 2 * f.width) bytes) =
          offsets-three f bytes (kind-not 0 full) (kind-not 1 not-one) (kind-not 2 not-two) ∙ ap (λ (c : ℕ). fields_of f.width c (drop (5 + 2 * f.width) bytes)) q in
          row-full (at + (5 + 2 * f.width)) exact (sym (o ∙ fields_at f.width exact (5 + 2 * f.width) len at index (omega arith))) (omega arith)

  -- THE ROW OF A RECORD holds it
  pub row-holds : RowAt index f.width at (row_at f.width at (record_size f bytes) (read_record f bytes)) (read_record f bytes) (record_size f bytes)
  row-holds = go (get_or index (at + 1) 0) refl (get_or index (at + 4) 0) refl
    where
      go : (kind : ℕ) → get_or index (at + 1) 0 ≡ kind → (count : ℕ) → get_or index (at + 4) 0 ≡ count
          → RowAt index f.width at (row_at f.width at (record_size f bytes) (read_record f bytes)) (read_record f bytes) (record_size f bytes)
      go zero e count z = row-so (row-tiny e)
      go (suc zero) e zero z = row-so (row-none (λ q. omega arith) e z)
      go (suc zero) e (suc count) z = row-so (row_one (λ q. omega arith) e (λ q. omega arith))
      go (suc (suc zero)) e count z = row-so (row-two (λ q. omega arith) e)
      go (suc (suc (suc n))) e count z = row-so (row-three (λ q. omega arith) (λ q. omega arith) (λ q. omega arith) _ refl)

-- ---- the next keyword

module _ (index : List ℕ) (at len : ℕ) (inside : at + len ≤ length index) where
  part_length : length (part index at len) ≡ len
  part_length = length-take-le len (drop at index) (rw length-drop (omega arith))

  first_byte : 0 < len → get_or (part index at len) 0 0 ≡ get_or index at 0
  first_byte h = byte_at 0 len at index h ∙ ap (λ (i : ℕ). get_or index i 0) (add-zero at)

  -- its number, and its number and kind
  begins-at : (k : ℕ) → 0 < len → begins (k ∷ []) (part index at len) ≡ eqb k (get_or index at 0)
  begins-at k h = go (part index at len) (first_byte h) (omega (arith, part_length))
    where
      go : (l : List ℕ) → get_or l 0 0 ≡ get_or index at 0 → 0 < length l → begins (k ∷ []) l ≡ eqb k (get_or index at 0)
      go [] e p = let z : ⊥ = omega arith in absurd z
      go (x ∷ l) e p = rw e (and-true (eqb k (get_or index at 0)))

  begins-two : (k kind : ℕ) → 1 < len → begins (k ∷ kind ∷ []) (part index at len) ≡ (eqb k (get_or index at 0) && eqb kind (get_or index (at + 1) 0))
  begins-two k kind h = go (part index at len) (first_byte (omega arith)) (byte_at 1 len at index h) (omega (arith, part_length))
    where
      go : (l : List ℕ) → get_or l 0 0 ≡ get_or index at 0 → get_or l 1 0 ≡ get_or index (at + 1) 0 → 1 < length l
          → begins (k ∷ kind ∷ []) l ≡ (eqb k (get_or index at 0) && eqb kind (get_or index (at + 1) 0))
      go [] e d p = let z : ⊥ = omega arith in absurd z
      go (x ∷ []) e d p = let z : ⊥ = omega arith in absurd z
      go (x ∷ y ∷ l) e d p = rw (e, d, and-true)

  short-two : (k kind : ℕ) → len < 2 → begins (k ∷ kind ∷ []) (part index at len) ≡ false
  short-two k kind h = begins-short (k ∷ kind ∷ []) (part index at len) (omega (arith, part_length))

-- what tells that its set is next
module _ (f : Form) (index : List ℕ) (at len k : ℕ) (inside : at + len ≤ length index) where
  pub no-sets : f.sets ≡ false → false ≡ set_is_next f k (part index at len)
  no-sets e = ap (λ (b : Bool). b && begins (k ∷ 4 ∷ []) (part index at len)) (sym e)

  no-begins : begins (k ∷ 4 ∷ []) (part index at len) ≡ false → false ≡ set_is_next f k (part index at len)
  no-begins e = rw e (sym (and-false f.sets))

  pub too_short : len < 2 → false ≡ set_is_next f k (part index at len)
  too_short h = no-begins (short-two index at len inside k 4 h)

  pub other-number : 2 ≤ len → get_or index at 0 ≢ k → false ≡ set_is_next f k (part index at len)
  other-number h n = no-begins (rw (begins-two index at len inside k 4 h, eqb-ne k (get_or index at 0) (λ e. n (sym e))))

  pub other-kind : 2 ≤ len → get_or index (at + 1) 0 ≢ 4 → false ≡ set_is_next f k (part index at len)
  other-kind h n =
      no-begins (rw (begins-two index at len inside k 4 h, eqb-ne 4 (get_or index (at + 1) 0) (λ e. n (sym e))) (and-false (eqb k (get_or index at 0))))

  pub its-kind : f.sets ≡ true → 2 ≤ len → get_or index at 0 ≡ k → eqb (get_or index (at + 1) 0) 4 ≡ set_is_next f k (part index at len)
  its-kind e h n = sym two ∙ ap (λ (b : Bool). b && begins (k ∷ 4 ∷ []) (part index at len)) (sym e)
    where
      turned : (a b : ℕ) → eqb a b ≡ eqb b a
      turned a b = bool-ext (eqb a b) (eqb b a) (λ e. let z : a ≡ b = eq_of a b e in rw z (eqb_same b)) (λ e. let z : b ≡ a = eq_of b a e in rw z (eqb_same a))

      two : begins (k ∷ 4 ∷ []) (part index at len) ≡ eqb (get_or index (at + 1) 0) 4
      two = rw (begins-two index at len inside k 4 h, n, eqb_same k) (turned 4 (get_or index (at + 1) 0))

-- what it takes and says
module _ (f : Form) (k : ℕ) (bytes : List ℕ) where
  pub set-taken : set_is_next f k bytes ≡ true → set_taken f k bytes ≡ 6
  unfolding set_taken
  set-taken q = rw q

  pub no-set-taken : set_is_next f k bytes ≡ false → set_taken f k bytes ≡ 0
  unfolding set_taken
  no-set-taken q = rw q

  pub set-read : set_is_next f k bytes ≡ true → read_set f k bytes ≡ field_at bytes 2 4
  unfolding read_set
  set-read q = rw q

  pub no-set-read : set_is_next f k bytes ≡ false → read_set f k bytes ≡ 0
  unfolding read_set
  no-set-read q = rw q

  record-taken : record_is_next f k bytes ≡ true → record_taken f k bytes ≡ record_size f bytes
  unfolding record_taken
  record-taken q = rw q

  no-record-taken : record_is_next f k bytes ≡ false → record_taken f k bytes ≡ 0
  unfolding record_taken
  no-record-taken q = rw q

  keyword-read : record_is_next f k bytes ≡ true → read_keyword f k bytes ≡ with_set (read_record f bytes) (read_set f k (behind_record f k bytes))
  unfolding read_keyword
  keyword-read q = ap (λ (b : Bool). with_set (cond b (read_record f bytes) empty_record) (read_set f k (behind_record f k bytes))) q

  no-keyword-read : record_is_next f k bytes ≡ false → read_keyword f k bytes ≡ with_set empty_record (read_set f k (behind_record f k bytes))
  unfolding read_keyword
  no-keyword-read q = ap (λ (b : Bool). with_set (cond b (read_record f bytes) empty_record) (read_set f k (behind_record f k bytes))) q

-- its number is not next, so nothing of it is
module _ (f : Form) (k : ℕ) where
  other-set : (bytes : List ℕ) → begins (k ∷ []) bytes ≡ false → set_is_next f k bytes ≡ false
  other-set [] e = and-false f.sets
  other-set (b ∷ bytes) e = let z : eqb k b ≡ false = sym (and-true (eqb k b)) ∙ e in rw (z, and-false)

  other-record : (bytes : List ℕ) → begins (k ∷ []) bytes ≡ false → record_is_next f k bytes ≡ false
  other-record bytes e = rw (e, and-false)

  other-taken : (bytes : List ℕ) → begins (k ∷ []) bytes ≡ false → keyword_taken f k bytes ≡ 0
  other-taken bytes e =
      ap (λ (n : ℕ). n + set_taken f k (drop n bytes)) (no-record-taken f k bytes (other-record bytes e))
      ∙ zero-add (set_taken f k bytes) ∙ no-set-taken f k bytes (other-set bytes e)

-- ---- its row

-- a row says nothing of the set
with-set : {index row : List ℕ} {width at size set : ℕ} {r : MatchRecord} → RowAt index width at row r size → RowAt index width at row (with_set r set) size
with-set h = record {
  holds = record {
    prefix = h.holds.prefix;
    suffix = h.holds.suffix;
    offsets = h.holds.offsets;
    inside = h.holds.inside;
    many = h.holds.many;
  };
  ends = h.ends;
}

module _ (f : Form) (index : List ℕ) (at len k : ℕ) (inside : at + len ≤ length index) where
  abbrev here : List ℕ
  here = part index at len

  -- the row where its record is not next
  row-absent : record_is_next f k here ≡ false → RowAt index f.width at (0 ∷ 0 ∷ at ∷ 0 ∷ []) (read_keyword f k here) (record_taken f k here)
  unfolding fields_of
  row-absent e =
      rw (no-keyword-read f k here e, no-record-taken f k here e)
      (record { holds = record { prefix = refl; suffix = refl; offsets = refl; inside = omega arith; many = refl }; ends = omega arith })

  pub row-set : set_is_next f k here ≡ true → RowAt index f.width at (0 ∷ 0 ∷ at ∷ 0 ∷ []) (read_keyword f k here) (record_taken f k here)
  row-set q = row-absent (rw q)

  -- a step where its number is not next: none is left, or another's is next
  other-here : (len ≡ 0) ⊎ ((0 < len) × (get_or index at 0 ≢ k)) → begins (k ∷ []) here ≡ false
  other-here (inl z) = rw z
  other-here (inr (h, n)) = begins-at index at len inside k h ∙ eqb-ne k (get_or index at 0) (λ e. n (sym e))

  pub step_other : (len ≡ 0) ⊎ ((0 < len) × (get_or index at 0 ≢ k))
      → (0 ∷ 0 ∷ at ∷ 0 ∷ [] ≡ row_at f.width at (record_taken f k here) (read_keyword f k here)) × (at ≡ at + keyword_taken f k here)
  step_other o = (row_is (row-absent (other-record f k here (other-here o))), omega (arith, other-taken f k here (other-here o)))

  -- its number is next, and what it takes is there: a set alone, or a record
  module _ (room : keyword_taken f k here ≤ len) (nonempty : 0 < len) (first : get_or index at 0 ≡ k) where
    next_here : set_is_next f k here ≡ false → record_is_next f k here ≡ true
    next_here q = rw q (begins-at index at len inside k nonempty ∙ rw first (eqb_same k))

    size-here : set_is_next f k here ≡ false → record_taken f k here ≡ record_size f here
    size-here q = record-taken f k here (next_here q)

    pub whole_here : set_is_next f k here ≡ false → record_size f here ≤ len
    whole_here q = omega (arith, room, size-here q)

    alone-room : set_is_next f k here ≡ true → 6 ≤ len
    alone-room q =
        let e : keyword_taken f k here ≡ set_taken f k here =
        ap (λ (n : ℕ). n + set_taken f k (drop n here)) (no-record-taken f k here (rw q)) ∙ zero-add (set_taken f k here) in
        omega (arith, room, e, set-taken f k here q)

    -- room for the reads before it is known which
    pub head-least : at + 3 ≤ length index
    head-least = go (bool_cases (set_is_next f k here))
      where
        go : (set_is_next f k here ≡ true) ⊎ (set_is_next f k here ≡ false) → at + 3 ≤ length index
        go (inl q) = omega (arith, inside, alone-room q)
        go (inr q) = room-least f index at len inside (whole_here q)

    pub head-full : get_or index (at + 1) 0 ≢ 0 → at + 5 ≤ length index
    head-full h = go (bool_cases (set_is_next f k here))
      where
        go : (set_is_next f k here ≡ true) ⊎ (set_is_next f k here ≡ false) → at + 5 ≤ length index
        go (inl q) = omega (arith, inside, alone-room q)
        go (inr q) = omega (arith, room-full f index at len inside (whole_here q) h)

    -- another kind than a set's is a record's
    pub not_set : get_or index (at + 1) 0 ≢ 4 → set_is_next f k here ≡ false
    not_set h = go (le-or-lt 2 len)
      where
        go : (2 ≤ len) ⊎ (len < 2) → set_is_next f k here ≡ false
        go (inl l) = sym (other-kind f index at len k inside l h)
        go (inr s) = sym (too_short f index at len k inside s)

    pub row_here : (q : set_is_next f k here ≡ false) {a b c d : ℕ} → RowAt index f.width at (a ∷ b ∷ c ∷ d ∷ []) (read_record f here) (record_size f here)
        → a ∷ b ∷ c ∷ d ∷ [] ≡ row_at f.width at (record_taken f k here) (read_keyword f k here)
    unfolding row_at
    row_here q h = rw (keyword-read f k here (next_here q), size-here q) (row_is h)

    -- a record that lies whole in the body has its row
    pub record-row : set_is_next f k here ≡ false → {a b c d : ℕ}
        → (record_size f here ≤ len → RowAt index f.width at (a ∷ b ∷ c ∷ d ∷ []) (read_record f here) (record_size f here))
        → a ∷ b ∷ c ∷ d ∷ [] ≡ row_at f.width at (record_taken f k here) (read_keyword f k here)
    record-row q h = row_here q (h (whole_here q))

    -- and the place of its exact count is in the index
    pub exact-room : set_is_next f k here ≡ false → 3 ≤ get_or index (at + 1) 0 → at + (5 + f.width) + f.width ≤ length index
    exact-room q h = room-exact f index at len inside (whole_here q) (λ z. omega arith) (λ z. omega arith) (λ z. omega arith)

  -- THE ROW OF THE NEXT KEYWORD holds its record
  pub next-holds : record_taken f k here ≤ len
      → RowAt index f.width at (row_at f.width at (record_taken f k here) (read_keyword f k here)) (read_keyword f k here) (record_taken f k here)
  unfolding row_at
  next-holds h = go (bool_cases (record_is_next f k here))
    where
      go : (record_is_next f k here ≡ true) ⊎ (record_is_next f k here ≡ false)
          → RowAt index f.width at (row_at f.width at (record_taken f k here) (read_keyword f k here)) (read_keyword f k here) (record_taken f k here)
      go (inl e) = rw (keyword-read f k here e, record-taken f k here e) (with-set (row-holds f index at len inside (rw (record-taken f k here e) at h)))
      go (inr e) = row-so (row-absent e)

  -- THE STEP behind its row, whose list ends where the record does
  module _ (row : List ℕ) (r : row ≡ row_at f.width at (record_taken f k here) (read_keyword f k here)) where
    pub row_ends : record_taken f k here ≤ len → row_end f.width row ≡ at + record_taken f k here
    row_ends h = rw r (next-holds h).ends

    module _ (room : keyword_taken f k here ≤ len) where
      ends : row_end f.width row ≡ at + record_taken f k here
      ends = row_ends (omega (arith, room))

      pub end-room : row_end f.width row ≤ at + len
      end-room = omega (arith, ends, room)

      pub behind-row : part index (row_end f.width row) (at + len - row_end f.width row) ≡ behind_record f k here
      behind-row =
          let n : at + len - row_end f.width row ≡ len - record_taken f k here = omega (arith, ends) in
          ap₂ (part index) ends n ∙ sym (part-drop (record_taken f k here) len at index (omega (arith, room)))

      pub step-next : row_end f.width row + set_taken f k (part index (row_end f.width row) (at + len - row_end f.width row))
          ≡ at + keyword_taken f k here
      step-next = omega (arith, ends, ap (set_taken f k) behind-row)

-- where a set ends that may be next
module _ (f : Form) (index : List ℕ) (at len k : ℕ) (inside : at + len ≤ length index) where
  pub end-set : set_is_next f k (part index at len) ≡ true → at + 6 ≡ at + set_taken f k (part index at len)
  end-set q = omega (arith, set-taken f k (part index at len) q)

  pub end_none : set_is_next f k (part index at len) ≡ false → at ≡ at + set_taken f k (part index at len)
  end_none q = omega (arith, no-set-taken f k (part index at len) q)

  pub end-other : (len ≡ 0) ⊎ ((0 < len) × (get_or index at 0 ≢ k)) → at ≡ at + set_taken f k (part index at len)
  end-other o = end_none (other-set f k (part index at len) (other-here f index at len k inside o))

-- ---- the set behind a row

module _ (f : Form) (index : List ℕ) (end : ℕ) (row : List ℕ) (k : ℕ) where
  abbrev from : ℕ
  from = row_end f.width row

  abbrev left : ℕ
  left = end - from

  pub set-short : left < 6 → 0 ≡ set_at f index end row k
  unfolding set_at
  set-short h = rw (leb-false 6 left h)

  set-whole : 6 ≤ left → set_at f index end row k ≡ read_set f k (part index from left)
  unfolding set_at
  set-whole h = rw (leb-true 6 left h)

  pub set_here : 6 ≤ left → set_is_next f k (part index from left) ≡ true → field_at index (from + 2) 4 ≡ set_at f index end row k
  set_here h q = sym (set-whole h ∙ set-read f k (part index from left) q ∙ field-at 4 2 left from index h)

  pub set-absent : 6 ≤ left → set_is_next f k (part index from left) ≡ false → 0 ≡ set_at f index end row k
  set-absent h q = sym (set-whole h ∙ no-set-read f k (part index from left) q)

  -- a set that is whole where it is next is what is read there
  pub set-fits : set_taken f k (part index from left) ≤ left → set_at f index end row k ≡ read_set f k (part index from left)
  set-fits h = go (le-or-lt 6 left) (bool_cases (set_is_next f k (part index from left)))
    where
      go : (6 ≤ left) ⊎ (left < 6) → (set_is_next f k (part index from left) ≡ true) ⊎ (set_is_next f k (part index from left) ≡ false)
          → set_at f index end row k ≡ read_set f k (part index from left)
      go (inl l) _ = set-whole l
      go (inr s) (inl q) = let z : ⊥ = omega (arith, set-taken f k (part index from left) q) in absurd z
      go (inr s) (inr q) = sym (set-short s) ∙ sym (no-set-read f k (part index from left) q)
