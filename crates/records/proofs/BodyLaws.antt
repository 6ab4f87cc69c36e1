-- Laws of bodies: a record and its set are what stands before its list and the list; what is left of a body from keyword k on; how long it can be.
-- Assumes nothing.
use mathlib.Core.Path.{◌≡◌, refl, sym, ap, ◌∙◌}
use mathlib.Core.Logic.{◌⊎◌, inl, inr, ⊎_elim}
use mathlib.Core.Bool.{Bool, true, false, cond, not, ◌&&◌}
use mathlib.Core.List.{List, [], ◌∷◌, ◌++◌, map, append_assoc, append-nil}
use Prim.Native.Nat.{ℕ, zero, suc, ◌+◌, ◌*◌, ◌-◌, ◌≤◌, ◌<◌}
use native.Mathlib.Nat.{add-sub_cancel_left, suc-mul, mul-le-mul_right}
use native.Mathlib.Numerals.{add-one}
use native.Mathlib.Omega.{arith}
use lib.ListN.{length, take, drop, get_or, length-append, length-take, length-drop, drop_of_length-le}
use lib.Seq.{drop-cons}
use lib.Dec.{eqb, leb}
use Rattle.spec.specs.Bytes.{le_bytes}
use Rattle.spec.specs.Join.{keyword_at}
use Rattle.spec.specs.Keywords.{folded, folded_keywords, keywords_of, flag_of, keyword_front_code}
use Rattle.spec.specs.Form.{Form, newest}
use Rattle.spec.specs.Records.{MatchRecord, record_of, records_of, is_empty, is_tiny, head_bytes, full_bytes, offsets_bytes, record_bytes, set_bytes, body_from, reach}
use Rattle.spec.specs.Scan.{scan_records, scan_body}
use Rattle.spec.proofs.Tests.{le-or-lt, leb-true, leb-false, and_left, and_right}
use Rattle.spec.proofs.Folding.{folded-length}
use Rattle.spec.proofs.FieldLists.{length-fields_bytes}
use Rattle.spec.proofs.RecordLaws.{eq_of, prefix-in, suffix-in, offsets-rise, offsets-in, offsets-count, set-empty}
use Rattle.spec.proofs.RecordRanges.{record-in-range, set-in-range}
use Rattle.spec.proofs.KeywordLaws.{accepted, folded-count, folded-keyword}
use Rattle.keywords.specs.declared.Keywords.{Keywords}
use Rattle.keywords.specs.Parsed.{parsed_of, Reads, Placed, Parsed}
use Rattle.keywords.proofs.Reading.{parsed}
use Rattle.records.specs.declared.Summary.{Summary}
use Rattle.records.specs.Summaries.{summary_of, empty_in, tiny_in, tiny_part, head_part, record_part, start_bytes, list_bytes, listed}
use Rattle.records.specs.Bodies.{found_at, start_of, list_of}
use Rattle.records.proofs.SetLaws.{start_most, start-most, any-length, set-or-offsets}

-- ---- a record and its set in two parts

module _ (f : Form) where
  -- none is listed
  list-none : (offsets : List ℕ) → length offsets ≤ 1 → list_bytes f offsets ≡ []
  unfolding list_bytes
  list-none offsets h = rw (leb-true (length offsets) 1 h)

  pub list_length : (offsets : List ℕ) → length (list_bytes f offsets) ≡ f.width * listed (length offsets)
  unfolding list_bytes listed
  list_length offsets = ⊎_elim
      (λ h. rw (leb-true (length offsets) 1 h) (omega arith))
      (λ h. rw (leb-false (length offsets) 1 h) (length-fields_bytes f.width offsets))
      (le-or-lt (length offsets) 1)

  offsets-split : (offsets : List ℕ) → offsets_bytes f offsets ≡ cond (leb (length offsets) 254) [] (le_bytes f.width (length offsets)) ++ list_bytes f offsets
  unfolding offsets_bytes list_bytes
  offsets-split offsets = ⊎_elim
      (λ h. rw (leb-true (length offsets) 1 h, leb-true (length offsets) 254 (omega arith)))
      (λ h. rw (leb-false (length offsets) 1 h))
      (le-or-lt (length offsets) 1)

  full-split : (k : ℕ) (m : MatchRecord) → let s = summary_of m in
      full_bytes f k m ≡ head_part f k s ++ cond (leb s.count 254) [] (le_bytes f.width s.count) ++ list_bytes f m.offsets
  unfolding full_bytes head_bytes head_part summary_of
  full-split k m =
      ap (λ (x : List ℕ). head_part f k (summary_of m) ++ x) (offsets-split m.offsets)
      ∙ sym (append_assoc (head_part f k (summary_of m)) (cond (leb (length m.offsets) 254) [] (le_bytes f.width (length m.offsets)))
      (list_bytes f m.offsets))

  record-split : (n k : ℕ) (m : MatchRecord) → record_bytes f n k m ≡ record_part f n k (summary_of m) ++ list_bytes f m.offsets
  unfolding record_bytes record_part summary_of empty_in tiny_in tiny_part
  record-split n k m = go (is_empty m) (is_tiny f n m) refl refl
    where
      go : (e t : Bool) → is_empty m ≡ e → is_tiny f n m ≡ t
          → cond e [] (cond t (k ∷ 0 ∷ (m.prefix + f.tiny_step * m.suffix) ∷ []) (full_bytes f k m))
          ≡ cond e [] (cond t (k ∷ 0 ∷ (m.prefix + f.tiny_step * m.suffix) ∷ [])
          (head_part f k (summary_of m) ++ cond (leb (length m.offsets) 254) [] (le_bytes f.width (length m.offsets))))
          ++ list_bytes f m.offsets
      go true t p q = sym (list-none m.offsets (omega (
        arith,
        eq_of (length m.offsets) 0
            (and_right (eqb m.prefix 0 && eqb m.suffix 0) (eqb (length m.offsets) 0) p),
      )))
      go false true p q = sym (ap (λ (x : List ℕ). (k ∷ 0 ∷ (m.prefix + f.tiny_step * m.suffix) ∷ []) ++ x) (list-none m.offsets (omega (arith, no)))
          ∙ append-nil _)
        where
          no : length m.offsets ≡ 0
          no = eq_of (length m.offsets) 0 (and_left (eqb (length m.offsets) 0) (leb m.prefix (f.tiny_most n))
              (and_left (eqb (length m.offsets) 0 && leb m.prefix (f.tiny_most n)) (leb m.suffix (f.tiny_most n))
              (and_left (eqb (length m.offsets) 0 && leb m.prefix (f.tiny_most n) && leb m.suffix (f.tiny_most n)) (not (is_empty m)) q)))
      go false false p q = full-split k m

  -- the set stands behind the list, and before it: one of the two is empty
  set_split : (n k : ℕ) (m : MatchRecord) → (m.inner ≡ 0) ⊎ (m.offsets ≡ [])
      → record_bytes f n k m ++ set_bytes k m.inner ≡ start_bytes f n k (summary_of m) ++ list_bytes f m.offsets
  unfolding start_bytes summary_of
  set_split n k m (inl e) =
      let z : set_bytes k m.inner ≡ [] = set-empty k m.inner e in
      rw (z, append-nil, append-nil) (record-split n k m)
  set_split n k m (inr e) =
      let z : list_bytes f m.offsets ≡ [] = list-none m.offsets (omega (arith, ap length e)) in
      let r : List ℕ = record_part f n k (summary_of m) in
      let whole : record_bytes f n k m ≡ r = record-split n k m ∙ ap (λ (x : List ℕ). r ++ x) z ∙ append-nil r in
      ap (λ (x : List ℕ). x ++ set_bytes k m.inner) whole
      ∙ sym (ap (λ (x : List ℕ). r ++ set_bytes k m.inner ++ x) z ∙ append-nil (r ++ set_bytes k m.inner))

-- ---- what is left of a body

module _ (list chunk : List ℕ) where
  -- from keyword k on
  abbrev pub body_rest : ℕ → List ℕ
  body_rest k =
      body_from newest k (map length (drop k (folded_keywords list)))
      (map (λ keyword. record_of newest keyword (folded (flag_of list) chunk)) (drop k (folded_keywords list)))

  pub rest-start : body_rest 0 ≡ scan_body newest list chunk
  unfolding scan_body scan_records records_of
  rest-start = refl

  rest-record : (k : ℕ) → k < length (folded_keywords list)
      → body_rest k
      ≡ record_bytes newest (length (keyword_at (folded_keywords list) k)) k (found_at list chunk k)
      ++ (set_bytes k (found_at list chunk k).inner ++ body_rest (k + 1))
  unfolding body_from found_at
  rest-record k h = rw (add-one, drop-cons (folded_keywords list) k [] h)

  found-apart : (k : ℕ) → ((found_at list chunk k).inner ≡ 0) ⊎ ((found_at list chunk k).offsets ≡ [])
  unfolding found_at
  found-apart k =
      let w : List ℕ = keyword_at (folded_keywords list) k in
      let c : List ℕ = folded (flag_of list) chunk in
      set-or-offsets newest (length w) (length c) (record_of newest w c) (record-in-range newest w c) (set-in-range newest w c)

  pub rest-step : (k : ℕ) → k < length (folded_keywords list) → body_rest k ≡ start_of list chunk k ++ list_of list chunk k ++ body_rest (k + 1)
  rest-step k h =
      let n : ℕ = length (keyword_at (folded_keywords list) k) in
      let m : MatchRecord = found_at list chunk k in
      rest-record k h
      ∙ sym (append_assoc (record_bytes newest n k m) (set_bytes k m.inner) (body_rest (k + 1)))
      ∙ ap (λ (x : List ℕ). x ++ body_rest (k + 1)) (set_split newest n k m (found-apart k))

  pub rest-lengths : (k : ℕ) → k < length (folded_keywords list)
      → length (body_rest k) ≡ length (start_of list chunk k) + length (list_of list chunk k) + length (body_rest (k + 1))
  rest-lengths k h =
      ap length (rest-step k h)
      ∙ length-append (start_of list chunk k ++ list_of list chunk k) (body_rest (k + 1))
      ∙ ap (λ (n : ℕ). n + length (body_rest (k + 1))) (length-append (start_of list chunk k) (list_of list chunk k))

  pub rest_end : (k : ℕ) → length (folded_keywords list) ≤ k → body_rest k ≡ []
  unfolding body_from
  rest_end k h = rw (drop_of_length-le (folded_keywords list) h)

-- ---- lengths

-- a record has an offset for each byte of the chunk at most
offsets-most : (keyword chunk : List ℕ) → 1 ≤ length keyword → length (record_of newest keyword chunk).offsets ≤ length chunk
offsets-most keyword chunk h =
    let r : MatchRecord = record_of newest keyword chunk in
    let g = record-in-range newest keyword chunk in
    offsets-count (length keyword) (length chunk) r.offsets h
    (offsets-rise (length keyword) (length chunk) r g) (offsets-in (length keyword) (length chunk) r g)

listed-most : (count : ℕ) → listed count ≤ count
unfolding listed
listed-most count = go (leb count 1)
  where
    go : (b : Bool) → cond b 0 count ≤ count
    go true = omega arith
    go false = omega arith

module _ (list : List ℕ) (words : Keywords) (r : Reads list words) where
  read : Parsed list words
  read = parsed list words r

  pub keywords-count : length (folded_keywords list) ≡ words.count
  keywords-count = folded-count list ∙ (accepted list r.accepted).count ∙ sym read.counts

  pub keywords-few : words.count ≤ 16
  keywords-few = read.few

  pub flag_is : words.flag ≡ flag_of list
  flag_is = read.flags

  pub starts : length words.start ≡ 16
  starts = read.starts

  pub lens : length words.len ≡ 16
  lens = read.lens

  module _ (k : ℕ) (h : k < words.count) where
    place : Placed list k (get_or words.start k 0) (get_or words.len k 0)
    place = read.placed k h

    pub within : get_or words.start k 0 + get_or words.len k 0 ≤ length list
    within = omega (arith, place.room, read.ends, read.room)

    -- the keyword as the code hands it on
    abbrev pub slice : List ℕ
    slice = take (get_or words.start k 0 + get_or words.len k 0 - get_or words.start k 0) (drop (get_or words.start k 0) list)

    pub slice_is : folded words.flag slice ≡ keyword_at (folded_keywords list) k
    slice_is =
        let w : slice ≡ get_or (keywords_of list) k [] = rw add-sub_cancel_left place.bytes in
        rw (w, flag_is) (sym (folded-keyword list k))

    slice-length : length slice ≡ get_or words.len k 0
    slice-length = simp (length-take, length-drop) (omega (arith, within))

    -- it has at most 32 bytes
    pub slice-most : length slice ≤ 32
    slice-most = omega (arith, slice-length, place.most)

    pub length-is : length (keyword_at (folded_keywords list) k) ≡ get_or words.len k 0
    length-is = ap length (sym slice_is) ∙ folded-length words.flag slice ∙ slice-length

    pub length_some : 1 ≤ length (keyword_at (folded_keywords list) k)
    length_some = omega (arith, length-is, place.nonempty)

    pub length_most : length (keyword_at (folded_keywords list) k) ≤ 32
    length_most = omega (arith, length-is, place.most)

    module _ (chunk : List ℕ) where
      pub found-count : length (found_at list chunk k).offsets ≤ length chunk
      unfolding found_at
      found-count = omega (arith, offsets-most (keyword_at (folded_keywords list) k) (folded (flag_of list) chunk) length_some, folded-length (flag_of list) chunk)

      -- prefix and suffix are bytes
      pub found_prefix : (found_at list chunk k).prefix < 256
      unfolding found_at reach
      found_prefix =
          let w : List ℕ = keyword_at (folded_keywords list) k in
          let c : List ℕ = folded (flag_of list) chunk in
          omega (arith, length_most, prefix-in (length w) (length c) (record_of newest w c) (record-in-range newest w c))

      pub found-suffix : (found_at list chunk k).suffix < 256
      unfolding found_at reach
      found-suffix =
          let w : List ℕ = keyword_at (folded_keywords list) k in
          let c : List ℕ = folded (flag_of list) chunk in
          omega (arith, length_most, suffix-in (length w) (length c) (record_of newest w c) (record-in-range newest w c))

      pub list-is : length (list_of list chunk k) ≡ newest.width * listed (length (found_at list chunk k).offsets)
      list-is = list_length newest (found_at list chunk k).offsets

      pub list-most : length (list_of list chunk k) ≤ newest.width * length chunk
      list-most = omega (arith, list-is, listed-most (length (found_at list chunk k).offsets), found-count)

-- ---- one record measured

-- the most bytes of a record and its set: what stands before the list, and an offset for each byte of the longest chunk
abbrev pub record_most : ℕ
record_most = start_most + newest.width * newest.longest_chunk

module _ (list : List ℕ) (words : Keywords) (r : Reads list words) (chunk : List ℕ) (k : ℕ) (h : k < words.count)
    (s : Summary) (e : s ≡ summary_of (found_at list chunk k)) where
  counts-is : s.count ≡ length (found_at list chunk k).offsets
  unfolding summary_of
  counts-is = ap (λ (x : Summary). x.count) e

  pub start_is : (n : ℕ) → start_bytes newest n k s ≡ start_of list chunk k
  start_is n = ap (start_bytes newest n k) e ∙ any-length (length (keyword_at (folded_keywords list) k)) k (summary_of (found_at list chunk k)) n

  pub lists-is : (b : ℕ) → b ≡ listed s.count → newest.width * b ≡ length (list_of list chunk k)
  lists-is b p = ap (λ (x : ℕ). newest.width * x) (p ∙ ap listed counts-is) ∙ sym (list-is list words r k h chunk)

  pub record-step : (a b : ℕ) → ((n j : ℕ) → a ≡ length (start_bytes newest n j s)) → b ≡ listed s.count
      → length (body_rest list chunk k) ≡ a + newest.width * b + length (body_rest list chunk (k + 1))
  record-step a b p q =
      omega (
        arith,
        rest-lengths list chunk k (omega (arith, keywords-count list words r)),
        p 0 k,
        ap length (start_is 0),
        lists-is b q,
      )

  pub record-most : (a b : ℕ) → length chunk ≤ newest.longest_chunk → ((n j : ℕ) → a ≡ length (start_bytes newest n j s)) → b ≡ listed s.count → a + newest.width * b ≤ record_most
  record-most a b l p q = omega (arith, p 0 k, start-most 0 k s, lists-is b q, list-most list words r k h chunk)

-- behind the last keyword nothing is left
pub rest-none : (list : List ℕ) (words : Keywords) → Reads list words → (chunk : List ℕ) (k : ℕ) → words.count ≤ k → body_rest list chunk k ≡ []
rest-none list words r chunk k h = rest_end list chunk k (omega (arith, keywords-count list words r))

-- ---- a record has at most so many bytes before its list, and an offset for each byte of its chunk

rest-most : (list : List ℕ) (words : Keywords) → Reads list words → (chunk : List ℕ) → (n k : ℕ) → n + k ≡ words.count
    → length (body_rest list chunk k) ≤ n * (start_most + newest.width * length chunk)
rest-most list words r chunk zero k e = omega (arith, ap length (rest-none list words r chunk k (omega arith)))
rest-most list words r chunk (suc n) k e =
    let h : k < words.count = omega arith in
    omega (
      arith,
      rest-lengths list chunk k (omega (arith, keywords-count list words r)),
      start-most (length (keyword_at (folded_keywords list) k)) k (summary_of (found_at list chunk k)),
      list-most list words r k h chunk,
      rest-most list words r chunk n (k + 1) (omega arith),
      suc-mul n (start_most + newest.width * length chunk),
    )

-- so a body has at most as much for each keyword
pub body-most : (list : List ℕ) (words : Keywords) → Reads list words → (chunk : List ℕ)
    → length (scan_body newest list chunk) ≤ words.count * (start_most + newest.width * length chunk)
body-most list words r chunk =
    omega (arith, ap length (rest-start list chunk), rest-most list words r chunk words.count 0 (omega arith))

-- which is little
pub body-few : (list chunk : List ℕ) → keyword_front_code list ≡ 0 → length chunk ≤ newest.longest_chunk → length (scan_body newest list chunk) ≤ 16 * record_most
body-few list chunk a h =
    let r : Reads list (parsed_of list) = record { accepted = a; parsed = refl } in
    let few : (parsed_of list).count * (start_most + newest.width * length chunk) ≤ 16 * (start_most + newest.width * length chunk) =
    mul-le-mul_right (start_most + newest.width * length chunk) (keywords-few list (parsed_of list) r) in
    omega (arith, body-most list (parsed_of list) r chunk, few)
