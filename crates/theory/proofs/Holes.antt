-- Request #106: bytes in holes never bear on an answer. Whatever is read of an accepted store lies in its front or in a chunk, so two stores that differ
-- only in holes have the same fingerprints, entries and chunks; the index is then the same, and the rest is #101's (SameChunks). Assumes nothing.
use mathlib.Core.Path.{◌≡◌, refl, sym, ap, ap₂, ◌∙◌}
use mathlib.Core.Logic.{◌≢◌, ⊎_elim}
use mathlib.Core.Bool.{Bool, true, false, ◌&&◌, ◌||◌, cond, false≢true}
use mathlib.Core.List.{List, [], ◌∷◌}
use Prim.Native.Nat.{ℕ, zero, suc, ◌+◌, ◌*◌, ◌-◌, ◌≤◌, ◌<◌}
use native.Mathlib.Nat.{zero-add}
use native.Mathlib.Omega.{arith}
use borrow.Author.Tests.{eqb-true, eqb-false, ltb-true, le-ltb, lt-leb, ne_eqb}
use lib.Dec.{eqb, leb, ltb}
use lib.ListN.{length, take, drop, get_or, length-take, length-drop}
use lib.Seq.{get_or-take, get_or-drop, ext_get_or, take-take}
use Rattle.spec.specs.Outcome.{Outcome, code_of, answer}
use Rattle.spec.specs.Scanned.{Scanned}
use Rattle.spec.specs.Bytes.{part, le_value, contains, position_of, each, every, written}
use Rattle.spec.specs.Directory.{directory_end, entry_field, offset_at}
use Rattle.spec.specs.Store.{store_layout, Chunk, chunk_count, store_keys, store_bytes, chunk_at, chunk_end, store_code, stored_chunk, stored_chunks}
use Rattle.spec.specs.Compact.{named_in, named_among, compacted, compactable_code, compact_code, compact_outcome, compact_buffer, compact_size}
use Rattle.spec.specs.Form.{newest, form_of}
use Rattle.spec.specs.Index.{Entry, index_bytes}
use Rattle.spec.specs.Join.{Clients, one_client, join_list, list_bytes, join_code, join_outcome, join_buffer, join_tally, read_list}
use Rattle.spec.specs.Lookup.{lookup_code, find_chunk, chunk_start, chunk_length}
use Rattle.spec.specs.Scan.{scan_body, scan_entry, scan_index, scannable_code, scan_code, scan_outcome, size_outcome, scan_answer, scan_buffer, scanned_code}
use Rattle.spec.specs.Program.{list_text, refused_text, search_text}
use Rattle.spec.specs.Search.{direct_search, search_code}
use Rattle.spec.proofs.Tests.{bool_cases, and_left, and_right}
use Rattle.spec.proofs.Codes.{buffer-done}
use Rattle.spec.proofs.Each.{each-match}
use Rattle.spec.proofs.ListBytes.{length-list}
use Rattle.spec.proofs.Splices.{drop-take}
use Rattle.spec.proofs.Tabulated.{every-range-at}
use Rattle.spec.proofs.EntryLaws.{key_in-at}
use Rattle.spec.proofs.LookupLaws.{lookup-passed}
use Rattle.spec.proofs.RecordLaws.{eq_of}
use Rattle.spec.proofs.StoreLaws.{StoreGood, store-good, length-store_keys}
use Rattle.theory.specs.Demand3.{scanned}
use Rattle.theory.specs.Demands.{Calls}
use Rattle.theory.specs.SameChunks.{same_chunks, JoinsAlike}
use Rattle.theory.specs.Holes.{in_hole, same_outside_holes, DifferInHoles, SameBesideHoles, SameCallsBesideHoles, HoleCases}
use Rattle.theory.proofs.SameChunks.{Alike, same-find, same-chunk, same-moves, same-search-code, same-chunks-direct, alike-chunks}
use Rattle.theory.proofs.SameChunks.{index_is}
use Rattle.theory.proofs.Agreeing.{place_of, place_in, join_kept}
use Rattle.theory.proofs.Cases.{definitions}
use Rattle.theory.proofs.Demand3.{code-of-answer, value-of-answer, written-front, scanned-is}

-- ---- two stores that differ only in holes

module _ (here there : List ℕ) (d : DifferInHoles here there) where
  abbrev c : ℕ
  c = chunk_count here

  abbrev end : ℕ
  end = directory_end store_layout c

  good : StoreGood here
  good = store-good here d.accepted

  -- the byte at a place that is in no hole
  outside : (i : ℕ) → i < length here → in_hole here i ≡ false → (i < length there) × (get_or here i 0 ≡ get_or there i 0)
  unfolding same_outside_holes
  outside i l f =
      let test : ℕ → Bool = λ j. in_hole here j || (ltb j (length there) && eqb (get_or here j 0) (get_or there j 0)) in
      let t : test i ≡ true = ap test (sym (zero-add i)) ∙ every-range-at test 0 (length here) d.bytes i l in
      let b : (ltb i (length there) && eqb (get_or here i 0) (get_or there i 0)) ≡ true = rw f at t in
      (ltb-true i (length there) (and_left _ _ b), eqb-true (get_or here i 0) (get_or there i 0) (and_right (ltb i (length there)) _ b))

  part_same : (at w : ℕ) → at + w ≤ length here → ((i : ℕ) → at ≤ i → i < at + w → in_hole here i ≡ false) → part here at w ≡ part there at w
  part_same at zero h out = refl
  part_same at (suc w) h out =
      let last = (outside (at + w) (omega arith) (out (at + w) (omega arith) (omega arith))).0 in
      let long : length (part here at (suc w)) ≡ suc w = simp (length-take, length-drop) (omega arith) in
      let there-long : length (part there at (suc w)) ≡ suc w = simp (length-take, length-drop) (omega (arith, last)) in
      ext_get_or 0 (part here at (suc w)) (part there at (suc w)) (long ∙ sym there-long)
      (λ i l.
      let m : i < suc w = omega (arith, l, long) in
      get_or-take (suc w) (drop at here) i 0 m ∙ get_or-drop at here i 0
      ∙ (outside (at + i) (omega arith) (out (at + i) (omega arith) (omega arith))).1
      ∙ sym (get_or-take (suc w) (drop at there) i 0 m ∙ get_or-drop at there i 0))

  -- ---- the front

  front_out : (i : ℕ) → i < end → in_hole here i ≡ false
  front_out i h = rw (lt-leb end i h)

  front_same : (at w : ℕ) → at + w ≤ end → part here at w ≡ part there at w
  front_same at w h = part_same at w (omega (arith, h, good.room)) (λ i l m. front_out i (omega arith))

  count_same : chunk_count here ≡ chunk_count there
  count_same = ap le_value (front_same 4 4 (omega arith))

  keys-same : store_keys here ≡ store_keys there
  unfolding store_keys
  keys-same =
      ext_get_or [] _ _ (length-store_keys here ∙ count_same ∙ sym (length-store_keys there))
      (λ k l.
      let m : k < c = omega (arith, l, length-store_keys here) in
      key_in-at store_layout here c k m
      ∙ front_same (8 + 28 * k) 20 (omega arith)
      ∙ sym (key_in-at store_layout there (chunk_count there) k (omega (arith, count_same))))

  field-same : (field k : ℕ) → field + 4 ≤ 28 → k < c → entry_field store_layout here field k ≡ entry_field store_layout there field k
  field-same field k f l = ap le_value (front_same (8 + 28 * k + field) 4 (omega arith))

  -- ---- the chunks

  abbrev apart : ℕ → ℕ → Bool
  apart i k = ltb i (offset_at store_layout here k) || leb (chunk_end here k) i

  chunk_out : (k i : ℕ) → k < c → offset_at store_layout here k ≤ i → i < chunk_end here k → in_hole here i ≡ false
  chunk_out k i l from to =
      ⊎_elim
      (λ t.
      let all : every (apart i) (each (λ j. j ∷ []) 0 c) ≡ true = and_right (leb end i) _ t in
      let own : apart i k ≡ true = ap (apart i) (sym (zero-add k)) ∙ every-range-at (apart i) 0 c all k l in
      let none : apart i k ≡ false = rw (le-ltb i (offset_at store_layout here k) from, lt-leb (chunk_end here k) i to) in
      absurd (false≢true (sym none ∙ own)))
      (λ f. f)
      (bool_cases (in_hole here i))

  chunk-same : (k : ℕ) → k < c → chunk_at here k ≡ chunk_at there k
  unfolding chunk_at
  chunk-same k l =
      let w = good.chunks.within k (omega arith) (omega arith) in
      part_same (entry_field store_layout here 20 k) (entry_field store_layout here 24 k) w.1 (λ i from to. chunk_out k i l from to)
      ∙ ap₂ (part there) (field-same 20 k (omega arith) l) (field-same 24 k (omega arith) l)

  alike : Alike here there
  alike =
      record {
        stored = good;
        stored_other = store-good there d.accepted_there;
        code = d.accepted;
        code_other = d.accepted_there;
        known = λ key. ap (contains key) keys-same;
        named = λ key t.
            chunk-same (place_of here key) (place_in here key t) ∙ ap (λ (keys : List (List ℕ)). chunk_at there (position_of key keys)) keys-same;
      }

  -- ---- the index

  module _ (list : List ℕ) where
    entry-same : (k : ℕ) → k < c → scan_entry newest list here k ≡ scan_entry newest list there k
    unfolding scan_entry
    entry-same k l = λ i. record {
      key = get_or (keys-same i) k [];
      size = field-same 24 k (omega arith) l i;
      body = scan_body newest list (chunk-same k l i);
    }

    index_same : scan_index newest list here ≡ scan_index newest list there
    unfolding scan_index
    index_same =
        ap (index_bytes newest list)
        (each-match (λ k. scan_entry newest list here k ∷ []) (λ k. scan_entry newest list there k ∷ []) 0 0 c
        (λ k l. ap (λ (e : Entry). e ∷ []) (entry-same (0 + k) (omega arith)))
        ∙ ap (λ (n : ℕ). each (λ k. scan_entry newest list there k ∷ []) 0 n) count_same)

    code_same : (room : ℕ) → scan_code newest list here room ≡ scan_code newest list there room
    unfolding scan_code scannable_code
    code_same room = rw (d.accepted, d.accepted_there, index_same)

    size_same : size_outcome newest list here ≡ size_outcome newest list there
    unfolding size_outcome scannable_code
    size_same = rw (d.accepted, d.accepted_there, index_same)

    scan-same : (room : ℕ) → scan_answer newest list here room ≡ scan_answer newest list there room
    unfolding scan_answer scan_outcome
    scan-same room = rw (code_same room, index_same, same-moves here there alike list)

    buffer-same : (buffer : List ℕ) → scan_buffer newest list here buffer ≡ scan_buffer newest list there buffer
    unfolding scan_buffer
    buffer-same buffer = rw (code_same (length buffer), index_same)

    text_same : (recipes : List ℕ) → search_text here list recipes ≡ search_text there list recipes
    unfolding search_text
    text_same recipes =
        let same = same-search-code here there alike newest list recipes one_client 65536 65536 65536 (code_same 65536) in
        ap (λ (n : ℕ). cond (eqb n 0) (list_text (direct_search list here recipes)) (refused_text n)) same
        ∙ picked (search_code newest list there recipes one_client 65536 65536)
        (λ z. ap list_text (same-chunks-direct here there alike newest list recipes one_client 65536 65536 65536 (code_same 65536) (same ∙ z)))
      where
        picked : {a b : List ℕ} (n : ℕ) → (n ≡ 0 → a ≡ b) → cond (eqb n 0) a (refused_text n) ≡ cond (eqb n 0) b (refused_text n)
        picked zero h = h refl
        picked (suc n) h = rw (ne_eqb (suc n) 0 (λ z. let y : ⊥ = omega arith in absurd y))

  -- ---- compaction

  stored_same : stored_chunks here ≡ stored_chunks there
  unfolding stored_chunks
  stored_same =
      each-match (λ k. stored_chunk here k ∷ []) (λ k. stored_chunk there k ∷ []) 0 0 c
      (λ k l i. record { key = get_or (keys-same i) (0 + k) []; bytes = chunk-same (0 + k) (omega arith) i } ∷ [])
      ∙ ap (λ (n : ℕ). each (λ k. stored_chunk there k ∷ []) 0 n) count_same

  module _ (recipes : List ℕ) where
    compacted-same : compacted here recipes ≡ compacted there recipes
    unfolding compacted
    compacted-same = ap (λ (chunks : List Chunk). store_bytes (named_among (named_in recipes) chunks)) stored_same

    compactable-same : compactable_code here recipes ≡ compactable_code there recipes
    unfolding compactable_code
    compactable-same = rw (d.accepted, d.accepted_there, keys-same)

    compact-code-same : (room : ℕ) → compact_code here recipes room ≡ compact_code there recipes room
    unfolding compact_code
    compact-code-same room = rw (compactable-same, compacted-same)

    compact-same : (room : ℕ) → compact_outcome here recipes room ≡ compact_outcome there recipes room
    unfolding compact_outcome
    compact-same room = rw (compact-code-same room, compacted-same)

    compact-buffer-same : (buffer : List ℕ) → compact_buffer here recipes buffer ≡ compact_buffer there recipes buffer
    unfolding compact_buffer
    compact-buffer-same buffer = rw (compact-code-same (length buffer), compacted-same)

    compact-size-same : compact_size here recipes ≡ compact_size there recipes
    unfolding compact_size
    compact-size-same = rw (compactable-same, compacted-same)

  -- ---- a field of the entry that a lookup finds

  found-same : (field : ℕ) → field + 4 ≤ 28 → (key : List ℕ)
      → cond (eqb (find_chunk here key) 0) (entry_field store_layout here field (place_of here key)) 0
      ≡ cond (eqb (find_chunk there key) 0) (entry_field store_layout there field (place_of there key)) 0
  unfolding find_chunk
  found-same field f key =
      ap (λ (n : ℕ). cond (eqb n 0) (entry_field store_layout here field (place_of here key)) 0) (same-find here there alike key)
      ∙ go (eqb (find_chunk there key) 0) refl
    where
      go : (b : Bool) → eqb (find_chunk there key) 0 ≡ b
          → cond b (entry_field store_layout here field (place_of here key)) 0 ≡ cond b (entry_field store_layout there field (place_of there key)) 0
      go true e =
          let z : lookup_code (store_code here) (store_keys here) key ≡ 0 = same-find here there alike key ∙ eq_of (find_chunk there key) 0 e in
          let l : place_of here key < c = omega (arith, (lookup-passed (store_code here) (store_keys here) key z).2, length-store_keys here) in
          field-same field (place_of here key) f l ∙ ap (λ (keys : List (List ℕ)). entry_field store_layout there field (position_of key keys)) keys-same
      go false e = refl

-- ---- what a scan wrote, into any two buffers of equal length

-- a refused scan wrote no index
none-scanned : (list store buffer : List ℕ) → scan_code newest list store (length buffer) ≢ 0 → scanned list store buffer ≡ []
unfolding scan_answer scan_outcome answer
none-scanned list store buffer h = rw (ne_eqb (scan_code newest list store (length buffer)) 0 h)

scanned-same : (list here there : List ℕ) → DifferInHoles here there → (buffer buffer₂ : List ℕ) → length buffer ≡ length buffer₂
    → scanned list here buffer ≡ scanned list there buffer₂
scanned-same list here there d buffer buffer₂ l =
    let same : scan_code newest list here (length buffer) ≡ scan_code newest list there (length buffer₂) =
    code_same here there d list (length buffer) ∙ ap (scan_code newest list there) l in
    ⊎_elim
    (λ t.
    let z = eqb-true (scan_code newest list here (length buffer)) 0 t in
    scanned-is list here buffer z ∙ index_same here there d list ∙ sym (scanned-is list there buffer₂ (sym same ∙ z)))
    (λ f.
    let n = eqb-false (scan_code newest list here (length buffer)) 0 f in
    none-scanned list here buffer n ∙ sym (none-scanned list there buffer₂ (λ z. n (same ∙ z))))
    (bool_cases (eqb (scan_code newest list here (length buffer)) 0))

-- ---- the claim

-- REQUEST #106: two accepted stores that differ only in holes.
pub same-beside-holes : (list here there : List ℕ) → DifferInHoles here there → SameBesideHoles list here there
unfolding chunk_start chunk_length find_chunk
same-beside-holes list here there d =
    let a = alike here there d in
    record {
      find = same-find here there a;
      start = found-same here there d 20 (omega arith);
      long = found-same here there d 24 (omega arith);
      chunk = same-chunk here there a;
      size = size_same here there d list;
      scan = scan-same here there d list;
      buffer = buffer-same here there d list;
      index = scanned-same list here there d;
      searches = λ index_room. (alike-chunks list here there a).searches index_room index_room (ap scanned_code (scan-same here there d list index_room));
      compact = compact-same here there d;
      compacted_buffer = compact-buffer-same here there d;
      compacted_size = compact-size-same here there d;
      text = text_same here there d list;
    }

-- ---- the claim of calls

-- the first 9 n bytes decide a list of n
list-front : (n : ℕ) (x y : List ℕ) → take (9 * n) x ≡ take (9 * n) y → read_list n x ≡ read_list n y
list-front zero x y e = refl
list-front (suc n) x y e =
    let p : (at w : ℕ) → at + w ≤ 9 * suc n → part x at w ≡ part y at w = λ at w h. part_of at w (9 * suc n) h e in
    λ i. record {
      file = le_value (p 0 4 (omega arith) i);
      offset = le_value (p 4 4 (omega arith) i);
      keyword = le_value (p 8 1 (omega arith) i);
    } ∷ list-front n (drop 9 x) (drop 9 y) (p 9 (9 * n) (omega arith)) i
  where
    front : (at w n : ℕ) (l : List ℕ) → at + w ≤ n → part (take n l) at w ≡ part l at w
    front at w n l h =
        let s : n ≡ at + (n - at) = omega arith in
        ap (λ (m : ℕ). take w (drop at (take m l))) s ∙ ap (take w) (drop-take at (n - at) l) ∙ take-take w (n - at) (drop at l) (omega arith)

    part_of : (at w n : ℕ) → at + w ≤ n → take n x ≡ take n y → part x at w ≡ part y at w
    part_of at w n h e = sym (front at w n x h) ∙ ap (λ (l : List ℕ). part l at w) e ∙ front at w n y h

-- a join that does its work wrote its list
join-wrote : (index recipes : List ℕ) (clients : Clients) (out : List ℕ) → join_code (form_of index) index recipes clients (length out) ≡ 0
    → join_buffer (form_of index) index recipes clients out ≡ written out (list_bytes (join_list (form_of index) index recipes))
unfolding join_buffer
join-wrote index recipes clients out e = sym (buffer-done (join_code (form_of index) index recipes clients (length out)) _ out e)

-- two joins of one index into list buffers of equal length
joins-alike : (index recipes : List ℕ) (clients : Clients) (out out₂ : List ℕ) → length out ≡ length out₂
    → JoinsAlike out out₂
    (join_outcome (form_of index) index recipes clients (length out)) (join_outcome (form_of index) index recipes clients (length out₂))
    (join_buffer (form_of index) index recipes clients out) (join_buffer (form_of index) index recipes clients out₂)
    (join_tally (form_of index) index recipes clients (length out)) (join_tally (form_of index) index recipes clients (length out₂))
unfolding join_outcome
joins-alike index recipes clients out out₂ l =
    let o : join_outcome (form_of index) index recipes clients (length out) ≡ join_outcome (form_of index) index recipes clients (length out₂) =
    ap (join_outcome (form_of index) index recipes clients) l in
    let os = join_list (form_of index) index recipes in
    record {
      answers = o;
      listed = λ z.
          let code : join_code (form_of index) index recipes clients (length out) ≡ 0 = sym (code-of-answer _ (length os)) ∙ z in
          let code₂ : join_code (form_of index) index recipes clients (length out₂) ≡ 0 = sym (code-of-answer _ (length os)) ∙ ap code_of (sym o) ∙ z in
          let n = value-of-answer (join_code (form_of index) index recipes clients (length out)) (length os) code in
          let n₂ = value-of-answer (join_code (form_of index) index recipes clients (length out₂)) (length os) code₂ in
          ap (λ (k : ℕ). read_list k (join_buffer (form_of index) index recipes clients out)) n
          ∙ list-front (length os) _ _ (listed-front index recipes clients out code ∙ sym (listed-front index recipes clients out₂ code₂))
          ∙ ap (λ (k : ℕ). read_list k (join_buffer (form_of index) index recipes clients out₂)) (sym n₂);
      kept = λ h. (join_kept index recipes clients out h, join_kept index recipes clients out₂ (λ z. h (ap code_of o ∙ z)));
      tallies = ap (join_tally (form_of index) index recipes clients) l;
      bytes = λ p. ap (join_buffer (form_of index) index recipes clients) p;
    }
  where
    listed-front : (index recipes : List ℕ) (clients : Clients) (out : List ℕ) → join_code (form_of index) index recipes clients (length out) ≡ 0
        → take (9 * length (join_list (form_of index) index recipes)) (join_buffer (form_of index) index recipes clients out)
        ≡ list_bytes (join_list (form_of index) index recipes)
    listed-front index recipes clients out e =
        let os = join_list (form_of index) index recipes in
        ap₂ take (sym (length-list os)) (join-wrote index recipes clients out e) ∙ written-front out (list_bytes os)

-- REQUEST #106 of four calls: a scan and a join on each of the two stores, with the same keyword list, recipes and key, and tallies that are equal at entry.
pub same-calls-beside-holes : (list here there recipes : List ℕ) (clients : Clients) → DifferInHoles here there
    → (buffer out : List ℕ) (scan : Scanned) (join : Outcome) (buffer' index out' tally' : List ℕ)
    → Calls list here recipes clients buffer out scan join buffer' index out' tally'
    → (buffer₂ out₂ : List ℕ) (scan₂ : Scanned) (join₂ : Outcome) (buffer₂' index₂ out₂' tally₂' : List ℕ)
    → Calls list there recipes clients buffer₂ out₂ scan₂ join₂ buffer₂' index₂ out₂' tally₂'
    → SameCallsBesideHoles buffer buffer₂ out out₂ scan scan₂ join join₂ buffer' buffer₂' index index₂ out' out₂' tally' tally₂'
same-calls-beside-holes list here there recipes clients d buffer out scan join buffer' index out' tally' c
    buffer₂ out₂ scan₂ join₂ buffer₂' index₂ out₂' tally₂' c₂ =
    let s = same-beside-holes list here there d in
    let indexes : length buffer ≡ length buffer₂ → index ≡ index₂ = λ l.
    index_is list here recipes clients buffer out scan join buffer' index out' tally' c ∙ s.index buffer buffer₂ l
    ∙ sym (index_is list there recipes clients buffer₂ out₂ scan₂ join₂ buffer₂' index₂ out₂' tally₂' c₂) in
    record {
      scans = λ l. c.scanned ∙ ap (scan_answer newest list here) l ∙ s.scan (length buffer₂) ∙ sym c₂.scanned;
      indexes = indexes;
      buffers = λ p. c.wrote ∙ ap (scan_buffer newest list here) p ∙ s.buffer buffer₂ ∙ sym c₂.wrote;
      joins = λ l m.
          rw (c.joined, c.listed, c.tallied, c₂.joined, c₂.listed, c₂.tallied, indexes l) (joins-alike index₂ recipes clients out out₂ m);
    }

-- ---- cases

pub hole-cases : HoleCases
unfolding definitions stored_chunks same_chunks same_outside_holes chunk_start
hole-cases =
    record {
      none = (refl, refl, refl);
      holes = (refl, refl, refl, refl, refl);
      beyond = (refl, refl, refl, refl, refl, refl);
      first = (refl, refl, refl);
      duplicate = refl;
      small = (refl, refl, refl, refl, refl, refl);
      differ = record { accepted = refl; accepted_there = refl; bytes = refl };
      outside = (refl, refl, refl, refl);
      chunk_byte = refl;
      offset = refl;
      reordered = record { accepted = refl; accepted_there = refl; chunks = refl };
    }
