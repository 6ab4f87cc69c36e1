-- The streams of a place give what the definition lists there. Assumes nothing.
use mathlib.Core.Path.{◌≡◌, refl, sym, ap, ap₂, ◌∙◌}
use mathlib.Core.Bool.{Bool, true, false, ◌||◌}
use mathlib.Core.List.{List, [], ◌∷◌, ◌++◌}
use Prim.Native.Nat.{ℕ, suc, ◌+◌, ◌-◌, ◌%◌, ◌^◌, ◌≤◌, ◌<◌}
use native.Mathlib.Nat.{add-zero, lt_of_lt_of_le}
use native.Mathlib.Numerals.{add-one}
use native.Mathlib.Omega.{arith}
use borrow.Author.Count.{below_more}
use lib.ListN.{length, get_or, drop, set, length-set, length-drop}
use lib.Seq.{drop-cons, get_or-drop, get_or-set_same, get_or-set_other}
use lib.Dec.{ltb}
use lib.Pow.{pow_mono}
use Rattle.spec.specs.declared.Opened.{Opened}
use Rattle.spec.specs.Bytes.{each, rising, member, set_of}
use Rattle.spec.specs.Keywords.{folded_keywords}
use Rattle.spec.specs.Table.{in_cell}
use Rattle.spec.specs.Records.{ChunkRecords, record_at, in_range, reach}
use Rattle.spec.specs.Index.{list_in}
use Rattle.spec.specs.Join.{Occurrence, keyword_at, occurrences_at, crosses_into, listed, join_from}
use Rattle.spec.proofs.Tests.{leb-true}
use Rattle.spec.proofs.Each.{each-match, passing, member-passing}
use Rattle.spec.proofs.OccurrencesAt.{occurrences_at-same}
use Rattle.spec.proofs.Rising.{all_below, below-prefix}
use Rattle.spec.proofs.Sets.{set-lt, set_same}
use Rattle.spec.proofs.Stream.{crossing-stream, cell-start, cell-no-suffix}
use Rattle.spec.proofs.Crossing.{crosses-cell, crosses-over}
use Rattle.spec.proofs.RecordRanges.{passing-rises, passing-every}
use Rattle.spec.proofs.RecordLaws.{prefix-in, suffix-in, offsets-rise, offsets-in, offsets-count}
use Rattle.tables.specs.Tabled.{cell_set, tables_of}
use Rattle.tables.proofs.Cells.{cell-at}
use Rattle.listing.specs.Streams.{below, bits, unread, stream_of, unread_at, occurrences, numbers, total, ReadableStreams}
use Rattle.listing.proofs.Digits.{bits-set}
use Rattle.listing.proofs.Totals.{total-set}
use Rattle.loader.specs.Loaded.{row_of}
use Rattle.spans.specs.Spans.{crossing_set}
use Rattle.walk.specs.Walking.{no_chunk, chunk_in, first_suffix, width_of, Checked, LoadedAt, Crossable, Crossed, Filled, cells, crossings}
use Rattle.walk.specs.Walking.{Prefixed, LoadedPair}
use Rattle.walk.proofs.Entries.{keywords-count, longest-keyword, few}

-- ---- filling the streams, one after the other

pub record Crossing (size count : ℕ) (sets : ℕ → ℕ) (here streams : List (List ℕ)) (k many : ℕ) : Type 0 where
  pub long : count ≤ length streams
  pub all : many ≡ total streams k
  pub done : (m : ℕ) → m < k → stream_of streams m
      ≡ size ∷ get_or (row_of here m) 2 0 ∷ get_or (row_of here m) 3 0 ∷ (size - get_or (row_of here m) 0 0) ∷ sets m ∷ []

module _ (size count : ℕ) (sets : ℕ → ℕ) (here : List (List ℕ)) where
  pub crossing_on : (streams : List (List ℕ)) (k x many m : ℕ) → Crossing size count sets here streams k many → k < count → x ≡ sets k
      → m ≡ numbers (size ∷ get_or (row_of here k) 2 0 ∷ get_or (row_of here k) 3 0 ∷ (size - get_or (row_of here k) 0 0) ∷ x ∷ [])
      → Crossing size count sets here
      (set streams k (size ∷ get_or (row_of here k) 2 0 ∷ get_or (row_of here k) 3 0 ∷ (size - get_or (row_of here k) 0 0) ∷ x ∷ [])) (k + 1) (many + m)
  crossing_on streams k x many m g h e q =
      let row : ℕ → ℕ → List ℕ = λ m y. size ∷ get_or (row_of here m) 2 0 ∷ get_or (row_of here m) 3 0 ∷ (size - get_or (row_of here m) 0 0) ∷ y ∷ [] in
      let new : List ℕ = row k x in
      record {
        long = rw length-set g.long;
        all = ap₂ (λ (y z : ℕ). y + z) g.all q ∙ sym (total-set streams k new (omega (arith, g.long)));
        done = below_more (λ (m : ℕ). stream_of (set streams k new) m ≡ row m (sets m)) k
            (λ m l. get_or-set_other streams k m new [] (λ q. omega arith) ∙ g.done m l)
            (get_or-set_same streams k new [] (omega (arith, g.long))
            ∙ ap {B = List ℕ} (row k) e);
      }

  -- the same sets fill the same
  filled-same : (sets' : ℕ → ℕ) (streams : List (List ℕ)) (many : ℕ) → ((k : ℕ) → k < count → sets k ≡ sets' k)
      → Filled size count sets here streams many → Filled size count sets' here streams many
  filled-same sets' streams many e f =
      let row : ℕ → ℕ → List ℕ = λ m y. size ∷ get_or (row_of here m) 2 0 ∷ get_or (row_of here m) 3 0 ∷ (size - get_or (row_of here m) 0 0) ∷ y ∷ [] in
      record { crossed = record { long = f.crossed.long; each = λ k u. f.crossed.each k u ∙ ap {B = List ℕ} (row k) (e k u) }; all = f.all }

-- ---- lists in range

-- a keyword's stream is the numbers that pass its test: a chunk's own, and those that a test of the bytes left passes
pub stream-is : (t : ℕ → Bool) (offsets : List ℕ) (i size : ℕ) → ((left : ℕ) → i < left → t left ≡ false) → rising offsets ≡ true
    → all_below (size - i) offsets ≡ true → i ≤ size → i ≤ 32
    → offsets ++ bits 32 (size - i) (set_of (λ s. t (i - s)) i) ≡ passing (λ at. member at offsets || t (size - at)) 0 size
stream-is t offsets i size over up under short small =
    ap {B = List ℕ} (λ l. offsets ++ l) (bits-set (λ s. t (i - s)) i 32 (size - i) small) ∙ sym (crossing-stream t offsets i size over under short up)

-- streams that are the numbers which pass tests give what passes them
occurrences-are : (file count base size : ℕ) (s : ℕ → List ℕ) (t : ℕ → ℕ → Bool) → ((k : ℕ) → k < count → s k ≡ passing (t k) 0 size)
    → occurrences file count base size s ≡ each (λ p. occurrences_at file count (λ k. t k p) (base + p)) 0 size
unfolding occurrences
occurrences-are file count base size s t h =
    each-match _ _ 0 0 size (λ p l.
    occurrences_at-same file count (base + (0 + p)) _ _ (λ k hk. rw (h k hk) (member-passing (t k) (0 + p) 0 size (omega arith) (omega arith))))

-- ---- a place

-- every chunk's records and sets are in range, for keywords of 1 to 32 bytes
pub record AllGood (keywords : List (List ℕ)) (chunks : List ChunkRecords) : Type 0 where
  pub proper : (k : ℕ) → k < length keywords → (1 ≤ length (keyword_at keywords k)) × (length (keyword_at keywords k) ≤ 32)
  pub sizes : (n : ℕ) → n < length chunks → (chunk_in chunks n).size ≤ 1048576
  pub ranges : (n : ℕ) → n < length chunks → (k : ℕ) → k < length keywords
      → in_range (length (keyword_at keywords k)) (chunk_in chunks n).size (record_at (chunk_in chunks n) k) ≡ true
  pub sets : (n : ℕ) → n < length chunks → (k : ℕ) → k < length keywords
      → ((record_at (chunk_in chunks n) k).inner < 2 ^ (length (keyword_at keywords k) - (chunk_in chunks n).size))
      × ((record_at (chunk_in chunks n) k).inner % 2 ≡ 0)

module _ (keywords : List (List ℕ)) (chunks : List ChunkRecords) (good : AllGood keywords chunks) where
  prefix-le : (n : ℕ) → n < length chunks → (k : ℕ) → k < length keywords
      → (record_at (chunk_in chunks n) k).prefix ≤ reach (length (keyword_at keywords k)) (chunk_in chunks n).size
  prefix-le n h k u = prefix-in (length (keyword_at keywords k)) (chunk_in chunks n).size (record_at (chunk_in chunks n) k) (good.ranges n h k u)

  prefix-small : (n : ℕ) → n < length chunks → (k : ℕ) → k < length keywords → (record_at (chunk_in chunks n) k).prefix < length (keyword_at keywords k)
  unfolding reach
  prefix-small n h k u = omega (arith, prefix-le n h k u, (good.proper k u).0)

  prefix-short : (n : ℕ) → n < length chunks → (k : ℕ) → k < length keywords → (record_at (chunk_in chunks n) k).prefix ≤ (chunk_in chunks n).size
  unfolding reach
  prefix-short n h k u = omega (arith, prefix-le n h k u)

  pub suffix-one : (n : ℕ) → n < length chunks → (k : ℕ) → k < length keywords → (record_at (chunk_in chunks n) k).suffix < length (keyword_at keywords k)
  unfolding reach
  suffix-one n h k u =
      let c : ChunkRecords = chunk_in chunks n in
      omega (arith, suffix-in (length (keyword_at keywords k)) c.size (record_at c k) (good.ranges n h k u), (good.proper k u).0)

  offsets-few : (n : ℕ) → n < length chunks → (k : ℕ) → k < length keywords → length (record_at (chunk_in chunks n) k).offsets ≤ (chunk_in chunks n).size
  offsets-few n h k u =
      let w : ℕ = length (keyword_at keywords k) in
      let c : ChunkRecords = chunk_in chunks n in
      let g = good.ranges n h k u in
      offsets-count w c.size (record_at c k).offsets (good.proper k u).0
      (offsets-rise w c.size (record_at c k) g) (offsets-in w c.size (record_at c k) g)

  suffix-small : (n k : ℕ) → k < length keywords → first_suffix (drop n chunks) k < length (keyword_at keywords k)
  suffix-small n k u = go (drop n chunks) refl
    where
      go : (l : List ChunkRecords) → drop n chunks ≡ l → first_suffix l k < length (keyword_at keywords k)
      go [] e = omega (arith, (good.proper k u).0)
      go (c ∷ l) e =
          let m : n < length chunks = omega (arith, ap length e, length-drop n chunks) in
          let first : c ≡ get_or (drop n chunks) 0 no_chunk = ap (λ (x : List ChunkRecords). get_or x 0 no_chunk) (sym e) in
          let q : c ≡ chunk_in chunks n = first ∙ get_or-drop n chunks 0 no_chunk ∙ ap (λ (i : ℕ). get_or chunks i no_chunk) (add-zero n) in
          rw q (suffix-one n m k u)

-- ---- a place and the place behind it

module _ (index : List ℕ) (opened : Opened) (chunks : List ChunkRecords) (d : Checked index opened)
    (good : AllGood (folded_keywords (list_in index)) chunks) (n : ℕ) (rows rows' : List (List ℕ)) (size size' : ℕ)
    (pair : LoadedPair index opened chunks n rows rows' size size') where
  abbrev count : ℕ
  count = opened.keywords

  abbrev keywords : List (List ℕ)
  keywords = folded_keywords (list_in index)

  abbrev here : ChunkRecords
  here = chunk_in chunks n

  abbrev rest : List ChunkRecords
  rest = drop (n + 1) chunks

  abbrev h : n < length chunks
  h = pair.inside

  abbrev l : LoadedAt index opened chunks n rows size
  l = pair.first

  abbrev l' : LoadedAt index opened chunks (n + 1) rows' size'
  l' = pair.second

  in-keywords : (k : ℕ) → k < count → k < length keywords
  in-keywords k u = omega (arith, keywords-count index opened d)

  pub crossable : Crossable size count rows rows'
  crossable =
      record {
        short = λ k u. omega (arith, (l.each k u h).prefix, l.sized h, prefix-short keywords chunks good n h k (in-keywords k u));
        row = λ k u. omega (arith, (l.each k u h).prefix, prefix-small keywords chunks good n h k (in-keywords k u), (good.proper k (in-keywords k u)).1);
        column = λ k u. omega (arith, l'.suffix k u, suffix-small keywords chunks good (n + 1) k (in-keywords k u), (good.proper k (in-keywords k u)).1);
        few = λ k u. omega (arith, (l.each k u h).many, offsets-few keywords chunks good n h k (in-keywords k u), good.sizes n h);
      }

  pub prefixed : Prefixed index size count rows
  prefixed =
      record {
        each = λ k u. record {
          known = in-keywords k u;
          short = omega (arith, (l.each k u h).prefix, prefix-small keywords chunks good n h k (in-keywords k u));
        };
        short = crossable.short;
        few = crossable.few;
      }

  -- ---- the next chunk is so long that no keyword goes on over it

  module _ (tables : List (List (List ℕ))) (tabled : tables ≡ tables_of keywords) (long : opened.longest ≤ size' + 1) where
    -- its sets are empty
    no_inner : (k : ℕ) → k < count → n + 1 < length chunks → (record_at (chunk_in chunks (n + 1)) k).inner ≡ 0
    no_inner k u m =
        let v = in-keywords k u in
        let r = good.sets (n + 1) m k v in
        let c : ChunkRecords = chunk_in chunks (n + 1) in
        let w : length (keyword_at keywords k) ≤ opened.longest = longest-keyword index opened d k v in
        let z : length (keyword_at keywords k) - c.size ≤ 1 = omega (arith, l'.sized m) in
        omega (arith, r.0, r.1, pow_mono {i = length (keyword_at keywords k) - c.size} {j = 1} z)

    near : (k : ℕ) → k < count → (i : ℕ) → i < length (keyword_at keywords k) → (after : List ChunkRecords) → rest ≡ after
        → (s : ℕ) → s < i → in_cell (keyword_at keywords k) i (first_suffix after k) s ≡ crosses_into (keyword_at keywords k) k i after (i - s)
    near k u i m [] e s o = cell-no-suffix (keyword_at keywords k) i s m
    near k u i m (next ∷ after) e s o =
        let q : n + 1 < length chunks = omega (arith, ap length e, length-drop (n + 1) chunks) in
        let first : next ≡ get_or rest 0 no_chunk = ap (λ (x : List ChunkRecords). get_or x 0 no_chunk) (sym e) in
        let is : next ≡ chunk_in chunks (n + 1) = first ∙ get_or-drop (n + 1) chunks 0 no_chunk ∙ ap (λ (x : ℕ). get_or chunks x no_chunk) (add-zero (n + 1)) in
        sym (cell-start (keyword_at keywords k) i (record_at next k).suffix s o)
        ∙ sym (crosses-cell (keyword_at keywords k) k i next after (i - s) (ap (λ (c : ChunkRecords). (record_at c k).inner) is ∙ no_inner k u q))

    -- so the table has the starts
    cells_are : (k : ℕ) → k < count → cells tables rows rows' k ≡ crossings keywords rows rest k
    unfolding cell_set crossing_set
    cells_are k u =
        let v = in-keywords k u in
        let i : ℕ = (record_at here k).prefix in
        let p = prefix-small keywords chunks good n h k v in
        rw ((l.each k u h).prefix, l'.suffix k u)
        (cell-at keywords tables tabled k i (first_suffix rest k) (omega (arith, few index opened d)) (good.proper k v).1
        p (suffix-small keywords chunks good (n + 1) k v)
        ∙ set_same (in_cell (keyword_at keywords k) i (first_suffix rest k)) (λ s. crosses_into (keyword_at keywords k) k i rest (i - s)) i
        (λ s o. near k u i p rest refl s o))

    pub near-filled : (streams : List (List ℕ)) (many : ℕ) → Filled size count (cells tables rows rows') rows streams many
        → Filled size count (crossings keywords rows rest) rows streams many
    near-filled streams many f = filled-same size count (cells tables rows rows') rows (crossings keywords rows rest) streams many cells_are f

  -- ---- the streams

  abbrev test : ℕ → ℕ → Bool
  test k at = member at (record_at here k).offsets || crosses_into (keyword_at keywords k) k (record_at here k).prefix rest (size - at)

  set-lt-32 : (k : ℕ) → k < count → crossings keywords rows rest k < 2 ^ 32
  unfolding crossing_set
  set-lt-32 k u =
      let i : ℕ = get_or (row_of rows k) 0 0 in
      let t : ℕ → Bool = λ s. crosses_into (keyword_at keywords k) k i rest (i - s) in
      lt_of_lt_of_le (set-lt t i) (pow_mono {i = i} {j = 32} (omega (arith, crossable.row k u)))

  module _ (streams : List (List ℕ)) (c : Crossed size count (crossings keywords rows rest) rows streams) where
    unread-is : (k : ℕ) → k < count → unread_at index (width_of opened) streams k ≡ passing (test k) 0 size
    unfolding unread crossing_set
    unread-is k u =
        let v = in-keywords k u in
        let r = l.each k u h in
        let g = good.ranges n h k v in
        let p = prefix-small keywords chunks good n h k v in
        let i : ℕ = (record_at here k).prefix in
        let offsets : List ℕ = (record_at here k).offsets in
        let z : ℕ = length (keyword_at keywords k) in
        let up : rising offsets ≡ true = offsets-rise z here.size (record_at here k) g in
        let inside : all_below (here.size - i) offsets ≡ true = below-prefix z here.size i offsets p (offsets-in z here.size (record_at here k) g) in
        rw (c.each k u, r.offsets, r.prefix)
        (stream-is (crosses_into (keyword_at keywords k) k i rest) offsets i size (crosses-over (keyword_at keywords k) k i rest) up
        (rw (l.sized h) inside) (rw (l.sized h) (prefix-short keywords chunks good n h k v)) (omega (arith, (good.proper k v).1)))

    pub place-ready : ReadableStreams index (width_of opened) size count streams
    place-ready =
        record {
          long = c.long;
          each = λ k u. record {
            up = ap rising (unread-is k u) ∙ passing-rises (test k) 0 size;
            under = ap (below size) (unread-is k u) ∙ passing-every (test k) (λ x. ltb x size) 0 size (λ x a b t. leb-true (suc x) size (omega arith));
            inside = rw (c.each k u) (l.each k u h).inside;
            set = rw (c.each k u) (set-lt-32 k u);
          };
        }

    place_is : (file base : ℕ)
        → occurrences file count base size (unread_at index (width_of opened) streams)
        ≡ each (λ p. occurrences_at file (length keywords) (listed keywords here rest p) (base + p)) 0 size
    unfolding listed
    place_is file base =
        occurrences-are file count base size _ test unread-is
        ∙ ap (λ (m : ℕ). each (λ p. occurrences_at file m (λ k. test k p) (base + p)) 0 size) (keywords-count index opened d)
        ∙ ap (λ (z : ℕ). each (λ p. occurrences_at file (length keywords)
        (λ k. member p (record_at here k).offsets || crosses_into (keyword_at keywords k) k (record_at here k).prefix rest (z - p)) (base + p)) 0 size) (l.sized h)

    -- what the definition lists from this place on: what the streams give, and then the places behind
    pub place-join : (file base : ℕ)
        → join_from file keywords base (drop n chunks)
        ≡ occurrences file count base size (unread_at index (width_of opened) streams) ++ join_from file keywords (base + size) (drop (n + 1) chunks)
    unfolding join_from
    place-join file base =
        let e : drop (suc n) chunks ≡ drop (n + 1) chunks = ap (λ (m : ℕ). drop m chunks) (sym (add-one n)) in
        let from : List ChunkRecords → ℕ → List Occurrence = λ r z.
        each (λ p. occurrences_at file (length keywords) (listed keywords here r p) (base + p)) 0 z ++ join_from file keywords (base + z) r in
        ap (join_from file keywords base) (drop-cons chunks n no_chunk h)
        ∙ ap {B = List Occurrence} (λ (r : List ChunkRecords). from r here.size) e
        ∙ ap {B = List Occurrence} (from rest) (sym (l.sized h))
        ∙ ap {B = List Occurrence} (λ (x : List Occurrence). x ++ join_from file keywords (base + size) rest) (sym (place_is file base))
