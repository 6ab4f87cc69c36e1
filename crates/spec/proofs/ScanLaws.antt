-- The scan's index, read again: the store's fingerprints and lengths, and of every chunk the records that the chunk gives. It is a written
-- index (IndexLaws) whose entries are the store's, and its bodies read back (RecordLaws). Assumes nothing.
use mathlib.Core.Path.{◌≡◌, refl, sym, ap, ◌∙◌}
use mathlib.Core.Bool.{true, false, ◌||◌}
use mathlib.Core.List.{List, [], ◌∷◌, map}
use Prim.Native.Nat.{ℕ, suc, ◌≤◌, ◌<◌}
use native.Mathlib.Nat.{zero-add, zero-lt-suc}
use native.Mathlib.Omega.{arith}
use borrow.Author.Tests.{lt-ltb, ltb-false}
use lib.Dec.{ltb}
use lib.ListN.{length, take, get_or, length-map}
use Rattle.spec.specs.Bytes.{largest32, twice}
use Rattle.spec.specs.Keywords.{flag_of, folded, folded_keywords, list_size, keyword_code}
use Rattle.spec.specs.Directory.{size_at}
use Rattle.spec.specs.Store.{store_layout, chunk_count, store_keys, chunk_at, store_code}
use Rattle.spec.specs.Form.{Form, newest, form_of}
use Rattle.spec.specs.Records.{record_of, records_of, read_body, all_in_range, good_body}
use Rattle.spec.specs.Index.{Entry, index_bytes, list_in, index_layout, index_keys, body_at, lengths_in, index_records, good_at, index_code}
use Rattle.spec.specs.Scan.{scan_records, scan_body, scan_entry, scan_index, scannable_code, scan_code}
use Rattle.spec.proofs.Tests.{leb-true}
use Rattle.spec.proofs.Codes.{passed, passed-whole, or_left, or_right}
use Rattle.spec.proofs.Folding.{folded-length}
use Rattle.spec.proofs.KeywordLaws.{Proper, accepted, keyword-front, folded-count, folded-lengths, folded-proper}
use Rattle.spec.proofs.KeywordReads.{SameList}
use Rattle.spec.proofs.RecordLaws.{FormGood, all_proper, body-read, good-written}
use Rattle.spec.proofs.Forms.{WriteForm, form-writes, newest-read, newest-of}
use Rattle.spec.proofs.RecordRanges.{records-in-range}
use Rattle.spec.proofs.StoreLaws.{StoreGood, store-good, length-store_keys, store-key-length, store-size-some, store-size-most, chunk-length}
use Rattle.spec.proofs.Tabulated.{tabulated, length-tabulated, tabulated-at, tabulated-get_or, map-tabulated}
use Rattle.spec.proofs.WrittenEntries.{Fits, no_entry, Every, SizeIn}
use Rattle.spec.proofs.IndexLaws.{Writable, index-length, index-mark, index-count, index-list, index-list-bytes, index-layout, index-keys}
use Rattle.spec.proofs.IndexLaws.{index-lengths, index-size, index-body, index-entries, mark-first}
use Rattle.spec.proofs.IndexChecks.{index-passes}

-- ---- forms that a scan can write

-- one that can be written, and has room for the longest chunk of a store
pub record ScanForm (f : Form) : Type 0 where
  pub writes : WriteForm f
  pub room : newest.longest_chunk ≤ f.longest_chunk

pub newest-scans : ScanForm newest
newest-scans = record { writes = form-writes newest newest-read; room = omega arith }

-- what a scan wrote is of the newest form
pub scan-form : (list store : List ℕ) → form_of (scan_index newest list store) ≡ newest
unfolding scan_index
scan-form list store = newest-of (scan_index newest list store) (mark-first newest list _ newest-scans.writes.marked)

-- ---- the records of a chunk, for an accepted list

pub positive-lengths : (keywords : List (List ℕ)) → ((k : ℕ) → k < length keywords → Proper (get_or keywords k [])) → all_proper (map length keywords) ≡ true
positive-lengths [] h = refl
positive-lengths (x ∷ xs) h = rw (lt-ltb 0 (length x) (h 0 (zero-lt-suc _)).0, leb-true (length x) 32 (h 0 (zero-lt-suc _)).1, positive-lengths xs (λ k l. h (suc k) (omega arith)))

module _ (list : List ℕ) (accept : keyword_code list ≡ 0) where
  pub scan-positive : all_proper (map length (folded_keywords list)) ≡ true
  scan-positive =
      positive-lengths (folded_keywords list)
      (λ k l. folded-proper list (keyword-front list accept) k (omega (arith, folded-count list, (accepted list (keyword-front list accept)).count)))

  module _ (f : Form) (chunk : List ℕ) where
    pub scan-size : (scan_records f list chunk).size ≡ length chunk
    unfolding scan_records records_of
    scan-size = folded-length (flag_of list) chunk

    pub scan-records-length : length (scan_records f list chunk).records ≡ length (map length (folded_keywords list))
    unfolding scan_records records_of
    scan-records-length =
        length-map (folded_keywords list) (λ keyword. record_of f keyword (folded (flag_of list) chunk)) ∙ sym (length-map (folded_keywords list) length)

    pub scan-in-range : all_in_range f (length chunk) (map length (folded_keywords list)) (scan_records f list chunk).records ≡ true
    unfolding scan_records records_of
    scan-in-range = rw (folded-length (flag_of list) chunk) at (records-in-range f (folded_keywords list) (folded (flag_of list) chunk))

    module _ (form : FormGood f) (short : length chunk ≤ f.longest_chunk) where
      -- the chunk's body reads back as its records
      pub scan-body-read : read_body f (length (map length (folded_keywords list))) (scan_body f list chunk) ≡ (scan_records f list chunk).records
      unfolding scan_body
      scan-body-read = body-read f form (length chunk) short 0 (map length (folded_keywords list)) (scan_records f list chunk).records scan-positive scan-in-range scan-records-length

      pub scan-body-good : good_body f (map length (folded_keywords list)) (length chunk) (scan_body f list chunk) ≡ true
      unfolding scan_body
      scan-body-good = good-written f form (length chunk) short (map length (folded_keywords list)) (scan_records f list chunk).records scan-positive scan-in-range scan-records-length

-- ---- the index of a store

-- Everything that a join wants to know of the scan's index.
pub record ScanReads (f : Form) (list store index : List ℕ) : Type 0 where
  -- the index check finds nothing
  pub passes : index_code f index ≡ 0
  pub count : chunk_count index ≡ chunk_count store
  -- keyword count, flag, keywords, folded keywords: those of the list
  pub listed : SameList list (list_in index)
  pub own : take (list_size (list_in index)) (list_in index) ≡ list
  pub keys : index_keys index ≡ store_keys store
  pub sizes : (k : ℕ) → k < chunk_count store → size_at (index_layout index) index k ≡ size_at store_layout store k
  pub bodies : (k : ℕ) → k < chunk_count store → body_at index k ≡ scan_body f list (chunk_at store k)
  pub records : (k : ℕ) → k < chunk_count store → index_records f index k ≡ scan_records f list (chunk_at store k)
  -- the store's own
  pub chunks : (k : ℕ) → k < chunk_count store → length (chunk_at store k) ≡ size_at store_layout store k
  pub nonempty : (k : ℕ) → k < chunk_count store → 1 ≤ size_at store_layout store k
  pub most : (k : ℕ) → k < chunk_count store → size_at store_layout store k ≤ newest.longest_chunk
  pub key_count : length (store_keys store) ≡ chunk_count store
  pub differ : twice (store_keys store) ≡ false

module _ (f : Form) (form : ScanForm f) (list store : List ℕ) (accept : keyword_code list ≡ 0) (good : StoreGood store) where
  abbrev scan_entries : List Entry
  scan_entries = tabulated (scan_entry f list store) 0 (chunk_count store)

  entries-count : length scan_entries ≡ chunk_count store
  entries-count = length-tabulated (scan_entry f list store) 0 (chunk_count store)

  module _ (k : ℕ) (l : k < chunk_count store) where
    entry-is : get_or scan_entries k no_entry ≡ scan_entry f list store k
    entry-is = tabulated-at (scan_entry f list store) 0 (chunk_count store) k no_entry l ∙ rw zero-add

    entry-fits : Fits (scan_entry f list store k)
    unfolding scan_entry
    entry-fits = record { long = store-key-length store good k l; small = omega (arith, store-size-most store good k l, form.room, form.writes.small) }

    entry-sized : SizeIn f.longest_chunk (scan_entry f list store k)
    unfolding scan_entry
    entry-sized = record { low = store-size-some store good k l; high = omega (arith, store-size-most store good k l, form.room) }

    entry-size : (get_or scan_entries k no_entry).size ≡ size_at store_layout store k
    unfolding scan_entry
    entry-size = ap (λ (e : Entry). e.size) entry-is

    entry-body : (get_or scan_entries k no_entry).body ≡ scan_body f list (chunk_at store k)
    unfolding scan_entry
    entry-body = ap (λ (e : Entry). e.body) entry-is

  entry-keys : map (λ e. e.key) scan_entries ≡ store_keys store
  unfolding scan_entry
  entry-keys = map-tabulated (λ e. e.key) (scan_entry f list store) 0 (chunk_count store) ∙ tabulated-get_or (store_keys store) [] (chunk_count store) (length-store_keys store)

  every-entry : (P : Entry → Type 0) → ((k : ℕ) → k < chunk_count store → P (scan_entry f list store k)) → Every P scan_entries
  every-entry P h k l = let m : k < chunk_count store = omega (arith, entries-count) in rw (entry-is k m) (h k m)

  pub scan-is-index : scan_index f list store ≡ index_bytes f list scan_entries
  unfolding scan_index
  scan-is-index = refl

  module _ (within : length (index_bytes f list scan_entries) ≤ 4294967295) where
    writable : Writable f list scan_entries
    writable =
        record {
          marked = form.writes.marked;
          accepted = accept;
          few = omega (arith, entries-count, good.few);
          fit = every-entry Fits entry-fits;
          within = within;
        }

    abbrev index : List ℕ
    index = index_bytes f list scan_entries

    count-read : chunk_count index ≡ chunk_count store
    count-read = index-count f list scan_entries writable ∙ entries-count

    lengths_read : lengths_in index ≡ map length (folded_keywords list)
    lengths_read = index-lengths f list scan_entries writable ∙ sym (folded-lengths list)

    keys_of : index_keys index ≡ store_keys store
    keys_of = index-keys f list scan_entries writable ∙ entry-keys

    module _ (k : ℕ) (l : k < chunk_count store) where
      size-read : size_at (index_layout index) index k ≡ size_at store_layout store k
      size-read = index-size f list scan_entries writable k (omega (arith, entries-count)) ∙ entry-size k l

      body_of : body_at index k ≡ scan_body f list (chunk_at store k)
      body_of = index-body f list scan_entries writable k (omega (arith, entries-count)) ∙ entry-body k l

      short : length (chunk_at store k) ≤ f.longest_chunk
      short = omega (arith, chunk-length store good k l, store-size-most store good k l, form.room)

      records-read : read_body f (length (lengths_in index)) (body_at index k) ≡ (scan_records f list (chunk_at store k)).records
      records-read = rw (lengths_read, body_of) (scan-body-read list accept f (chunk_at store k) form.writes.good short)

      size_is : size_at (index_layout index) index k ≡ (scan_records f list (chunk_at store k)).size
      size_is = size-read ∙ sym (chunk-length store good k l) ∙ sym (scan-size list accept f (chunk_at store k))

      records-are : index_records f index k ≡ scan_records f list (chunk_at store k)
      unfolding index_records
      records-are = λ i. record { size = size_is i; records = records-read i }

      body-good : good_at f index k ≡ true
      body-good =
          rw (lengths_read, body_of, size-read, ← chunk-length store good k l) (scan-body-good list accept f (chunk_at store k) form.writes.good short)

    code-passes : index_code f index ≡ 0
    code-passes =
        index-passes f index (omega (arith, index-length f list scan_entries writable))
        (index-mark f list scan_entries writable)
        (rw count-read good.few)
        (index-list f list scan_entries writable).code
        (rw (index-layout f list scan_entries writable, count-read) (omega (arith, index-length f list scan_entries writable, entries-count)))
        (index-entries f list scan_entries writable f.longest_chunk 11 (every-entry (SizeIn f.longest_chunk) entry-sized))
        (rw keys_of good.differ)
        (λ k l. body-good k (rw count-read at l))

    reads : ScanReads f list store index
    reads =
        record {
          passes = code-passes;
          count = count-read;
          listed = index-list f list scan_entries writable;
          own = index-list-bytes f list scan_entries writable;
          keys = keys_of;
          sizes = size-read;
          bodies = body_of;
          records = records-are;
          chunks = chunk-length store good;
          nonempty = store-size-some store good;
          most = store-size-most store good;
          key_count = length-store_keys store;
          differ = good.differ;
        }

-- The index that a scan writes, read again.
pub scan-reads : (f : Form) → ScanForm f → (list store : List ℕ) → keyword_code list ≡ 0 → store_code store ≡ 0 → length (scan_index f list store) ≤ 4294967295
    → ScanReads f list store (scan_index f list store)
unfolding scan_index
scan-reads f form list store accept good within = reads f form list store accept (store-good store good) within

-- ---- the scan that does its work

-- A scan that refuses nothing.
pub record Scanned (f : Form) (list store : List ℕ) (room : ℕ) : Type 0 where
  pub accepted : keyword_code list ≡ 0
  pub stored : store_code store ≡ 0
  pub fits : length (scan_index f list store) ≤ room
  pub within : length (scan_index f list store) ≤ 4294967295

pub scan-done : (f : Form) (list store : List ℕ) (room : ℕ) → scan_code f list store room ≡ 0 → Scanned f list store room
unfolding scan_code scannable_code
scan-done f list store room e =
    let a = passed-whole (scannable_code list store) _ e in
    let b = passed-whole (keyword_code list) _ a.0 in
    let c = passed-whole (store_code store) _ b.1 in
    let d = passed (ltb room (length (scan_index f list store)) || ltb largest32 (length (scan_index f list store))) 9 _ (omega arith) a.1 in
    record {
      accepted = b.0;
      stored = c.0;
      fits = ltb-false room (length (scan_index f list store)) (or_left (ltb room (length (scan_index f list store))) _ d.0);
      within = ltb-false largest32 (length (scan_index f list store)) (or_right (ltb room (length (scan_index f list store))) _ d.0);
    }

-- Its index, read again.
pub scan-done-reads : (f : Form) → ScanForm f → (list store : List ℕ) (room : ℕ) → scan_code f list store room ≡ 0 → ScanReads f list store (scan_index f list store)
scan-done-reads f form list store room e =
    let s = scan-done f list store room e in
    scan-reads f form list store s.accepted s.stored s.within
