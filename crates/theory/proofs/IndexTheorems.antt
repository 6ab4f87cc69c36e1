-- Theorems 3 and 4, demand 2 on index files: what is written reads back as the same, a set of records has one written form, and the index
-- that a scan writes passes the index check and says what its chunks give. The laws are those of spec/proofs; here stand the claims.
-- Assumes nothing.
use mathlib.Core.Path.{◌≡◌, refl, sym, ap, ◌∙◌}
use mathlib.Core.Bool.{true}
use mathlib.Core.List.{List, [], ◌∷◌, map}
use Prim.Native.Nat.{ℕ, ◌≤◌, ◌<◌}
use native.Mathlib.Nat.{zero-add}
use native.Mathlib.Omega.{arith}
use lib.ListN.{length, get_or, length-map}
use Rattle.spec.specs.Bytes.{AllBytes}
use Rattle.spec.specs.Keywords.{keywords_of}
use Rattle.spec.specs.Directory.{size_at}
use Rattle.spec.specs.Store.{chunk_count, store_keys, chunk_at}
use Rattle.spec.specs.Form.{Form}
use Rattle.spec.specs.Records.{MatchRecord, ChunkRecords, body_bytes, read_body, all_in_range, good_body}
use Rattle.spec.specs.Index.{Entry, index_bytes, list_in, index_layout, index_keys, body_at, lengths_in, index_records, good_at, index_code, list_bytes_in}
use Rattle.spec.specs.Scan.{scan_records, scan_index, scan_code}
use Rattle.theory.specs.RecordSets.{Said, nothing, entry_for, written_index, AllFitting, Says, said_in, scanned_records}
use Rattle.spec.proofs.JoinIsSearch.{get_d_map}
use Rattle.spec.proofs.KeywordLaws.{folded-lengths}
use Rattle.spec.proofs.KeywordReads.{own-list}
use Rattle.spec.proofs.RecordLaws.{FormGood, all_proper, body-read, good-written, good-is-written}
use Rattle.spec.proofs.Tabulated.{length-tabulated, tabulated-at, tabulated-get_or, tabulated-same, map-tabulated}
use Rattle.spec.proofs.WrittenEntries.{Fits, no_entry, Every, SizeIn}
use Rattle.spec.proofs.IndexLaws.{Writable, index-length, index-mark, index-count, index-list, index-list-bytes, index-layout, index-keys}
use Rattle.spec.proofs.IndexLaws.{index-lengths, index-size, index-body, index-entries}
use Rattle.spec.proofs.IndexChecks.{IndexGood, index-good, index-passes, length-index_keys}
use Rattle.spec.proofs.Forms.{WriteForm}
use Rattle.spec.proofs.ScanLaws.{ScanForm, scan-positive, scan-done-reads}
use Rattle.spec.proofs.OneForm.{entry_of, checked-is-written}

-- ---- theorem 3: written records read back as the same records

module _ (f : Form) (form : WriteForm f) (list : List ℕ) (said : List Said) (fit : AllFitting f list said) where
  abbrev entries : List Entry
  entries = map (entry_for f list) said

  abbrev index : List ℕ
  index = index_bytes f list entries

  entries-length : length entries ≡ length said
  entries-length = length-map said (entry_for f list)

  entry_at : (k : ℕ) → k < length said → get_or entries k no_entry ≡ entry_for f list (get_or said k nothing)
  entry_at k l = get_d_map (entry_for f list) said k nothing no_entry l

  every-entry : (P : Entry → Type 0) → ((k : ℕ) → k < length said → P (entry_for f list (get_or said k nothing))) → Every P entries
  every-entry P h k l = let m : k < length said = omega (arith, entries-length) in rw (entry_at k m) (h k m)

  writable : Writable f list entries
  unfolding written_index
  writable =
      record {
        marked = form.marked;
        accepted = fit.accepted;
        few = omega (arith, entries-length, fit.few);
        fit = every-entry Fits (λ k l. record { long = (fit.each k l).long; small = omega (arith, (fit.each k l).high, form.small) });
        within = fit.within;
      }

  count-is : chunk_count index ≡ length said
  count-is = index-count f list entries writable ∙ entries-length

  lengths-are : lengths_in index ≡ map length (keywords_of list)
  lengths-are = index-lengths f list entries writable

  positive : all_proper (map length (keywords_of list)) ≡ true
  positive = rw folded-lengths at (scan-positive list fit.accepted)

  keys-are : index_keys index ≡ map (λ s. s.key) said
  keys-are = index-keys f list entries writable ∙ map-map said
    where
      map-map : (l : List Said) → map (λ e. e.key) (map (entry_for f list) l) ≡ map (λ s. s.key) l
      map-map [] = refl
      map-map (s ∷ l) = ap {B = List (List ℕ)} (λ t. s.key ∷ t) (map-map l)

  module _ (k : ℕ) (l : k < length said) where
    abbrev here : Said
    here = get_or said k nothing

    size_is : size_at (index_layout index) index k ≡ here.chunk.size
    size_is = index-size f list entries writable k (omega (arith, entries-length)) ∙ ap (λ (e : Entry). e.size) (entry_at k l)

    body_is : body_at index k ≡ body_bytes f (map length (keywords_of list)) here.chunk.records
    body_is = index-body f list entries writable k (omega (arith, entries-length)) ∙ ap (λ (e : Entry). e.body) (entry_at k l)

    read_is : read_body f (length (lengths_in index)) (body_at index k) ≡ here.chunk.records
    read_is =
        rw (lengths-are, body_is)
        (body-read f form.good here.chunk.size (fit.each k l).high 0 (map length (keywords_of list)) here.chunk.records
        positive (fit.each k l).ranges (fit.each k l).count)

    records-are : index_records f index k ≡ here.chunk
    unfolding index_records
    records-are = λ i. record { size = size_is i; records = read_is i }

    good-is : good_at f index k ≡ true
    good-is =
        rw (lengths-are, body_is, size_is)
        (good-written f form.good here.chunk.size (fit.each k l).high (map length (keywords_of list)) here.chunk.records
        positive (fit.each k l).ranges (fit.each k l).count)

  passes-check : index_code f index ≡ 0
  passes-check =
      index-passes f index (omega (arith, index-length f list entries writable))
      (index-mark f list entries writable)
      (rw count-is fit.few)
      (index-list f list entries writable).code
      (rw (index-layout f list entries writable, count-is) (omega (arith, index-length f list entries writable, entries-length)))
      (index-entries f list entries writable f.longest_chunk 11
      (every-entry (SizeIn f.longest_chunk) (λ k l. record { low = (fit.each k l).low; high = (fit.each k l).high })))
      (rw keys-are fit.differ)
      (λ k l. good-is k (rw count-is at l))

  -- Whatever records fit an index file: the file is accepted, and reads back as these records.
  pub records-read-back : Says f list said (written_index f list said)
  unfolding written_index
  records-read-back =
      record {
        passes = passes-check;
        listed = index-list-bytes f list entries writable;
        keys = keys-are;
        records = records-are;
      }

-- ---- theorem 3: one written form

module _ (f : Form) (list : List ℕ) (said : List Said) (index : List ℕ) (says : Says f list said index) where
  good : IndexGood f index
  good = index-good f index says.passes

  count_of : chunk_count index ≡ length said
  count_of = sym (length-index_keys index) ∙ ap length says.keys ∙ length-map said (λ s. s.key)

  lengths-of : lengths_in index ≡ map length (keywords_of list)
  unfolding lengths_in
  lengths-of = ap (map length) ((own-list (list_in index) good.list).keywords ∙ ap keywords_of says.listed)

  entry-says : (k : ℕ) → k < length said → entry_of f index k ≡ entry_for f list (get_or said k nothing)
  unfolding entry_of index_records
  entry-says k l = λ i. record {
    key = key i;
    size = ap (λ (c : ChunkRecords). c.size) sized i;
    body = body_bytes f (lengths-of i) (says.records k l i).records;
  }
    where
      key : get_or (index_keys index) k [] ≡ (get_or said k nothing).key
      key = ap (λ (keys : List (List ℕ)). get_or keys k []) says.keys ∙ get_d_map (λ s. s.key) said k nothing [] l

      sized : index_records f index k ≡ (get_or said k nothing).chunk
      sized = says.records k l

  -- A file of bytes that is accepted and says these records is the one that is written for them.
  pub one-index-form : AllBytes index → index ≡ written_index f list said
  unfolding written_index
  one-index-form bytes =
      checked-is-written f index good bytes
      ∙ rw (says.listed, count_of)
      (ap (index_bytes f list)
      (tabulated-same (entry_of f index) (λ k. entry_for f list (get_or said k nothing)) (length said) entry-says
      ∙ sym (map-tabulated (entry_for f list) (λ k. get_or said k nothing) 0 (length said))
      ∙ ap (map (entry_for f list)) (tabulated-get_or said nothing (length said) refl)))

module _ (f : Form) (index : List ℕ) where
  abbrev reading : ℕ → Said
  reading k = record { key = get_or (index_keys index) k []; chunk = index_records f index k }

  said-count : length (said_in f index) ≡ chunk_count index
  unfolding said_in
  said-count = length-tabulated reading 0 (chunk_count index)

  said-keys : index_keys index ≡ map (λ s. s.key) (said_in f index)
  unfolding said_in
  said-keys = sym (map-tabulated (λ s. s.key) reading 0 (chunk_count index) ∙ tabulated-get_or (index_keys index) [] (chunk_count index) (length-index_keys index))

  said_at : (k : ℕ) → k < chunk_count index → get_or (said_in f index) k nothing ≡ reading k
  unfolding said_in
  said_at k l = rw zero-add at (tabulated-at reading 0 (chunk_count index) k nothing l)

  said-records : (k : ℕ) → k < length (said_in f index) → index_records f index k ≡ (get_or (said_in f index) k nothing).chunk
  said-records k l = let m : k < chunk_count index = omega (arith, said-count) in ap (λ (s : Said). s.chunk) (sym (said_at k m))

-- Two files of bytes that are accepted and say the same are the same.
pub same_index : (f : Form) (list : List ℕ) (said : List Said) (index other : List ℕ) → Says f list said index → Says f list said other
    → AllBytes index → AllBytes other → index ≡ other
same_index f list said index other s o b c = one-index-form f list said index s b ∙ sym (one-index-form f list said other o c)

-- The same said by what is read: the keyword list's bytes, the fingerprints, and of every entry the length and the records.
pub same-reading : (f : Form) (index other : List ℕ) → index_code f index ≡ 0 → index_code f other ≡ 0 → AllBytes index → AllBytes other
    → list_bytes_in index ≡ list_bytes_in other → index_keys index ≡ index_keys other
    → ((k : ℕ) → k < chunk_count index → index_records f index k ≡ index_records f other k) → index ≡ other
same-reading f index other p q b c l keys records =
    same_index f (list_bytes_in other) (said_in f other) index other
    (record {
      passes = p;
      listed = l;
      keys = keys ∙ said-keys f other;
      records = λ k m. records k (omega (arith, said-count f other, count)) ∙ said-records f other k m;
    })
    (record { passes = q; listed = refl; keys = said-keys f other; records = said-records f other })
    b c
  where
    count : chunk_count index ≡ chunk_count other
    count = sym (length-index_keys index) ∙ ap length keys ∙ length-index_keys other

-- ---- theorem 3, of one body

-- Records in range for keywords of these lengths read back, and their writing is good.
pub record-body-reads : (f : Form) → FormGood f → (size : ℕ) (lengths : List ℕ) (records : List MatchRecord) → size ≤ f.longest_chunk → all_proper lengths ≡ true
    → all_in_range f size lengths records ≡ true → length records ≡ length lengths
    → (read_body f (length lengths) (body_bytes f lengths records) ≡ records) × (good_body f lengths size (body_bytes f lengths records) ≡ true)
record-body-reads f form size lengths records h p r l = (body-read f form size h 0 lengths records p r l, good-written f form size h lengths records p r l)

-- A good body is the writing of the records that it says, and they are in range.
pub good-body-is-written : (f : Form) (lengths : List ℕ) (size : ℕ) (body : List ℕ) → good_body f lengths size body ≡ true
    → (body ≡ body_bytes f lengths (read_body f (length lengths) body)) × (all_in_range f size lengths (read_body f (length lengths) body) ≡ true)
good-body-is-written = good-is-written

-- ---- theorem 4: the scan

module _ (f : Form) (form : ScanForm f) (list store : List ℕ) (room : ℕ) (done : scan_code f list store room ≡ 0) where
  -- The index of a scan that did its work passes the index check.
  pub scan-passes-check : index_code f (scan_index f list store) ≡ 0
  scan-passes-check = (scan-done-reads f form list store room done).passes

  abbrev saying : ℕ → Said
  saying k = record { key = get_or (store_keys store) k []; chunk = scan_records f list (chunk_at store k) }

  saying-at : (k : ℕ) → k < chunk_count store → get_or (scanned_records f list store) k nothing ≡ saying k
  unfolding scanned_records
  saying-at k l = rw zero-add at (tabulated-at saying 0 (chunk_count store) k nothing l)

  saying-keys : map (λ s. s.key) (scanned_records f list store) ≡ store_keys store
  unfolding scanned_records
  saying-keys =
      map-tabulated (λ s. s.key) saying 0 (chunk_count store)
      ∙ tabulated-get_or (store_keys store) [] (chunk_count store) (scan-done-reads f form list store room done).key_count

  saying-count : length (scanned_records f list store) ≡ chunk_count store
  unfolding scanned_records
  saying-count = length-tabulated saying 0 (chunk_count store)

  -- It says of every chunk of the store, in the store's order, its fingerprint, its length and the records that the chunk gives.
  pub scan-says : Says f list (scanned_records f list store) (scan_index f list store)
  scan-says =
      let r = scan-done-reads f form list store room done in
      record {
        passes = r.passes;
        listed = r.own;
        keys = r.keys ∙ sym saying-keys;
        records = λ k l.
            let m : k < chunk_count store = omega (arith, saying-count) in
            r.records k m ∙ ap (λ (s : Said). s.chunk) (sym (saying-at k m));
      }
