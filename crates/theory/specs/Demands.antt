-- The three demands on the base, as statements about the definitions that the contracts of the operations cite: `demand-1`, `demand-2` and
-- `demand-3` (proofs/Demands) prove them. That every operation takes all inputs and ends is what its contract says, which has no `requires`.
use Rattle.std.specs.Prelude.{◌≡◌, ◌↔◌, ◌≢◌, true, List, [], ◌∷◌, ℕ, ◌+◌, ◌≤◌, ◌<◌, length, take, get_or}
use Rattle.spec.specs.Outcome.{Outcome, Done, Refused, code_of, value_of}
use Rattle.spec.specs.Scanned.{Scanned}
use Rattle.spec.specs.Bytes.{AllBytes, written, member}
use Rattle.spec.specs.Keywords.{flag_of, fold_byte, folded, keywords_of, folded_keywords, keyword_code}
use Rattle.spec.specs.Store.{chunk_count, chunk_at, store_code}
use Rattle.spec.specs.Form.{Form, newest, form_of}
use Rattle.spec.specs.Records.{record_at}
use Rattle.spec.specs.Index.{index_records, index_code}
use Rattle.spec.specs.Recipes.{files_of}
use Rattle.spec.specs.Join.{Occurrence, keyword_at, Clients, tally_with, join_list, list_bytes, read_list, join_code, join_outcome, join_buffer, join_tally}
use Rattle.spec.specs.Query.{query_lines, lines_bytes, query_code, query_outcome, query_buffer}
use Rattle.spec.specs.Lookup.{find_chunk, chunk_start, chunk_of, find_body, body_start, body_of}
use Rattle.spec.specs.Trie.{scan_moves}
use Rattle.spec.specs.Scan.{scan_index, scan_code, scan_answer, scan_buffer, scanned_code, scanned_length}
use Rattle.spec.specs.Search.{restored, direct_search, search_code, search_outcome, search_buffer, search_tally, searched_code}
use Rattle.spec.specs.Compact.{compacted, compact_code, compact_outcome, compact_buffer}
use Rattle.theory.specs.SearchList.{is_in, in_order}
use Rattle.theory.specs.Published.{Published}
use Rattle.theory.specs.RecordSets.{Said, nothing, AllFitting, Says, scanned_records, IndexForm, WrittenOnce}
use Rattle.theory.specs.Demand3.{NoScanRefusal, NoJoinRefusal, scanned}

-- ---- demand 1: an operation does its work, or refuses with document 01's number and changes no byte and no count

-- An operation whose tests give `code`, on a buffer that it is lent: done with its value and its work in the buffer, or refused with the number
-- alone and every byte of the buffer as it was.
pub record Answered (code value : ℕ) (worked buffer : List ℕ) (outcome : Outcome) (after : List ℕ) : Type 0 where
  pub done : code ≡ 0 → (outcome ≡ Done value) × (after ≡ worked)
  pub refused : code ≢ 0 → (outcome ≡ Refused code) × (after ≡ buffer)

-- A tally that an operation is lent (request #110): done with the occurrences of each client's keywords in the list added to its count, or refused with every
-- count as it was.
pub record Tallied (code : ℕ) (clients : Clients) (list : List Occurrence) (after : List ℕ) : Type 0 where
  pub done : code ≡ 0 → after ≡ tally_with clients list
  pub refused : code ≢ 0 → after ≡ clients.tally

-- A scan, on a buffer that it is lent: done with the index's length, the moves of its walk (request #103) and the index in the buffer; or refused
-- with the number alone and every byte of the buffer as it was.
pub record ScanAnswered (list store buffer : List ℕ) (scan : Scanned) (after : List ℕ) : Type 0 where
  pub done : scan_code newest list store (length buffer) ≡ 0
      → (scan ≡ Scanned.Done (length (scan_index newest list store)) (scan_moves list store)) × (after ≡ written buffer (scan_index newest list store))
  pub refused : scan_code newest list store (length buffer) ≢ 0
      → (scan ≡ Scanned.Refused (scan_code newest list store (length buffer))) × (after ≡ buffer)

-- A search is a scan into one buffer and a join into another: a refusal of the join comes after the scan's work.
pub record SearchAnswered (list store recipes : List ℕ) (clients : Clients) (index out : List ℕ) : Type 0 where
  -- its number is the scan's, or where that is 0 the join's
  pub number : searched_code (search_outcome newest list store recipes clients (length index) (length out))
      ≡ search_code newest list store recipes clients (length index) (length out)
  -- a refusal of either leaves the list buffer as it was; one of the scan leaves the index buffer too
  pub list_kept : search_code newest list store recipes clients (length index) (length out) ≢ 0
      → search_buffer newest list store recipes clients (length index) out ≡ out
  pub index_kept : scan_code newest list store (length index) ≢ 0 → scan_buffer newest list store index ≡ index
  -- where both are done the direct search's list is added to the tally; a refusal of either leaves it as it was
  pub tallied : Tallied (search_code newest list store recipes clients (length index) (length out)) clients (direct_search list store recipes)
      (search_tally newest list store recipes clients (length index) (length out))

-- A refused lookup shows the empty slice at the start.
pub record LookupAnswered (code start : ℕ) (slice : List ℕ) : Type 0 where
  pub empty : code ≢ 0 → (start ≡ 0) × (slice ≡ [])

-- The number of each check and operation is 0 or one of those that documents 01 and 02 give it.
pub record Numbers : Type 0 where
  pub keywords : (list : List ℕ) → member (keyword_code list) (0 ∷ 1 ∷ 2 ∷ 3 ∷ 4 ∷ []) ≡ true
  pub store : (store : List ℕ) → member (store_code store) (0 ∷ 5 ∷ 6 ∷ 7 ∷ 8 ∷ 20 ∷ []) ≡ true
  pub scan : (list store : List ℕ) (room : ℕ) → member (scan_code newest list store room) (0 ∷ 1 ∷ 2 ∷ 3 ∷ 4 ∷ 5 ∷ 6 ∷ 7 ∷ 8 ∷ 9 ∷ 20 ∷ []) ≡ true
  pub index : (index : List ℕ) → member (index_code (form_of index) index) (0 ∷ 1 ∷ 2 ∷ 3 ∷ 4 ∷ 10 ∷ 11 ∷ 12 ∷ 13 ∷ []) ≡ true
  -- request #110: 22 and 23 too
  pub join : (index recipes : List ℕ) (clients : Clients) (room : ℕ)
      → member (join_code (form_of index) index recipes clients room) (0 ∷ 1 ∷ 2 ∷ 3 ∷ 4 ∷ 10 ∷ 11 ∷ 12 ∷ 13 ∷ 14 ∷ 15 ∷ 16 ∷ 17 ∷ 18 ∷ 22 ∷ 23 ∷ []) ≡ true
  -- 17 under the two older marks alone (request #108)
  pub join_sets : (index recipes : List ℕ) (clients : Clients) (room : ℕ) → (form_of index).sets ≡ true
      → member (join_code (form_of index) index recipes clients room) (0 ∷ 1 ∷ 2 ∷ 3 ∷ 4 ∷ 10 ∷ 11 ∷ 12 ∷ 13 ∷ 14 ∷ 15 ∷ 16 ∷ 18 ∷ 22 ∷ 23 ∷ []) ≡ true
  -- request #109: 21 too; 17 as in a join
  pub query : (index recipes query : List ℕ) (room : ℕ)
      → member (query_code (form_of index) index recipes query room) (0 ∷ 1 ∷ 2 ∷ 3 ∷ 4 ∷ 10 ∷ 11 ∷ 12 ∷ 13 ∷ 14 ∷ 15 ∷ 16 ∷ 17 ∷ 18 ∷ 21 ∷ []) ≡ true
  pub query_sets : (index recipes query : List ℕ) (room : ℕ) → (form_of index).sets ≡ true
      → member (query_code (form_of index) index recipes query room) (0 ∷ 1 ∷ 2 ∷ 3 ∷ 4 ∷ 10 ∷ 11 ∷ 12 ∷ 13 ∷ 14 ∷ 15 ∷ 16 ∷ 18 ∷ 21 ∷ []) ≡ true
  pub searches : (list store recipes : List ℕ) (clients : Clients) (index_room room : ℕ)
      → member (search_code newest list store recipes clients index_room room)
      (0 ∷ 1 ∷ 2 ∷ 3 ∷ 4 ∷ 5 ∷ 6 ∷ 7 ∷ 8 ∷ 9 ∷ 14 ∷ 15 ∷ 16 ∷ 18 ∷ 20 ∷ 22 ∷ 23 ∷ []) ≡ true
  pub compact : (store recipes : List ℕ) (room : ℕ) → member (compact_code store recipes room) (0 ∷ 5 ∷ 6 ∷ 7 ∷ 8 ∷ 9 ∷ 14 ∷ 15 ∷ 20 ∷ []) ≡ true
  pub chunk : (store key : List ℕ) → member (find_chunk store key) (0 ∷ 5 ∷ 6 ∷ 7 ∷ 8 ∷ 15 ∷ 19 ∷ 20 ∷ []) ≡ true
  pub body : (index key : List ℕ) → member (find_body (form_of index) index key) (0 ∷ 1 ∷ 2 ∷ 3 ∷ 4 ∷ 10 ∷ 11 ∷ 12 ∷ 13 ∷ 15 ∷ 19 ∷ []) ≡ true

pub record Demand1 : Type 0 where
  pub scan : (list store buffer : List ℕ)
      → ScanAnswered list store buffer (scan_answer newest list store (length buffer)) (scan_buffer newest list store buffer)
  pub join : (index recipes : List ℕ) (clients : Clients) (buffer : List ℕ)
      → Answered (join_code (form_of index) index recipes clients (length buffer)) (length (join_list (form_of index) index recipes))
      (written buffer (list_bytes (join_list (form_of index) index recipes))) buffer
      (join_outcome (form_of index) index recipes clients (length buffer)) (join_buffer (form_of index) index recipes clients buffer)
  pub tallies : (index recipes : List ℕ) (clients : Clients) (room : ℕ)
      → Tallied (join_code (form_of index) index recipes clients room) clients (join_list (form_of index) index recipes)
      (join_tally (form_of index) index recipes clients room)
  pub query : (index recipes query buffer : List ℕ)
      → Answered (query_code (form_of index) index recipes query (length buffer)) (length (query_lines (form_of index) index recipes query))
      (written buffer (lines_bytes (query_lines (form_of index) index recipes query))) buffer
      (query_outcome (form_of index) index recipes query (length buffer)) (query_buffer (form_of index) index recipes query buffer)
  pub searches : (list store recipes : List ℕ) (clients : Clients) (index out : List ℕ) → SearchAnswered list store recipes clients index out
  pub compact : (store recipes buffer : List ℕ)
      → Answered (compact_code store recipes (length buffer)) (length (compacted store recipes)) (written buffer (compacted store recipes)) buffer
      (compact_outcome store recipes (length buffer)) (compact_buffer store recipes buffer)
  pub chunk : (store key : List ℕ) → LookupAnswered (find_chunk store key) (chunk_start store key) (chunk_of store key)
  pub body : (index key : List ℕ) → LookupAnswered (find_body (form_of index) index key) (body_start (form_of index) index key) (body_of (form_of index) index key)
  pub numbers : Numbers

-- ---- demand 2: the records are the published method's, read back as the same, and have one written form

pub record Demand2 : Type 0 where
  -- what is read from a scan's buffer is, for each chunk and keyword, the published record
  pub published : (list store buffer : List ℕ) → scanned_code (scan_answer newest list store (length buffer)) ≡ 0
      → (k w : ℕ) → k < chunk_count store → w < length (folded_keywords list)
      → Published (keyword_at (folded_keywords list) w) (folded (flag_of list) (chunk_at store k)) newest
      (record_at (index_records (form_of (scanned list store buffer)) (scanned list store buffer) k) w)
  -- the scan's index says these records, in the store's order, under the fingerprints of the chunks
  pub says : (list store buffer : List ℕ) → scanned_code (scan_answer newest list store (length buffer)) ≡ 0
      → Says (form_of (scanned list store buffer)) list (scanned_records newest list store) (scanned list store buffer)
  -- each set of records that fits an index of a form (keyword list and fingerprints are bytes) reads back, and has one writing in that form
  pub once : (f : Form) → IndexForm f → (list : List ℕ) (said : List Said) → AllFitting f list said → AllBytes list
      → ((k : ℕ) → k < length said → AllBytes (get_or said k nothing).key) → WrittenOnce f list said

-- ---- demand 3: a scan and a join of what it wrote list exactly the occurrences in the restored files

-- A keyword "stands at" an offset of some bytes when its bytes from there all lie within them and each compares alike with the keyword's byte
-- in its place (document 01, "Words").
pub record StandsAt (flag : ℕ) (keyword text : List ℕ) (at : ℕ) : Type 0 where
  pub within : at + length keyword ≤ length text
  pub alike : (i : ℕ) → i < length keyword → fold_byte flag (get_or text (at + i) 0) ≡ fold_byte flag (get_or keyword i 0)

-- It is one of the list's keywords, and stands at that offset of that file's joined chunks.
pub record StandsIn (list store recipes : List ℕ) (o : Occurrence) : Type 0 where
  pub file : o.file < length (files_of recipes)
  pub keyword : o.keyword < length (keywords_of list)
  pub stands : StandsAt (flag_of list) (keyword_at (keywords_of list) o.keyword) (restored store (get_or (files_of recipes) o.file [])) o.offset

-- What the contracts of scan::scan and join::tallied say of two calls: their answers, their buffers after (buffer', out'), and the tally after (tally').
pub record Calls (list store recipes : List ℕ) (clients : Clients) (buffer out : List ℕ) (scan : Scanned) (join : Outcome)
    (buffer' index out' tally' : List ℕ) : Type 0 where
  pub scanned : scan ≡ scan_answer newest list store (length buffer)
  pub wrote : buffer' ≡ scan_buffer newest list store buffer
  -- the join's index: the bytes that the scan wrote, of the length it reported, in the scan's buffer or a copy
  pub handed : index ≡ take (scanned_length scan) buffer'
  pub joined : join ≡ join_outcome (form_of index) index recipes clients (length out)
  pub listed : out' ≡ join_buffer (form_of index) index recipes clients out
  pub tallied : tally' ≡ join_tally (form_of index) index recipes clients (length out)

-- What then holds of the answers, of the list buffer and of the tally.
pub record Claim (list store recipes : List ℕ) (clients : Clients) (buffer out : List ℕ) (scan : Scanned) (join : Outcome) (out' tally' : List ℕ) : Type 0 where
  -- both do their work exactly when no refusal of either holds
  pub both : ((scanned_code scan ≡ 0) × (code_of join ≡ 0))
      ↔ (NoScanRefusal list store (length buffer) × NoJoinRefusal list store recipes clients (length out))
  -- and then the list holds a file, an offset and a keyword exactly when the keyword stands there
  pub exactly : scanned_code scan ≡ 0 → code_of join ≡ 0 → (o : Occurrence) → (is_in o (read_list (value_of join) out') ≡ true) ↔ StandsIn list store recipes o
  -- it rises by file, then offset, then keyword
  pub ordered : scanned_code scan ≡ 0 → code_of join ≡ 0 → in_order (read_list (value_of join) out') ≡ true
  -- each is there once
  pub once : scanned_code scan ≡ 0 → code_of join ≡ 0 → (i j : ℕ) (none : Occurrence) → i < j → j < value_of join
      → get_or (read_list (value_of join) out') i none ≢ get_or (read_list (value_of join) out') j none
  -- the count is the list's length
  pub count : scanned_code scan ≡ 0 → code_of join ≡ 0 → value_of join ≡ length (direct_search list store recipes)
  -- it is the direct search's list
  pub found : scanned_code scan ≡ 0 → code_of join ≡ 0 → read_list (value_of join) out' ≡ direct_search list store recipes
  -- its occurrences are added to the tally (request #110); a join that is refused leaves it as it was
  pub tallied : scanned_code scan ≡ 0 → code_of join ≡ 0 → tally' ≡ tally_with clients (direct_search list store recipes)
  pub tally_kept : code_of join ≢ 0 → tally' ≡ clients.tally

pub record Demand3 : Type 0 where
  pub calls : (list store recipes : List ℕ) (clients : Clients) (buffer out : List ℕ) (scan : Scanned) (join : Outcome) (buffer' index out' tally' : List ℕ)
      → Calls list store recipes clients buffer out scan join buffer' index out' tally' → Claim list store recipes clients buffer out scan join out' tally'
