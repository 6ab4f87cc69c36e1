-- Request #101: two accepted stores that hold the same fingerprints with the same bytes, in any two orders, and what is then the same: the lookups, the
-- scan's answer, the body under each fingerprint, the refusal or the list of a join and of a search. The chunks of a store are what `stored_chunks` reads.
use Rattle.std.specs.Prelude.{◌≡◌, ◌≢◌, Bool, true, false, ◌&&◌, ◌||◌, List, [], ◌∷◌, ◌++◌, ℕ, replicate, length}
use Rattle.spec.specs.Outcome.{Outcome, Done, code_of, value_of}
use Rattle.spec.specs.Scanned.{Scanned}
use Rattle.spec.specs.Bytes.{same, every}
use Rattle.spec.specs.Store.{Chunk, store_bytes, chunk_count, store_code, stored_chunks}
use Rattle.spec.specs.Form.{form1, newest, form_of}
use Rattle.spec.specs.Index.{index_keys}
use Rattle.spec.specs.Lookup.{find_chunk, chunk_start, chunk_of, find_body, body_of}
use Rattle.spec.specs.Join.{Clients, one_client, join_outcome, join_buffer, join_tally, read_list}
use Rattle.spec.specs.Query.{query_outcome, query_buffer}
use Rattle.spec.specs.Scan.{scan_index, scan_answer, scanned_code}
use Rattle.spec.specs.Search.{search_code, search_outcome, search_buffer, search_tally, searched_count}
use Rattle.theory.specs.Cases.{store, keywords, recipes, fingerprint, one_chunk, nine, chunk_xAB, chunk_aBAX, chunk_a}
use Rattle.theory.specs.Demand3.{scanned}

-- ---- the same chunks

-- The same bytes under the same fingerprint; they are in the list.
abbrev pub same_chunk : Chunk → Chunk → Bool
same_chunk c d = same c.key d.key && same c.bytes d.bytes

abbrev pub among : Chunk → List Chunk → Bool
among c [] = false
among c (d ∷ rest) = same_chunk c d || among c rest

-- Every chunk of the first store is in the second, under the same fingerprint.
abbrev pub held_by : List ℕ → List ℕ → Bool
held_by here there = every (λ c. among c (stored_chunks there)) (stored_chunks here)

-- Two stores hold the same fingerprints with the same bytes, in any two orders.
unfoldable pub same_chunks : List ℕ → List ℕ → Bool
same_chunks here there = held_by here there && held_by there here

-- The request's two stores: both are accepted (the store check finds nothing), and they hold the same fingerprints with the same bytes.
pub record Reordered (here there : List ℕ) : Type 0 where
  pub accepted : store_code here ≡ 0
  pub accepted_there : store_code there ≡ 0
  pub chunks : same_chunks here there ≡ true

-- ---- what is then the same, of the definitions that the contracts cite

-- Queries of two index files with the same recipes (request #109): the same refusal or the same number of lines, and the same buffer after it.
pub record QueriesAlike (index other recipes : List ℕ) : Type 0 where
  pub outcome : (query : List ℕ) (room : ℕ)
      → query_outcome (form_of index) index recipes query room ≡ query_outcome (form_of other) other recipes query room
  pub bytes : (query out : List ℕ) → query_buffer (form_of index) index recipes query out ≡ query_buffer (form_of other) other recipes query out

-- Two index files answer the same, each read by the form that its mark names. They have the same length; their entries may stand in another order.
pub record AnswerAlike (index other : List ℕ) : Type 0 where
  pub size : length index ≡ length other
  -- the body under each fingerprint: the lookup's number and the bytes
  pub find : (key : List ℕ) → find_body (form_of index) index key ≡ find_body (form_of other) other key
  pub body : (key : List ℕ) → body_of (form_of index) index key ≡ body_of (form_of other) other key
  -- a join, with the same key and tallies that are equal at entry (request #110): the same refusal or the same count, and the same buffer and tally after it
  pub outcome : (recipes : List ℕ) (clients : Clients) (room : ℕ)
      → join_outcome (form_of index) index recipes clients room ≡ join_outcome (form_of other) other recipes clients room
  pub bytes : (recipes : List ℕ) (clients : Clients) (out : List ℕ)
      → join_buffer (form_of index) index recipes clients out ≡ join_buffer (form_of other) other recipes clients out
  pub tally : (recipes : List ℕ) (clients : Clients) (room : ℕ)
      → join_tally (form_of index) index recipes clients room ≡ join_tally (form_of other) other recipes clients room
  -- into two list buffers of equal length, where the join does its work: the same list
  pub listed : (recipes : List ℕ) (clients : Clients) (out out₂ : List ℕ) → length out ≡ length out₂
      → code_of (join_outcome (form_of index) index recipes clients (length out)) ≡ 0
      → read_list (value_of (join_outcome (form_of index) index recipes clients (length out))) (join_buffer (form_of index) index recipes clients out)
      ≡ read_list (value_of (join_outcome (form_of other) other recipes clients (length out₂))) (join_buffer (form_of other) other recipes clients out₂)
  -- a query (request #109)
  pub queries : (recipes : List ℕ) → QueriesAlike index other recipes

-- Two searches with the same key and tallies that are equal at entry answer the same, with index buffers of these two lengths.
pub record SearchAlike (list here there : List ℕ) (index_room index_room₂ : ℕ) : Type 0 where
  -- the same refusal, or the same index length and count
  pub outcome : (recipes : List ℕ) (clients : Clients) (room : ℕ)
      → search_outcome newest list here recipes clients index_room room ≡ search_outcome newest list there recipes clients index_room₂ room
  -- the same buffer after it, and the same tally
  pub bytes : (recipes : List ℕ) (clients : Clients) (out : List ℕ)
      → search_buffer newest list here recipes clients index_room out ≡ search_buffer newest list there recipes clients index_room₂ out
  pub tally : (recipes : List ℕ) (clients : Clients) (room : ℕ)
      → search_tally newest list here recipes clients index_room room ≡ search_tally newest list there recipes clients index_room₂ room
  -- into two list buffers of equal length, where the search does its work: the same list
  pub listed : (recipes : List ℕ) (clients : Clients) (out out₂ : List ℕ) → length out ≡ length out₂
      → search_code newest list here recipes clients index_room (length out) ≡ 0
      → read_list (searched_count (search_outcome newest list here recipes clients index_room (length out)))
      (search_buffer newest list here recipes clients index_room out)
      ≡ read_list (searched_count (search_outcome newest list there recipes clients index_room₂ (length out₂)))
      (search_buffer newest list there recipes clients index_room₂ out₂)

-- A keyword list on two such stores.
pub record SameChunks (list here there : List ℕ) : Type 0 where
  -- the lookup of a chunk: the number and the bytes; where they lie may differ
  pub find : (key : List ℕ) → find_chunk here key ≡ find_chunk there key
  pub chunk : (key : List ℕ) → chunk_of here key ≡ chunk_of there key
  pub count : chunk_count here ≡ chunk_count there
  -- a scan into index buffers of equal length: the same refusal, or the same length and moves
  pub scan : (room : ℕ) → scan_answer newest list here room ≡ scan_answer newest list there room
  -- index files both written in full, into buffers of any two lengths: the scans report the same length and moves, and the files answer the same
  pub written : (room room₂ : ℕ) → scanned_code (scan_answer newest list here room) ≡ 0 → scanned_code (scan_answer newest list there room₂) ≡ 0
      → scan_answer newest list here room ≡ scan_answer newest list there room₂
  pub indexes : (buffer buffer₂ : List ℕ)
      → scanned_code (scan_answer newest list here (length buffer)) ≡ 0 → scanned_code (scan_answer newest list there (length buffer₂)) ≡ 0
      → AnswerAlike (scanned list here buffer) (scanned list there buffer₂)
  -- searches whose scans are both done or refused alike (as they are with index buffers of equal length, by `scan`)
  pub searches : (index_room index_room₂ : ℕ) → scanned_code (scan_answer newest list here index_room) ≡ scanned_code (scan_answer newest list there index_room₂)
      → SearchAlike list here there index_room index_room₂

-- ---- what is then the same, of calls

-- Both index files are written in full: both scans did their work.
abbrev pub WrittenInFull : Scanned → Scanned → Type 0
WrittenInFull scan scan₂ = (scanned_code scan ≡ 0) × (scanned_code scan₂ ≡ 0)

-- Two joins with these list buffers (out, out₂), answers, and buffers and tallies after (out', out₂', tally', tally₂') say the same.
pub record JoinsAlike (out out₂ : List ℕ) (join join₂ : Outcome) (out' out₂' tally' tally₂' : List ℕ) : Type 0 where
  -- the same refusal or the same count
  pub answers : join ≡ join₂
  -- where they do their work, the same list
  pub listed : code_of join ≡ 0 → read_list (value_of join) out' ≡ read_list (value_of join₂) out₂'
  -- a refusal leaves each buffer as it was
  pub kept : code_of join ≢ 0 → (out' ≡ out) × (out₂' ≡ out₂)
  -- buffers that were the same are the same after it
  pub bytes : out ≡ out₂ → out' ≡ out₂'
  -- the tallies, equal at entry, are equal after it
  pub tallies : tally' ≡ tally₂'

-- What holds of four calls (`Calls`, twice): on each of the two stores a scan and a join of the bytes that it wrote, with the same keyword list, the
-- same recipes, the same key, and tallies that are equal at entry.
pub record SameCalls (buffer buffer₂ out out₂ : List ℕ) (scan scan₂ : Scanned) (join join₂ : Outcome)
    (index index₂ out' out₂' tally' tally₂' : List ℕ) : Type 0 where
  -- scans into index buffers of equal length: the same refusal, or the same length and moves
  pub scans : length buffer ≡ length buffer₂ → scan ≡ scan₂
  -- index files both written in full: the scans report the same length and moves; the files have that length, and the same body under
  -- each fingerprint
  pub reports : WrittenInFull scan scan₂ → scan ≡ scan₂
  pub indexes : WrittenInFull scan scan₂ → AnswerAlike index index₂
  -- and list buffers of equal length: the same refusal or the same list
  pub joins : WrittenInFull scan scan₂ → length out ≡ length out₂ → JoinsAlike out out₂ join join₂ out' out₂' tally' tally₂'

-- ---- the small vault of document 01 in another order

-- Its chunks as A, XAB, ABAX, at 92, 93, 96; the index that a scan of it writes.
abbrev pub small_reordered : List ℕ
small_reordered = store_bytes (chunk_a ∷ chunk_xAB ∷ chunk_aBAX ∷ [])

abbrev pub reordered_index : List ℕ
reordered_index = scan_index newest keywords small_reordered

pub record SmallReordered : Type 0 where
  -- it is accepted and holds the vault's chunks, chunk A elsewhere
  pub same : Reordered store small_reordered
  pub elsewhere : (chunk_start store (fingerprint 3) ≡ 99) × (chunk_start small_reordered (fingerprint 3) ≡ 92)
  -- a scan of it reports the vault's length and moves; its index has its own order of entries
  pub scan : scan_answer form1 keywords small_reordered 136 ≡ Scanned.Done 136 10
  pub entries : index_keys reordered_index ≡ fingerprint 3 ∷ fingerprint 1 ∷ fingerprint 2 ∷ []
  -- the list is the small vault's, in a buffer of 30 bytes
  pub list : (join_outcome (form_of reordered_index) reordered_index recipes one_client 30 ≡ Done 3)
      × (join_buffer (form_of reordered_index) reordered_index recipes one_client (replicate 30 7) ≡ nine 0 1 0 ++ nine 0 3 0 ++ nine 1 0 1 ++ replicate 3 7)
  -- another byte under a fingerprint, a chunk less or a chunk more, and the chunks are not the same
  pub other_byte : same_chunks (one_chunk (0x41 ∷ [])) (one_chunk (0x42 ∷ [])) ≡ false
  pub fewer : same_chunks store (one_chunk (0x58 ∷ 0x41 ∷ 0x42 ∷ [])) ≡ false
  pub more : same_chunks (one_chunk (0x58 ∷ 0x41 ∷ 0x42 ∷ [])) store ≡ false
