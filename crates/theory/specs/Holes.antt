-- Request #106: two accepted stores that differ only in their holes, and what is then the same: every answer, and every byte that an operation writes.
use Rattle.std.specs.Prelude.{◌≡◌, Bool, true, false, ◌&&◌, ◌||◌, List, [], ◌∷◌, ◌++◌, ℕ, length, get_or, eqb, leb, ltb}
use Rattle.spec.specs.Outcome.{Outcome}
use Rattle.spec.specs.Scanned.{Scanned}
use Rattle.spec.specs.Bytes.{le_bytes, each, every}
use Rattle.spec.specs.Directory.{directory_end, offset_at}
use Rattle.spec.specs.Store.{Chunk, Placed, store_mark, store_layout, placed_bytes, gapless, chunk_count, chunk_end, store_code}
use Rattle.spec.specs.Form.{newest}
use Rattle.spec.specs.Lookup.{find_chunk, chunk_start, chunk_length, chunk_of}
use Rattle.spec.specs.Scan.{scan_index, size_outcome, scan_answer, scan_buffer}
use Rattle.spec.specs.Compact.{compact_outcome, compact_buffer, compact_size}
use Rattle.spec.specs.Program.{search_text}
use Rattle.theory.specs.Cases.{store, keywords, fingerprint, chunk_xAB, chunk_aBAX, chunk_a}
use Rattle.theory.specs.Demand3.{scanned}
use Rattle.theory.specs.SameChunks.{SearchAlike, JoinsAlike, Reordered, small_reordered}

-- ---- holes

-- Byte i of a store is in a hole: behind the directory, and no chunk's.
abbrev pub in_hole : List ℕ → ℕ → Bool
in_hole store i =
    leb (directory_end store_layout (chunk_count store)) i
    && every (λ k. ltb i (offset_at store_layout store k) || leb (chunk_end store k) i) (each (λ k. k ∷ []) 0 (chunk_count store))

-- What the first store has outside of its holes, the second has at the same places.
unfoldable pub same_outside_holes : List ℕ → List ℕ → Bool
same_outside_holes here there =
    every (λ i. in_hole here i || (ltb i (length there) && eqb (get_or here i 0) (get_or there i 0))) (each (λ i. i ∷ []) 0 (length here))

-- The request's two stores: both are accepted, and they differ only in holes, also in how many bytes lie behind the last chunk.
pub record DifferInHoles (here there : List ℕ) : Type 0 where
  pub accepted : store_code here ≡ 0
  pub accepted_there : store_code there ≡ 0
  pub bytes : same_outside_holes here there ≡ true

-- ---- what is then the same, of the definitions that the contracts cite

-- A keyword list on two such stores. Where an operation writes into a buffer, its answer goes by the buffer's length.
pub record SameBesideHoles (list here there : List ℕ) : Type 0 where
  -- the lookup of a chunk: the number; where the chunk lies, how long it is, its bytes
  pub find : (key : List ℕ) → find_chunk here key ≡ find_chunk there key
  pub start : (key : List ℕ) → chunk_start here key ≡ chunk_start there key
  pub long : (key : List ℕ) → chunk_length here key ≡ chunk_length there key
  pub chunk : (key : List ℕ) → chunk_of here key ≡ chunk_of there key
  -- the length of the index that a scan would write
  pub size : size_outcome newest list here ≡ size_outcome newest list there
  -- a scan: the same refusal, or the same length and moves; the same buffer after it; into two buffers of equal length the same index
  pub scan : (room : ℕ) → scan_answer newest list here room ≡ scan_answer newest list there room
  pub buffer : (buffer : List ℕ) → scan_buffer newest list here buffer ≡ scan_buffer newest list there buffer
  pub index : (buffer buffer₂ : List ℕ) → length buffer ≡ length buffer₂ → scanned list here buffer ≡ scanned list there buffer₂
  -- a search: its answer, its list buffer, its list, the tally
  pub searches : (index_room : ℕ) → SearchAlike list here there index_room index_room
  -- a compaction: its answer, its buffer; the length that it would write
  pub compact : (recipes : List ℕ) (room : ℕ) → compact_outcome here recipes room ≡ compact_outcome there recipes room
  pub compacted_buffer : (recipes buffer : List ℕ) → compact_buffer here recipes buffer ≡ compact_buffer there recipes buffer
  pub compacted_size : (recipes : List ℕ) → compact_size here recipes ≡ compact_size there recipes
  -- the search program's text, but for the length that it asks of its files
  pub text : (recipes : List ℕ) → search_text here list recipes ≡ search_text there list recipes

-- ---- what is then the same, of calls

-- What holds of four calls (`Calls`, twice): on each of the two stores a scan and a join of the bytes that it wrote, with the same keyword list, the
-- same recipes, the same key, and tallies that are equal at entry.
pub record SameCallsBesideHoles (buffer buffer₂ out out₂ : List ℕ) (scan scan₂ : Scanned) (join join₂ : Outcome)
    (buffer' buffer₂' index index₂ out' out₂' tally' tally₂' : List ℕ) : Type 0 where
  -- scans into index buffers of equal length: the same refusal, or the same length and moves, and the same index
  pub scans : length buffer ≡ length buffer₂ → scan ≡ scan₂
  pub indexes : length buffer ≡ length buffer₂ → index ≡ index₂
  -- buffers that were the same are the same after it
  pub buffers : buffer ≡ buffer₂ → buffer' ≡ buffer₂'
  -- with list buffers of equal length too: the same refusal or the same list, and the same tally
  pub joins : length buffer ≡ length buffer₂ → length out ≡ length out₂ → JoinsAlike out out₂ join join₂ out' out₂' tally' tally₂'

-- ---- cases

-- A store of these entries, each a fingerprint's number, an offset and a length; behind its directory the bytes `rest`.
abbrev pub entries_of : List (ℕ × ℕ × ℕ) → List ℕ
entries_of [] = []
entries_of (e ∷ es) = fingerprint e.0 ++ le_bytes 4 e.1 ++ le_bytes 4 e.2 ++ entries_of es

abbrev pub store_of : List (ℕ × ℕ × ℕ) → List ℕ → List ℕ
store_of es rest = store_mark ++ le_bytes 4 (length es) ++ entries_of es ++ rest

-- Its number with one entry, behind which the bytes start at 36; with two, where they start at 64.
abbrev pub one_entry : ℕ → ℕ → List ℕ → ℕ
one_entry offset size rest = store_code (store_of ((1, offset, size) ∷ []) rest)

abbrev pub two_entries : ℕ → ℕ → ℕ → ℕ → List ℕ → ℕ
two_entries offset size offset₂ size₂ rest = store_code (store_of ((1, offset, size) ∷ (2, offset₂, size₂) ∷ []) rest)

-- The small vault's chunks with ABA in holes before, between and behind them; the same with other bytes there, and fewer behind.
abbrev pub behind : List ℕ → Chunk → Placed
behind hole chunk = record { hole = hole; chunk = chunk }

abbrev pub aba : List ℕ
aba = 0x41 ∷ 0x42 ∷ 0x41 ∷ []

abbrev pub holed_store : List ℕ
holed_store = placed_bytes (behind aba chunk_xAB ∷ behind aba chunk_aBAX ∷ gapless chunk_a ∷ []) aba

abbrev pub other_holes : List ℕ
other_holes = placed_bytes (behind (0 ∷ 0x42 ∷ 7 ∷ []) chunk_xAB ∷ behind (9 ∷ 9 ∷ 9 ∷ []) chunk_aBAX ∷ gapless chunk_a ∷ []) (0xFF ∷ [])

pub record HoleCases : Type 0 where
  -- no chunks: any length from 8 bytes
  pub none : (store_code (store_of [] []) ≡ 0) × (store_code (store_of [] (7 ∷ [])) ≡ 0) × (store_code (store_of [] (7 ∷ 7 ∷ 7 ∷ [])) ≡ 0)
  -- holes before, between and behind; a chunk in the directory's last byte, chunks that overlap by one, a last end at the store's and beyond it
  pub holes : (two_entries 65 1 67 1 (0 ∷ 1 ∷ 0 ∷ 2 ∷ 0 ∷ []) ≡ 0)
      × (one_entry 35 1 (1 ∷ []) ≡ 7)
      × (two_entries 64 2 65 1 (1 ∷ 2 ∷ []) ≡ 7)
      × (one_entry 36 2 (1 ∷ 2 ∷ []) ≡ 0)
      × (one_entry 36 2 (1 ∷ []) ≡ 7)
  -- 20: an end beyond 4,294,967,295, and not at it (then 7, as the chunk is not there); behind the entry's own length and offset
  pub beyond : (one_entry 4294967295 1 [] ≡ 20)
      × (one_entry 4294967294 1 [] ≡ 7)
      × (one_entry 4294967295 38 [] ≡ 20)
      × (one_entry 4294967295 1048576 [] ≡ 20)
      × (one_entry 4294967295 1048577 [] ≡ 7)
      × (two_entries 4294967294 1 4294967294 2 [] ≡ 7)
  -- the first wrong entry decides; an end beyond the store is told after all entries
  pub first : (two_entries 64 0 4294967295 1 [] ≡ 7) × (two_entries 4294967295 1 64 0 [] ≡ 20) × (two_entries 64 9 4294967295 1 [] ≡ 20)
  -- a fingerprint twice, with a byte too many: the byte is a hole
  pub duplicate : store_code (store_of ((1, 64, 1) ∷ (1, 65, 1) ∷ []) (1 ∷ 2 ∷ 3 ∷ [])) ≡ 8
  -- the small vault with holes: 109 bytes, its chunks at 95, 101 and 105; the index and the moves are the small vault's
  pub small : (length holed_store ≡ 109)
      × (chunk_start holed_store (fingerprint 1) ≡ 95) × (chunk_start holed_store (fingerprint 2) ≡ 101) × (chunk_start holed_store (fingerprint 3) ≡ 105)
      × (scan_index newest keywords holed_store ≡ scan_index newest keywords store)
      × (scan_answer newest keywords holed_store 138 ≡ Scanned.Done 138 10)
  -- other bytes in the holes and fewer behind; a byte of a chunk, an offset and a length are no holes
  pub differ : DifferInHoles holed_store other_holes
  pub outside : (in_hole holed_store 94 ≡ true) × (in_hole holed_store 95 ≡ false) × (in_hole holed_store 91 ≡ false) × (in_hole holed_store 106 ≡ true)
  pub chunk_byte : same_outside_holes (store_of ((1, 36, 1) ∷ []) (1 ∷ [])) (store_of ((1, 36, 1) ∷ []) (2 ∷ [])) ≡ false
  pub offset : same_outside_holes (store_of ((1, 36, 1) ∷ []) (1 ∷ 1 ∷ [])) (store_of ((1, 37, 1) ∷ []) (1 ∷ 1 ∷ [])) ≡ false
  -- request #101 of stores with holes: another order, and none there
  pub reordered : Reordered holed_store small_reordered
