-- The scan: it writes the index of a store, chunk by chunk (document 01, "Notes file" and "Refusals by operation").
use Rattle.std.specs.Prelude.{◌||◌, List, [], ◌∷◌, map, ℕ, length, get_or, ltb}
use Rattle.spec.specs.Outcome.{Outcome, first_number, whole, answer, unless_refused, index_too_long}
use Rattle.spec.specs.Outcome as outcome
use Rattle.spec.specs.Scanned.{Scanned, Done, Refused}
use Rattle.spec.specs.Bytes.{largest32, written, each}
use Rattle.spec.specs.Keywords.{flag_of, folded, folded_keywords, keyword_code}
use Rattle.spec.specs.Directory.{size_at}
use Rattle.spec.specs.Store.{store_layout, chunk_count, store_keys, chunk_at, store_code}
use Rattle.spec.specs.Form.{Form}
use Rattle.spec.specs.Records.{records_of, ChunkRecords, body_bytes}
use Rattle.spec.specs.Index.{Entry, index_bytes}
use Rattle.spec.specs.Trie.{scan_moves}

-- The records of a chunk, as keywords and chunk compare.
unfoldable pub scan_records : Form → List ℕ → List ℕ → ChunkRecords
scan_records f list chunk = records_of f (folded_keywords list) (folded (flag_of list) chunk)

-- The chunk's body.
unfoldable pub scan_body : Form → List ℕ → List ℕ → List ℕ
scan_body f list chunk = body_bytes f (map length (folded_keywords list)) (scan_records f list chunk).records

unfoldable pub scan_entry : Form → List ℕ → List ℕ → ℕ → Entry
scan_entry f list store k =
    record { key = get_or (store_keys store) k []; size = size_at store_layout store k; body = scan_body f list (chunk_at store k) }

-- The index of a store, in store order.
unfoldable pub scan_index : Form → List ℕ → List ℕ → List ℕ
scan_index f list store = index_bytes f list (each (λ k. scan_entry f list store k ∷ []) 0 (chunk_count store))

-- Its refusals before 9: the keyword check, the store check.
unfoldable pub scannable_code : List ℕ → List ℕ → ℕ
scannable_code list store = first_number (whole (keyword_code list) ∷ whole (store_code store) ∷ [])

-- The whole refusal, for a buffer of `room` bytes.
unfoldable pub scan_code : Form → List ℕ → List ℕ → ℕ → ℕ
scan_code f list store room =
    first_number
    (whole (scannable_code list store)
    ∷ (ltb room (length (scan_index f list store)) || ltb largest32 (length (scan_index f list store)), index_too_long)
    ∷ [])

-- Done with the index's length, or refused.
unfoldable pub scan_outcome : Form → List ℕ → List ℕ → ℕ → Outcome
scan_outcome f list store room = answer (scan_code f list store room) (length (scan_index f list store))

-- An answer with its moves: a refusal reports its number alone (request #103).
abbrev pub with_moves : Outcome → ℕ → Scanned
with_moves (outcome.Done size) moves = Done size moves
with_moves (outcome.Refused code) moves = Refused code

-- The scan's answer and its buffer.
unfoldable pub scan_answer : Form → List ℕ → List ℕ → ℕ → Scanned
scan_answer f list store room = with_moves (scan_outcome f list store room) (scan_moves list store)

unfoldable pub scan_buffer : Form → List ℕ → List ℕ → List ℕ → List ℕ
scan_buffer f list store out = unless_refused (scan_code f list store (length out)) (written out (scan_index f list store)) out

-- The length that a scan would write, whatever the buffer.
unfoldable pub size_outcome : Form → List ℕ → List ℕ → Outcome
size_outcome f list store = answer (scannable_code list store) (length (scan_index f list store))

-- ---- reading the answer

-- The number of an answer: 0 for work done. The index's length; a refusal has none.
abbrev pub scanned_code : Scanned → ℕ
scanned_code (Done size moves) = 0
scanned_code (Refused code) = code

abbrev pub scanned_length : Scanned → ℕ
scanned_length (Done size moves) = size
scanned_length (Refused code) = 0

-- Numbers that are lent to be told the length and the moves: as they were on a refusal.
abbrev pub told_length : Scanned → ℕ → ℕ
told_length (Done size moves) before = size
told_length (Refused code) before = before

abbrev pub told_moves : Scanned → ℕ → ℕ
told_moves (Done size moves) before = moves
told_moves (Refused code) before = before
