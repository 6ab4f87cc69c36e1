-- Stores: document 01, "Store".
use Rattle.std.specs.Prelude.{◌||◌, not, List, [], ◌∷◌, ◌++◌, map, ℕ, zero, suc, ◌+◌, ◌*◌, length, take, get_or, eqb, ltb}
use Rattle.spec.specs.Bytes.{largest32, le_bytes, field_at, same, twice, each, joined}
use Rattle.spec.specs.Outcome.{first_number, whole, store_mark_wrong, store_directory_cut, store_entry_wrong, store_duplicate, store_entry_beyond}
use Rattle.spec.specs.Directory.{Layout, directory_end, size_at, offset_at, pointed_at, keys_in}
use Rattle.spec.specs.Form.{newest}

-- 44 56 31 0A
abbrev pub store_mark : List ℕ
store_mark = 0x44 ∷ 0x56 ∷ 0x31 ∷ 0x0A ∷ []

-- The chunk count c that a store, and an index, has behind its mark; the largest one.
abbrev pub chunk_count : List ℕ → ℕ
chunk_count bytes = field_at bytes 4 4

abbrev pub most_chunks : ℕ
most_chunks = 65000

-- Fingerprint (20), offset (4), length L (4); the chunk itself is what the entry points to.
abbrev pub store_layout : Layout
store_layout = record { start = 8; stride = 28; size_field = 24; offset_field = 20; length_field = 24 }

-- ---- the written form

-- A chunk under its fingerprint.
pub record Chunk : Type 0 where
  pub key : List ℕ
  pub bytes : List ℕ

-- A chunk as it lies in a store: behind unused bytes, a hole (request #106), or behind none.
pub record Placed : Type 0 where
  pub hole : List ℕ
  pub chunk : Chunk

-- An entry for each chunk: fingerprint (20), offset (4), length L (4); holes and chunks lie one after the other from `at` on.
unfoldable pub store_directory_bytes : ℕ → List Placed → List ℕ
store_directory_bytes at [] = []
store_directory_bytes at (p ∷ ps) =
    p.chunk.key ++ le_bytes 4 (at + length p.hole) ++ le_bytes 4 (length p.chunk.bytes)
    ++ store_directory_bytes (at + length p.hole + length p.chunk.bytes) ps

-- Mark, chunk count, directory, the chunks with the holes before them; behind the last chunk a hole more.
unfoldable pub placed_bytes : List Placed → List ℕ → List ℕ
placed_bytes placed hole =
    store_mark ++ le_bytes 4 (length placed)
    ++ store_directory_bytes (8 + 28 * length placed) placed
    ++ joined (map (λ p. p.hole ++ p.chunk.bytes) placed)
    ++ hole

-- Without holes, as document 01 has it.
abbrev pub gapless : Chunk → Placed
gapless c = record { hole = []; chunk = c }

unfoldable pub store_bytes : List Chunk → List ℕ
store_bytes chunks = placed_bytes (map gapless chunks) []

-- ---- reading

-- The fingerprints, by entry.
unfoldable pub store_keys : List ℕ → List (List ℕ)
store_keys store = keys_in store_layout store (chunk_count store)

-- The chunks, by entry.
unfoldable pub chunk_at : List ℕ → ℕ → List ℕ
chunk_at store k = pointed_at store_layout store k

unfoldable pub chunks_of : List ℕ → List (List ℕ)
chunks_of store = each (λ k. chunk_at store k ∷ []) 0 (chunk_count store)

-- The chunks under their fingerprints: of entry k, and all, in the order of the directory.
abbrev pub stored_chunk : List ℕ → ℕ → Chunk
stored_chunk store k = record { key = get_or (store_keys store) k []; bytes = chunk_at store k }

unfoldable pub stored_chunks : List ℕ → List Chunk
stored_chunks store = each (λ k. stored_chunk store k ∷ []) 0 (chunk_count store)

-- ---- the store check

-- Where the chunk of entry k ends.
abbrev pub chunk_end : List ℕ → ℕ → ℕ
chunk_end store k = offset_at store_layout store k + size_at store_layout store k

-- Entry by entry, n of them from entry k on: a length L out of range, an offset before the end of the one before (`at`; of the first, before the
-- directory's end), an end beyond 4,294,967,295 (request #105); then a last end beyond the store's. Bytes behind the directory that no entry points to
-- are holes: before, between and behind the chunks (request #106).
abbrev pub chunks_code : List ℕ → ℕ → ℕ → ℕ → ℕ
chunks_code store zero k at = first_number ((ltb (length store) at, store_entry_wrong) ∷ [])
chunks_code store (suc n) k at =
    first_number
    ((eqb (size_at store_layout store k) 0 || ltb newest.longest_chunk (size_at store_layout store k), store_entry_wrong)
    ∷ (ltb (offset_at store_layout store k) at, store_entry_wrong)
    ∷ (ltb largest32 (chunk_end store k), store_entry_beyond)
    ∷ whole (chunks_code store n (suc k) (chunk_end store k))
    ∷ [])

unfoldable pub store_code : List ℕ → ℕ
store_code store =
    first_number
    ((ltb (length store) 8 || not (same (take 4 store) store_mark), store_mark_wrong)
    ∷ (ltb most_chunks (chunk_count store) || ltb (length store) (directory_end store_layout (chunk_count store)), store_directory_cut)
    ∷ whole (chunks_code store (chunk_count store) 0 (directory_end store_layout (chunk_count store)))
    ∷ (twice (store_keys store), store_duplicate)
    ∷ [])
