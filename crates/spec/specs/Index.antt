-- Match indexes: document 01, "Notes file". A match index is the paper's "notes file"; an entry's body holds the chunk's records.
use Rattle.std.specs.Prelude.{Bool, ◌||◌, not, List, [], ◌∷◌, ◌++◌, map, ℕ, ◌+◌, ◌*◌, length, take, drop, ltb}
use Rattle.spec.specs.Bytes.{le_bytes, same, twice, each, every, joined}
use Rattle.spec.specs.Outcome.{first_number, whole, first_code, index_mark_wrong, index_entry_wrong, index_duplicate, body_not_good}
use Rattle.spec.specs.Keywords.{keywords_of, list_size, keyword_front_code}
use Rattle.spec.specs.Directory.{Layout, directory_end, size_at, pointed_at, keys_in, entries_code}
use Rattle.spec.specs.Store.{chunk_count, most_chunks}
use Rattle.spec.specs.Form.{Form}
use Rattle.spec.specs.Records.{ChunkRecords, read_body, good_body}

-- ---- the written form

-- What an index says of a chunk: its fingerprint, its length L, and its body.
pub record Entry : Type 0 where
  pub key : List ℕ
  pub size : ℕ
  pub body : List ℕ

-- An entry of the directory: fingerprint (20), L (4), offset (4) and length (4) of the body.
unfoldable pub entry_bytes : List ℕ → ℕ → ℕ → ℕ → List ℕ
entry_bytes key size offset len = key ++ le_bytes 4 size ++ le_bytes 4 offset ++ le_bytes 4 len

-- The entries; bodies lie gapless from `at` on.
unfoldable pub directory_bytes : ℕ → List Entry → List ℕ
directory_bytes at [] = []
directory_bytes at (e ∷ es) = entry_bytes e.key e.size at (length e.body) ++ directory_bytes (at + length e.body) es

-- Mark, chunk count, the keyword list as given, directory, bodies.
unfoldable pub index_bytes : Form → List ℕ → List Entry → List ℕ
index_bytes f list entries =
    f.mark ++ le_bytes 4 (length entries) ++ list
    ++ directory_bytes (8 + length list + 32 * length entries) entries
    ++ joined (map (λ e. e.body) entries)

-- ---- reading

-- The keyword list that an index has behind its first 8 bytes, with what follows it.
abbrev pub list_in : List ℕ → List ℕ
list_in index = drop 8 index

-- The keyword list alone.
abbrev pub list_bytes_in : List ℕ → List ℕ
list_bytes_in index = take (list_size (list_in index)) (list_in index)

-- Entries of 32 bytes: fingerprint (20), L (4), offset (4) and length (4) of the body.
unfoldable pub index_layout : List ℕ → Layout
index_layout index = record { start = 8 + list_size (list_in index); stride = 32; size_field = 20; offset_field = 24; length_field = 28 }

unfoldable pub index_keys : List ℕ → List (List ℕ)
index_keys index = keys_in (index_layout index) index (chunk_count index)

unfoldable pub body_at : List ℕ → ℕ → List ℕ
body_at index k = pointed_at (index_layout index) index k

-- The lengths of the keywords.
unfoldable pub lengths_in : List ℕ → List ℕ
lengths_in index = map length (keywords_of (list_in index))

-- What the index says of the chunk of entry k.
unfoldable pub index_records : Form → List ℕ → ℕ → ChunkRecords
index_records f index k =
    record { size = size_at (index_layout index) index k; records = read_body f (length (lengths_in index)) (body_at index k) }

-- ---- the index check ("notes check")

abbrev pub good_at : Form → List ℕ → ℕ → Bool
good_at f index k = good_body f (lengths_in index) (size_at (index_layout index) index k) (body_at index k)

unfoldable pub all_good : Form → List ℕ → Bool
all_good f index = every (good_at f index) (each (λ k. k ∷ []) 0 (chunk_count index))

-- Fewer than 8 bytes, another mark, or c above 65,000.
unfoldable pub header_code : Form → List ℕ → ℕ
header_code f index =
    first_number ((ltb (length index) 8 || not (same (take 4 index) f.mark) || ltb most_chunks (chunk_count index), index_mark_wrong) ∷ [])

-- The directory cut short, then entry by entry, then a last end that is not the index's.
unfoldable pub directory_code : Form → List ℕ → ℕ
directory_code f index =
    first_number
    ((ltb (length index) (directory_end (index_layout index) (chunk_count index)), index_entry_wrong)
    ∷ whole (entries_code (index_layout index) index f.longest_chunk index_entry_wrong (chunk_count index) 0 (directory_end (index_layout index) (chunk_count index)))
    ∷ [])

-- The tests before 12: the header's, the keyword list's, the directory's.
unfoldable pub laid_code : Form → List ℕ → ℕ
laid_code f index = first_code (header_code f index ∷ keyword_front_code (list_in index) ∷ directory_code f index ∷ [])

unfoldable pub index_code : Form → List ℕ → ℕ
index_code f index =
    first_number
    (whole (laid_code f index)
    ∷ (twice (index_keys index), index_duplicate)
    ∷ (not (all_good f index), body_not_good)
    ∷ [])
