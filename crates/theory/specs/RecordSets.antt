-- Sets of records, and the index files that say them (demand 2: written records read back, and each set that fits has one written form).
use Rattle.std.specs.Prelude.{◌≡◌, true, false, List, [], ◌∷◌, map, ℕ, ◌≤◌, ◌<◌, length, get_or}
use Rattle.spec.specs.Bytes.{largest32, AllBytes, twice, each}
use Rattle.spec.specs.Keywords.{keywords_of, keyword_code}
use Rattle.spec.specs.Store.{chunk_count, most_chunks, store_keys, chunk_at}
use Rattle.spec.specs.Form.{Form, form_of}
use Rattle.spec.specs.Records.{ChunkRecords, body_bytes, all_in_range}
use Rattle.spec.specs.Index.{Entry, index_bytes, list_bytes_in, index_keys, index_records, index_code}
use Rattle.spec.specs.Scan.{scan_records}

-- Of one chunk: its fingerprint, its length, and a record for each keyword.
pub record Said : Type 0 where
  pub key : List ℕ
  pub chunk : ChunkRecords

abbrev pub nothing : Said
nothing = record { key = []; chunk = record { size = 0; records = [] } }

-- The index that says it: the entries in their order, each body the writing of its records.
abbrev pub entry_for : Form → List ℕ → Said → Entry
entry_for f list s =
    record { key = s.key; size = s.chunk.size; body = body_bytes f (map length (keywords_of list)) s.chunk.records }

unfoldable pub written_index : Form → List ℕ → List Said → List ℕ
written_index f list said = index_bytes f list (map (entry_for f list) said)

-- A chunk's records fit an index: a fingerprint of 20 bytes, a length in 1 to the longest, a record in range for each keyword.
pub record Fitting (f : Form) (list : List ℕ) (s : Said) : Type 0 where
  pub long : length s.key ≡ 20
  pub low : 1 ≤ s.chunk.size
  pub high : s.chunk.size ≤ f.longest_chunk
  pub count : length s.chunk.records ≡ length (map length (keywords_of list))
  pub ranges : all_in_range f s.chunk.size (map length (keywords_of list)) s.chunk.records ≡ true

-- A set of records fits an index file: its chunks do, no fingerprint is twice, the count and the file's length have room.
pub record AllFitting (f : Form) (list : List ℕ) (said : List Said) : Type 0 where
  pub accepted : keyword_code list ≡ 0
  pub each : (k : ℕ) → k < length said → Fitting f list (get_or said k nothing)
  pub differ : twice (map (λ s. s.key) said) ≡ false
  pub few : length said ≤ most_chunks
  pub within : length (written_index f list said) ≤ largest32

-- An index file is accepted and says these records under this keyword list.
pub record Says (f : Form) (list : List ℕ) (said : List Said) (index : List ℕ) : Type 0 where
  pub passes : index_code f index ≡ 0
  pub listed : list_bytes_in index ≡ list
  pub keys : index_keys index ≡ map (λ s. s.key) said
  pub records : (k : ℕ) → k < length said → index_records f index k ≡ (get_or said k nothing).chunk

-- What an accepted file says.
unfoldable pub said_in : Form → List ℕ → List Said
said_in f index = each (λ k. (record { key = get_or (index_keys index) k []; chunk = index_records f index k }) ∷ []) 0 (chunk_count index)

-- What a scan has to say: of every chunk of the store its fingerprint, its length and its records.
unfoldable pub scanned_records : Form → List ℕ → List ℕ → List Said
scanned_records f list store =
    each (λ k. (record { key = get_or (store_keys store) k []; chunk = scan_records f list (chunk_at store k) }) ∷ []) 0 (chunk_count store)

-- A form that the mark of some index names.
pub record IndexForm (f : Form) : Type 0 where
  pub index : List ℕ
  pub named : form_of index ≡ f

-- Records that fit an index file of a form have exactly one writing in it: its mark names that form, it reads back as these records, it is bytes, and
-- no other file of bytes says them in that form.
pub record WrittenOnce (f : Form) (list : List ℕ) (said : List Said) : Type 0 where
  pub marked : form_of (written_index f list said) ≡ f
  pub says : Says f list said (written_index f list said)
  pub bytes : AllBytes (written_index f list said)
  pub only : (index : List ℕ) → AllBytes index → Says f list said index → index ≡ written_index f list said
