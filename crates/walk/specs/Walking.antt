-- Going through the places of a file, whose chunks are `chunks`: the rows of a place and the places behind it give the place's streams.
use Rattle.std.specs.Prelude.{◌≡◌, List, [], ◌∷◌, map, ℕ, ◌+◌, ◌-◌, ◌*◌, ◌/◌, ◌^◌, ◌≤◌, ◌<◌, length, get_or, drop}
use Rattle.spec.specs.declared.Opened.{Opened}
use Rattle.spec.specs.Bytes.{part, position_of, sum}
use Rattle.spec.specs.Keywords.{folded_keywords}
use Rattle.spec.specs.Store.{chunk_count}
use Rattle.spec.specs.Form.{form_of}
use Rattle.spec.specs.Records.{ChunkRecords, record_at}
use Rattle.spec.specs.Directory.{offset_at, length_at}
use Rattle.spec.specs.Index.{list_in, index_layout, index_keys, index_code, index_records}
use Rattle.spec.specs.Opened.{opened_of}
use Rattle.spec.specs.Join.{Occurrence, keyword_at, counts_by, join_file, file_records}
use Rattle.directory.specs.Chains.{keys_from, Chained}
use Rattle.spec.specs.Recipes.{named}
use Rattle.files.specs.Measures.{Slotted}
use Rattle.loader.specs.Loaded.{Row, row_of, row_end, set_at}
use Rattle.tables.specs.Tabled.{cell_at}
use Rattle.spans.specs.Spans.{crossing_set}
use Rattle.listing.specs.Streams.{stream_of, total}

-- ---- a file's chunks

abbrev pub no_chunk : ChunkRecords
no_chunk = record { size = 0; records = [] }

-- The records of the chunks that a run of fingerprints names.
unfoldable pub chunks_in : List ℕ → List ℕ → List ChunkRecords
chunks_in index file = file_records (form_of index) index (named file)

-- The occurrences of a file, whose number is `number`.
abbrev pub file_list : ℕ → List ℕ → List ℕ → List Occurrence
file_list number index file = join_file number (folded_keywords (list_in index)) (chunks_in index file)

-- How many occurrences of a list are of each keyword number.
abbrev pub keyword_counts : List Occurrence → List ℕ
keyword_counts list = counts_by (λ k. k) 16 list

abbrev pub chunk_in : List ChunkRecords → ℕ → ChunkRecords
chunk_in chunks n = get_or chunks n no_chunk

-- The suffix that the first of some chunks has, or 0.
abbrev pub first_suffix : List ChunkRecords → ℕ → ℕ
first_suffix [] k = 0
first_suffix (next ∷ rest) k = (record_at next k).suffix

-- The bytes of some chunks.
abbrev pub size_of : List ChunkRecords → ℕ
size_of chunks = sum (map (λ c. c.size) chunks)

-- ---- what the walk asks

-- Bytes of an offset in an opened index.
abbrev pub width_of : Opened → ℕ
width_of opened = opened.format.width

-- An index that passed its check, opened.
pub record Checked (index : List ℕ) (opened : Opened) : Type 0 where
  pub good : index_code (form_of index) index ≡ 0
  pub read : opened ≡ opened_of index

-- Fingerprints can be looked up in it.
pub record Directory (index : List ℕ) (opened : Opened) (chains : List ℕ) : Type 0 where
  pub checked : Checked index opened
  pub chained : Chained (keys_from index opened.directory 32 opened.entries) 0 chains

-- The file is whole fingerprints of the directory and is not too long, and the slots have the entries of its first places.
pub record File (index file slots : List ℕ) : Type 0 where
  pub whole : length file ≡ 20 * (length file / 20)
  pub found : (n : ℕ) → n < length file / 20 → position_of (part file (20 * n) 20) (index_keys index) < chunk_count index
  pub small : size_of (chunks_in index file) < 2 ^ 32
  pub slotted : Slotted (index_keys index) (named file) slots

-- ---- places and entries

-- Entry e is that of place n of a file; behind the last place it is the number of entries.
pub record EntryAt (index file : List ℕ) (n e : ℕ) : Type 0 where
  pub inside : n < length file / 20 → e ≡ position_of (part file (20 * n) 20) (index_keys index)
  pub behind : length file / 20 ≤ n → e ≡ chunk_count index

-- Where the body of entry e ends in the index.
abbrev pub body_end : List ℕ → ℕ → ℕ
body_end index e = offset_at (index_layout index) index e + length_at (index_layout index) index e

-- The rows of entry e end before its body does, and its sets are behind them.
pub record SetsBehind (index : List ℕ) (opened : Opened) (e : ℕ) (rows : List (List ℕ)) : Type 0 where
  pub ended : (k : ℕ) → k < opened.keywords → row_end (width_of opened) (row_of rows k) ≤ body_end index e
  pub inner : (k : ℕ) → k < opened.keywords
      → set_at (form_of index) index (body_end index e) (row_of rows k) k ≡ (record_at (index_records (form_of index) index e) k).inner

-- The rows and the size are those of entry e, and the sets can be read behind them; behind the last entry every suffix is 0.
pub record LoadedEntry (index : List ℕ) (opened : Opened) (e : ℕ) (rows : List (List ℕ)) (size : ℕ) : Type 0 where
  pub long : opened.keywords ≤ length rows
  pub sized : e < chunk_count index → size ≡ (index_records (form_of index) index e).size
  pub small : size ≤ 1048576
  pub each : (k : ℕ) → k < opened.keywords → e < chunk_count index
      → Row index (width_of opened) (row_of rows k) (record_at (index_records (form_of index) index e) k)
  pub sets : e < chunk_count index → SetsBehind index opened e rows
  pub none : (k : ℕ) → chunk_count index ≤ e → get_or (row_of rows k) 1 0 ≡ 0

-- The rows and the size are those of place n of a file; behind the last place every suffix is 0.
pub record LoadedAt (index : List ℕ) (opened : Opened) (chunks : List ChunkRecords) (n : ℕ) (rows : List (List ℕ)) (size : ℕ) : Type 0 where
  pub long : opened.keywords ≤ length rows
  pub sized : n < length chunks → size ≡ (chunk_in chunks n).size
  pub small : size ≤ 1048576
  pub each : (k : ℕ) → k < opened.keywords → n < length chunks → Row index (width_of opened) (row_of rows k) (record_at (chunk_in chunks n) k)
  pub suffix : (k : ℕ) → k < opened.keywords → get_or (row_of rows k) 1 0 ≡ first_suffix (drop n chunks) k

-- ---- the streams of a place

-- Prefix and suffix are a cell's lengths, the prefix is no longer than the chunk, and offsets are no more than a chunk has bytes.
pub record Crossable (size count : ℕ) (here next : List (List ℕ)) : Type 0 where
  pub short : (k : ℕ) → k < count → get_or (row_of here k) 0 0 ≤ size
  pub row : (k : ℕ) → k < count → get_or (row_of here k) 0 0 < 32
  pub column : (k : ℕ) → k < count → get_or (row_of next k) 1 0 < 32
  pub few : (k : ℕ) → k < count → get_or (row_of here k) 3 0 < 2 ^ 32

-- The streams of a place that are not open yet: its own offsets, and the starts that cross its end, as sets.
pub record Crossed (size count : ℕ) (sets : ℕ → ℕ) (here streams : List (List ℕ)) : Type 0 where
  pub long : count ≤ length streams
  pub each : (k : ℕ) → k < count → stream_of streams k
      ≡ size ∷ get_or (row_of here k) 2 0 ∷ get_or (row_of here k) 3 0 ∷ (size - get_or (row_of here k) 0 0) ∷ sets k ∷ []

-- The same, and how many offsets they have.
pub record Filled (size count : ℕ) (sets : ℕ → ℕ) (here streams : List (List ℕ)) (many : ℕ) : Type 0 where
  pub crossed : Crossed size count sets here streams
  pub all : many ≡ total streams count

-- The sets that the tables have for the prefixes of a place and the suffixes of the next.
abbrev pub cells : List (List (List ℕ)) → List (List ℕ) → List (List ℕ) → ℕ → ℕ
cells tables here next k = cell_at tables k (get_or (row_of here k) 0 0) (get_or (row_of next k) 1 0)

-- The definition's, against the chunks behind.
abbrev pub crossings : List (List ℕ) → List (List ℕ) → List ChunkRecords → ℕ → ℕ
crossings keywords here rest k = crossing_set (keyword_at keywords k) k (get_or (row_of here k) 0 0) rest

-- What a keyword's starts that cross a place's end are asked with: its number, and a prefix of it.
pub record Startable (index : List ℕ) (keyword prefix : ℕ) : Type 0 where
  pub known : keyword < length (folded_keywords (list_in index))
  pub short : prefix < length (keyword_at (folded_keywords (list_in index)) keyword)

-- The rows of a place: prefixes are no longer than its chunk and shorter than their keywords, and offsets are no more than a chunk has bytes.
pub record Prefixed (index : List ℕ) (size count : ℕ) (here : List (List ℕ)) : Type 0 where
  pub each : (k : ℕ) → k < count → Startable index k (get_or (row_of here k) 0 0)
  pub short : (k : ℕ) → k < count → get_or (row_of here k) 0 0 ≤ size
  pub few : (k : ℕ) → k < count → get_or (row_of here k) 3 0 < 2 ^ 32

-- Place n is loaded, and the place behind it.
pub record LoadedPair (index : List ℕ) (opened : Opened) (chunks : List ChunkRecords) (n : ℕ) (here next : List (List ℕ)) (size after : ℕ) : Type 0 where
  pub inside : n < length chunks
  pub first : LoadedAt index opened chunks n here size
  pub second : LoadedAt index opened chunks (n + 1) next after
