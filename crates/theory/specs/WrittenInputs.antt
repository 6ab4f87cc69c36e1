-- The inputs' written forms (document 01, "Words", "Store", "Recipes and the join"): what is written is read back, a check accepts it, and whatever a
-- check accepts is the written form of what it says, of a store with whatever holes (request #106). So a field that stood at a wrong place in a reader,
-- or a byte of a hole that a reader took for a chunk's, would fail here.
use Rattle.std.specs.Prelude.{◌≡◌, ◌↔◌, Bool, true, false, ◌&&◌, cond, List, [], ◌∷◌, map, ℕ, ◌≤◌, ◌<◌, length, get_or, eqb, leb}
use Rattle.spec.specs.Bytes.{largest32, AllBytes, same, contains, twice, every, joined}
use Rattle.spec.specs.Keywords.{folded, folded_all, keyword_list_bytes, count_of, flag_of, keywords_of, list_size, keyword_code}
use Rattle.spec.specs.Store.{Chunk, Placed, placed_bytes, most_chunks, chunk_count, store_keys, chunk_at, stored_chunks, store_code}
use Rattle.spec.specs.Form.{newest}
use Rattle.spec.specs.Recipes.{recipes_bytes, most_files, files_of, recipes_code}
use Rattle.spec.specs.Search.{occurrences_in_all, direct_search}

-- ---- keyword lists

-- What the keyword check asks: 1 to 16 keywords of 1 to 32 bytes, a fold flag of 0 or 1, and no two keywords alike.
pub record KeywordsFit (flag : ℕ) (keywords : List (List ℕ)) : Type 0 where
  pub nonempty : 1 ≤ length keywords
  pub few : length keywords ≤ 16
  pub fold : flag ≤ 1
  pub lengths : every (λ keyword. leb 1 (length keyword) && leb (length keyword) 32) keywords ≡ true
  pub differ : twice (folded_all flag keywords) ≡ false

pub record KeywordListReads (flag : ℕ) (keywords : List (List ℕ)) : Type 0 where
  -- the keyword count, the fold flag, the keywords
  pub count : count_of (keyword_list_bytes flag keywords) ≡ length keywords
  pub fold : flag_of (keyword_list_bytes flag keywords) ≡ flag
  pub words : keywords_of (keyword_list_bytes flag keywords) ≡ keywords
  -- the list ends where its bytes do
  pub size : list_size (keyword_list_bytes flag keywords) ≡ length (keyword_list_bytes flag keywords)

pub record WrittenKeywords : Type 0 where
  -- whatever is written is read back
  pub reads : (flag : ℕ) (keywords : List (List ℕ)) → KeywordListReads flag keywords
  -- the check accepts exactly what it asks for
  pub accepted : (flag : ℕ) (keywords : List (List ℕ)) → (keyword_code (keyword_list_bytes flag keywords) ≡ 0) ↔ KeywordsFit flag keywords
  -- what it accepts is written so
  pub written : (list : List ℕ) → keyword_code list ≡ 0 → list ≡ keyword_list_bytes (flag_of list) (keywords_of list)

-- ---- recipes

-- A fingerprint has 20 bytes.
abbrev pub is_fingerprint : List ℕ → Bool
is_fingerprint key = eqb (length key) 20

-- A file: fingerprints, as many as a count of 4 bytes can say.
abbrev pub file_fits : List (List ℕ) → Bool
file_fits file = leb (length file) largest32 && every is_fingerprint file

pub record WrittenRecipes : Type 0 where
  -- files that fit are read back
  pub reads : (files : List (List (List ℕ))) → length files ≤ largest32 → every file_fits files ≡ true → files_of (recipes_bytes files) ≡ files
  -- the check accepts them up to the largest file count
  pub accepted : (files : List (List (List ℕ))) → length files ≤ largest32 → every file_fits files ≡ true
      → (recipes_code (recipes_bytes files) ≡ 0) ↔ (length files ≤ most_files)
  -- what it accepts, of bytes, is written so
  pub written : (recipes : List ℕ) → AllBytes recipes → recipes_code recipes ≡ 0 → recipes ≡ recipes_bytes (files_of recipes)

-- ---- stores

-- A chunk of 1 to 1,048,576 bytes under a fingerprint.
abbrev pub chunk_fits : Chunk → Bool
chunk_fits c = is_fingerprint c.key && leb 1 (length c.bytes) && leb (length c.bytes) newest.longest_chunk

-- The chunks without the holes before them.
abbrev pub chunks_in : List Placed → List Chunk
chunks_in placed = map (λ p. p.chunk) placed

-- At most 65,000 of them, the last of which ends within 4,294,967,295 bytes; the hole behind it may be of any length.
abbrev pub chunks_fit : List Placed → Bool
chunks_fit placed = leb (length placed) most_chunks && every chunk_fits (chunks_in placed) && leb (length (placed_bytes placed [])) largest32

pub record StoreReads (placed : List Placed) (hole : List ℕ) : Type 0 where
  -- the chunk count, the fingerprints, and chunk k's bytes
  pub count : chunk_count (placed_bytes placed hole) ≡ length placed
  pub keys : store_keys (placed_bytes placed hole) ≡ map (λ c. c.key) (chunks_in placed)
  pub bytes : (k : ℕ) → k < length placed → chunk_at (placed_bytes placed hole) k ≡ get_or (map (λ c. c.bytes) (chunks_in placed)) k []
  -- so the chunks themselves, in their order
  pub stored : stored_chunks (placed_bytes placed hole) ≡ chunks_in placed

-- A store is written so, with holes or without: of its chunks, in their order.
pub record WrittenStore (store : List ℕ) : Type 0 where
  pub placed : List Placed
  pub hole : List ℕ
  pub is : store ≡ placed_bytes placed hole
  pub chunks : chunks_in placed ≡ stored_chunks store

pub record WrittenStores : Type 0 where
  -- chunks that fit are read back, whatever lies between them
  pub reads : (placed : List Placed) (hole : List ℕ) → chunks_fit placed ≡ true → StoreReads placed hole
  -- the check accepts them exactly when no fingerprint is twice
  pub accepted : (placed : List Placed) (hole : List ℕ) → chunks_fit placed ≡ true
      → (store_code (placed_bytes placed hole) ≡ 0) ↔ (twice (map (λ c. c.key) (chunks_in placed)) ≡ false)
  -- what it accepts, of bytes, is written so
  pub written : (store : List ℕ) → AllBytes store → store_code store ≡ 0 → WrittenStore store

-- ---- the direct search

-- The bytes of the first chunk with that fingerprint; none where there is no such chunk.
abbrev pub bytes_under : List Chunk → List ℕ → List ℕ
bytes_under [] key = []
bytes_under (c ∷ cs) key = cond (same key c.key) c.bytes (bytes_under cs key)

-- Every fingerprint that the files name is a chunk's.
abbrev pub all_named : List Chunk → List (List (List ℕ)) → Bool
all_named chunks files = every (λ file. every (λ key. contains key (map (λ c. c.key) chunks)) file) files

-- ---- the claim

pub record WrittenInputs : Type 0 where
  pub keyword_lists : WrittenKeywords
  pub recipes_files : WrittenRecipes
  pub stores : WrittenStores
  -- the direct search of written inputs, said without their bytes: each file is the chunks that it names, joined
  pub searches : (flag : ℕ) (keywords : List (List ℕ)) (placed : List Placed) (hole : List ℕ) (files : List (List (List ℕ)))
      → chunks_fit placed ≡ true → length files ≤ largest32 → every file_fits files ≡ true → all_named (chunks_in placed) files ≡ true
      → direct_search (keyword_list_bytes flag keywords) (placed_bytes placed hole) (recipes_bytes files)
      ≡ occurrences_in_all 0 (folded_all flag keywords) (map (λ file. folded flag (joined (map (bytes_under (chunks_in placed)) file))) files)
