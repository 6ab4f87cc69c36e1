-- Recipes: document 01, "Recipes and the join", and the tests 14 to 17 of its refusals.
use Rattle.std.specs.Prelude.{Bool, true, ◌&&◌, not, List, [], ◌∷◌, ◌++◌, map, ℕ, zero, suc, ◌+◌, ◌*◌, ◌-◌, ◌/◌, length, drop, leb, ltb}
use Rattle.spec.specs.Bytes.{largest32, le_bytes, field_at, contains, position_of, every, sum, joined, same}
use Rattle.spec.specs.Outcome.{first_number, first_code, recipes_wrong, not_found, file_too_long, inner_chunk_short}
use Rattle.spec.specs.Directory.{keys_of}

-- ---- the file

-- A file: its chunk count (4) and the fingerprints that it names.
unfoldable pub file_bytes : List (List ℕ) → List ℕ
file_bytes file = le_bytes 4 (length file) ++ joined file

-- The file count (4), then file by file.
unfoldable pub recipes_bytes : List (List (List ℕ)) → List ℕ
recipes_bytes files = le_bytes 4 (length files) ++ joined (map file_bytes files)

abbrev pub file_count : List ℕ → ℕ
file_count recipes = field_at recipes 0 4

abbrev pub most_files : ℕ
most_files = 65535

-- For each file its chunk count (4) and that many fingerprints (20 each); nothing is cut short and nothing is left over.
abbrev pub files_whole : ℕ → List ℕ → Bool
files_whole zero bytes = same bytes []
files_whole (suc n) bytes =
    leb 4 (length bytes)
    && leb (20 * field_at bytes 0 4) (length bytes - 4)
    && files_whole n (drop (4 + 20 * field_at bytes 0 4) bytes)

-- The files, each as the fingerprints that it names.
abbrev pub read_files : ℕ → List ℕ → List (List (List ℕ))
read_files zero bytes = []
read_files (suc n) bytes = keys_of 20 (field_at bytes 0 4) (drop 4 bytes) ∷ read_files n (drop (4 + 20 * field_at bytes 0 4) bytes)

unfoldable pub files_of : List ℕ → List (List (List ℕ))
files_of recipes = read_files (file_count recipes) (drop 4 recipes)

unfoldable pub recipes_code : List ℕ → ℕ
recipes_code recipes =
    first_number
    ((ltb (length recipes) 4, recipes_wrong)
    ∷ (ltb most_files (file_count recipes), recipes_wrong)
    ∷ (not (files_whole (file_count recipes) (drop 4 recipes)), recipes_wrong)
    ∷ [])

-- The fingerprints that a file's bytes behind its chunk count are.
abbrev pub named : List ℕ → List (List ℕ)
named file = keys_of 20 (length file / 20) file

-- ---- one file against a directory

-- Every size but the last is at least m.
abbrev pub all_but_last : ℕ → List ℕ → Bool
all_but_last m [] = true
all_but_last m (s ∷ []) = true
all_but_last m (s ∷ t ∷ rest) = leb m s && all_but_last m (t ∷ rest)

-- No chunk that is neither first nor last is shorter than m.
abbrev pub inner_long : ℕ → List ℕ → Bool
inner_long m [] = true
inner_long m (s ∷ rest) = all_but_last m rest

-- The lengths of the chunks that a file names, in its order: `keys` are a directory's fingerprints, `size_of` gives a chunk's length by entry.
abbrev pub sizes_in : List (List ℕ) → (ℕ → ℕ) → List (List ℕ) → List ℕ
sizes_in keys size_of file = map (λ key. size_of (position_of key keys)) file

-- The same directory; `least` is the length that an inner chunk must have.
module _ (keys : List (List ℕ)) (size_of : ℕ → ℕ) (least : ℕ) where
  -- Each test over the whole file before the next.
  unfoldable pub file_code : List (List ℕ) → ℕ
  file_code file =
      first_number
      ((not (every (λ key. contains key keys) file), not_found)
      ∷ (ltb largest32 (sum (sizes_in keys size_of file)), file_too_long)
      ∷ (not (inner_long least (sizes_in keys size_of file)), inner_chunk_short)
      ∷ [])

  -- File by file.
  unfoldable pub files_code : List (List (List ℕ)) → ℕ
  files_code files = first_code (map file_code files)
