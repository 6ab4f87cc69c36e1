-- The entries that recipes name, as marks in an array: true for a named entry.
use Rattle.std.specs.Prelude.{◌≡◌, Bool, false, ◌||◌, cond, List, [], ◌++◌, map, ℕ, ◌-◌, ◌≤◌, ◌<◌, length, get_or}
use Rattle.spec.specs.Outcome.{not_found}
use Rattle.spec.specs.Bytes.{contains, each, every, joined, keep}
use Rattle.spec.specs.Store.{Chunk, chunk_count, store_keys, stored_chunk, store_code}
use Rattle.spec.specs.Compact.{named_in}

abbrev pub all_found : List (List ℕ) → List (List ℕ) → Bool
all_found keys file = every (λ key. contains key keys) file

-- The number of the refusal where one of them is missing.
abbrev pub found_code : List (List ℕ) → List (List ℕ) → ℕ
found_code keys file = cond (all_found keys file) 0 not_found

-- The mark of entry e once the fingerprints that are left are marked too.
abbrev pub mark_left : List (List ℕ) → List Bool → List (List ℕ) → ℕ → Bool
mark_left keys marks file e = contains (get_or keys e []) file || get_or marks e false

-- A file was marked: the refusal where a fingerprint is missing; where none is, the marks, whatever fingerprints follow.
pub record MarkedFile (keys file : List (List ℕ)) (marks₀ marks : List Bool) (code : ℕ) : Type 0 where
  pub told : code ≡ found_code keys file
  pub marked : code ≡ 0 → (rest : List (List ℕ)) (e : ℕ) → e < length keys → mark_left keys marks rest e ≡ mark_left keys marks₀ (file ++ rest) e

-- All files were marked.
pub record MarkedAll (store recipes : List ℕ) (marks₀ marks : List Bool) (code : ℕ) : Type 0 where
  pub told : code ≡ found_code (store_keys store) (named_in recipes)
  pub marked : code ≡ 0 → (e : ℕ) → e < length (store_keys store) → get_or marks e false ≡ mark_left (store_keys store) marks₀ (named_in recipes) e

-- ---- the marked chunks

-- Chunk k, where it is marked.
abbrev pub marked_at : List ℕ → Bool → ℕ → List Chunk
marked_at store marked k = keep marked (stored_chunk store k)

-- The marked chunks from entry k on.
abbrev pub marked_from : List ℕ → List Bool → ℕ → List Chunk
marked_from store marks k = each (λ j. marked_at store (get_or marks j false) j) k (chunk_count store - k)

-- Their bytes, one after the other.
abbrev pub chunk_bytes : List Chunk → List ℕ
chunk_bytes chunks = joined (map (λ c. c.bytes) chunks)

-- A store that passed its check, with a mark for each entry.
pub record Marks (store : List ℕ) (count : ℕ) (marks : List Bool) : Type 0 where
  pub checked : store_code store ≡ 0
  pub counts : count ≡ chunk_count store
  pub long : count ≤ length marks
