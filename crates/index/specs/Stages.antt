-- The stages of the index check for the form that its mark names, and what is known between them.
use Rattle.std.specs.Prelude.{◌≡◌, List, ℕ, ◌+◌, ◌*◌, ◌≤◌, ◌<◌, length, take, get_or}
use Rattle.spec.specs.Bytes.{written}
use Rattle.spec.specs.Outcome.{unless_refused}
use Rattle.spec.specs.Keywords.{list_size}
use Rattle.spec.specs.Directory.{size_at, offset_at, length_at}
use Rattle.spec.specs.Store.{chunk_count}
use Rattle.spec.specs.Form.{form_of}
use Rattle.spec.specs.Index.{list_in, index_layout, index_keys, lengths_in, laid_code, index_code}
use Rattle.directory.specs.Chains.{chains_of}

-- The array after the check: the chains of the index's fingerprints where its directory is whole (also where 12 or 13 follows); as it was where
-- the index is refused before.
unfoldable pub examined_chains : List ℕ → List ℕ → List ℕ
examined_chains index chains = unless_refused (laid_code (form_of index) index) (written chains (chains_of (index_keys index))) chains

-- `count` entries of the index start at `start`.
pub record Headed (index : List ℕ) (start count : ℕ) : Type 0 where
  pub header : 8 ≤ length index
  pub counts : count ≡ chunk_count index
  pub few : count ≤ 65000
  pub starts : start ≡ 8 + list_size (list_in index)
  pub short : start ≤ 538

-- They all lie in the index, and so does what each points to; lengths L are in range.
pub record Laid (index : List ℕ) (start count : ℕ) : Type 0 where
  pub headed : Headed index start count
  pub room : start + 32 * count ≤ length index
  pub sizes : (e : ℕ) → e < count → size_at (index_layout index) index e ≤ (form_of index).longest_chunk
  pub ends : (e : ℕ) → e < count → offset_at (index_layout index) index e + length_at (index_layout index) index e ≤ length index

-- The lengths of the index's keywords, in an array.
pub record Lens (index : List ℕ) (words : ℕ) (lens : List ℕ) : Type 0 where
  pub are : take words lens ≡ lengths_in index
  pub room : words ≤ length lens
  pub each : (k : ℕ) → k < words → (1 ≤ get_or lens k 0) × (get_or lens k 0 ≤ 32)

-- An entry of an index that passed its check.
pub record IndexEntry (index : List ℕ) (k : ℕ) : Type 0 where
  pub checked : index_code (form_of index) index ≡ 0
  pub within : k < chunk_count index
