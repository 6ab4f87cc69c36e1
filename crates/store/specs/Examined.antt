-- What the examination of a store leaves, and what callers know of its entries. Assumes nothing.
use Rattle.std.specs.Prelude.{◌≡◌, cond, ◌||◌, List, ℕ, ◌<◌, eqb}
use Rattle.spec.specs.Bytes.{written}
use Rattle.spec.specs.Outcome.{store_duplicate}
use Rattle.spec.specs.Store.{store_keys, store_code, chunk_count}
use Rattle.directory.specs.Chains.{chains_of, Chained}

-- The array after the check: the chains of the store's fingerprints where its directory is whole, so that the number is 0 or 8; as it was where the
-- store is refused before.
unfoldable pub examined_chains : List ℕ → List ℕ → List ℕ
examined_chains store chains =
    cond (eqb (store_code store) 0 || eqb (store_code store) store_duplicate) (written chains (chains_of (store_keys store))) chains

-- An entry of a store that passed its check.
pub record StoreEntry (store : List ℕ) (k : ℕ) : Type 0 where
  pub checked : store_code store ≡ 0
  pub within : k < chunk_count store

-- Fingerprints can be looked up in the store: it passed its check, `count` is its chunk count, and the array holds the chains of its fingerprints.
pub record Findable (store : List ℕ) (count : ℕ) (chains : List ℕ) : Type 0 where
  pub checked : store_code store ≡ 0
  pub counts : count ≡ chunk_count store
  pub chained : Chained (store_keys store) 0 chains
