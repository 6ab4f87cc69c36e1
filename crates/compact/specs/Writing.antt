-- What the writers of a compacted store ask, and what the examination before them promises.
use Rattle.std.specs.Prelude.{◌≡◌, Bool, List, ℕ, ◌+◌, ◌*◌, ◌≤◌, ◌<◌, length}
use Rattle.spec.specs.Store.{chunk_count, chunk_at, store_code, stored_chunks}
use Rattle.spec.specs.Compact.{named_in, named_among, compactable_code}
use Rattle.compact.specs.Marking.{marked_at, marked_from, chunk_bytes, Marks}

-- Chunk k has its place in the buffer, and its entry a place before it.
pub record CanPutChunk (buffer : List ℕ) (entry at : ℕ) (store : List ℕ) (k : ℕ) : Type 0 where
  pub checked : store_code store ≡ 0
  pub within : k < chunk_count store
  pub before : entry + 28 ≤ at
  pub room : at + length (chunk_at store k) ≤ length buffer

-- The same where it is marked.
pub record CanPutMarked (buffer : List ℕ) (entry at : ℕ) (store : List ℕ) (k : ℕ) (marked : Bool) : Type 0 where
  pub checked : store_code store ≡ 0
  pub within : k < chunk_count store
  pub before : entry + 28 * length (marked_at store marked k) ≤ at
  pub room : at + length (chunk_bytes (marked_at store marked k)) ≤ length buffer

-- The marked chunks are n, and the buffer has room for the store of them.
pub record CanPutStore (buffer store : List ℕ) (count : ℕ) (marks : List Bool) (n : ℕ) : Type 0 where
  pub marked : Marks store count marks
  pub number : n ≡ length (marked_from store marks 0)
  pub room : 8 + 28 * n + length (chunk_bytes (marked_from store marks 0)) ≤ length buffer

-- The refusals before 9; where there is none, the marked chunks are those that some recipe names.
pub record Examined (store recipes : List ℕ) (marks : List Bool) (code : ℕ) : Type 0 where
  pub told : code ≡ compactable_code store recipes
  pub marked : code ≡ 0 → Marks store (chunk_count store) marks
  pub chunks : code ≡ 0 → marked_from store marks 0 ≡ named_among (named_in recipes) (stored_chunks store)
