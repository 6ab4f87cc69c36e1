-- Request #107: what holds of the store that a compaction writes. It is accepted and compacting it again gives itself; a search of those recipes goes as
-- before; and no accepted store in which the named fingerprints have the same bytes is shorter. Then cases by computation.
use Rattle.std.specs.Prelude.{◌≡◌, true, List, [], ◌∷◌, ◌++◌, ℕ, ◌≤◌, replicate, length, take}
use Rattle.spec.specs.Outcome.{Outcome, Done, Refused, code_of, value_of}
use Rattle.spec.specs.Scanned.{Scanned}
use Rattle.spec.specs.Bytes.{contains}
use Rattle.spec.specs.Store.{store_keys, stored_chunks, store_code}
use Rattle.spec.specs.Form.{form2, newest}
use Rattle.spec.specs.Join.{Clients, one_client, join_code}
use Rattle.spec.specs.Scan.{scan_index, scan_answer, scanned_code}
use Rattle.spec.specs.Search.{chunk_named, search_code, search_outcome, search_buffer, search_tally, searched_code, searched_count}
use Rattle.spec.specs.Compact.{named_in, named_among, compacted, compact_outcome, compact_buffer, compact_size}
use Rattle.theory.specs.Cases.{store, keywords, recipes, recipes_of}
use Rattle.theory.specs.Demand3.{scanned}
use Rattle.theory.specs.Demands.{Calls}
use Rattle.theory.specs.SameChunks.{WrittenInFull, JoinsAlike, QueriesAlike}
use Rattle.theory.specs.Holes.{store_of, holed_store}

-- Each fingerprint that these recipes name has the same bytes in the other store.
abbrev pub SameNamed : List ℕ → List ℕ → List ℕ → Type 0
SameNamed store recipes other =
    (key : List ℕ) → contains key (named_in recipes) ≡ true → (contains key (store_keys other) ≡ true) × (chunk_named other key ≡ chunk_named store key)

-- Of an accepted store and any recipes, where a fingerprint that the store does not have is passed over.
pub record Compaction (store recipes : List ℕ) : Type 0 where
  -- the new store is accepted, and has exactly the chunks that some recipe names, in their old order
  pub accepted : store_code (compacted store recipes) ≡ 0
  pub chunks : stored_chunks (compacted store recipes) ≡ named_among (named_in recipes) (stored_chunks store)
  -- compacting it again gives itself
  pub again : compacted (compacted store recipes) recipes ≡ compacted store recipes
  -- a scan and a join of what it wrote on each of the two stores, for the same keyword list, these recipes, the same key and tallies that are equal at entry:
  -- with both index files written in full and list buffers of equal length, the list or the refusal that it was before, and the tally
  pub calls : (list : List ℕ) (clients : Clients)
      (buffer out : List ℕ) (scan : Scanned) (join : Outcome) (buffer' index out' tally' : List ℕ)
      → Calls list store recipes clients buffer out scan join buffer' index out' tally'
      → (buffer₂ out₂ : List ℕ) (scan₂ : Scanned) (join₂ : Outcome) (buffer₂' index₂ out₂' tally₂' : List ℕ)
      → Calls list (compacted store recipes) recipes clients buffer₂ out₂ scan₂ join₂ buffer₂' index₂ out₂' tally₂'
      → WrittenInFull scan scan₂ → length out ≡ length out₂ → JoinsAlike out out₂ join join₂ out' out₂' tally' tally₂'
  -- a search, likewise: its number and count, its list buffer, and the tally
  pub searches : (list : List ℕ) (clients : Clients) (index_room index_room₂ : ℕ)
      → scanned_code (scan_answer newest list store index_room) ≡ 0 → scanned_code (scan_answer newest list (compacted store recipes) index_room₂) ≡ 0
      → (out : List ℕ)
      → (searched_code (search_outcome newest list store recipes clients index_room (length out))
      ≡ searched_code (search_outcome newest list (compacted store recipes) recipes clients index_room₂ (length out)))
      × (searched_count (search_outcome newest list store recipes clients index_room (length out))
      ≡ searched_count (search_outcome newest list (compacted store recipes) recipes clients index_room₂ (length out)))
      × (search_buffer newest list store recipes clients index_room out ≡ search_buffer newest list (compacted store recipes) recipes clients index_room₂ out)
      × (search_tally newest list store recipes clients index_room (length out)
      ≡ search_tally newest list (compacted store recipes) recipes clients index_room₂ (length out))
  -- a query of each of the two indexes (request #109), likewise: its answer, and its buffer
  pub queries : (list buffer buffer₂ : List ℕ)
      → scanned_code (scan_answer newest list store (length buffer)) ≡ 0
      → scanned_code (scan_answer newest list (compacted store recipes) (length buffer₂)) ≡ 0
      → QueriesAlike (scanned list store buffer) (scanned list (compacted store recipes) buffer₂) recipes
  -- every other accepted store in which each fingerprint these recipes name has the same bytes is at least as long
  pub shortest : (other : List ℕ) → store_code other ≡ 0 → SameNamed store recipes other → length (compacted store recipes) ≤ length other
  -- it is no longer than the old store, so a buffer of that length is enough
  pub within : length (compacted store recipes) ≤ length store
  -- where a compaction is done, the bytes under the length that it tells are the new store
  pub wrote : (out : List ℕ) → code_of (compact_outcome store recipes (length out)) ≡ 0
      → take (value_of (compact_outcome store recipes (length out))) (compact_buffer store recipes out) ≡ compacted store recipes

-- ---- cases

-- One file: the small vault's last chunk, its first, its last again.
abbrev pub last_first_last : List ℕ
last_first_last = recipes_of ((3 ∷ 1 ∷ 3 ∷ []) ∷ [])

-- What is left of the small vault's store for it.
abbrev pub first_and_last : List ℕ
first_and_last = store_of ((1, 64, 3) ∷ (3, 67, 1) ∷ []) (0x58 ∷ 0x41 ∷ 0x42 ∷ 0x41 ∷ [])

pub record CompactionCases : Type 0 where
  -- the small vault with holes, for its own recipes: all chunks are named, and the small vault's store is left
  pub small : compacted holed_store recipes ≡ store
  -- the chunks lie in the directory's order, whatever the recipes' is; one named twice stands once, one not named is left out; the offsets begin behind the
  -- new directory
  pub named : compacted holed_store last_first_last ≡ first_and_last
  -- its 68 bytes are room enough, and what is behind them stays; one byte less is 9, and all bytes stay; the length alone
  pub room : (compact_outcome holed_store last_first_last 68 ≡ Done 68) × (compact_outcome holed_store last_first_last 67 ≡ Refused 9)
  pub behind : compact_buffer holed_store last_first_last (replicate 70 7) ≡ first_and_last ++ (7 ∷ 7 ∷ [])
  pub stays : compact_buffer holed_store last_first_last (replicate 67 7) ≡ replicate 67 7
  pub size : compact_size holed_store last_first_last ≡ Done 68
  -- no recipe names a chunk: 8 bytes
  pub unnamed : (compacted holed_store (recipes_of []) ≡ store_of [] []) × (compacted holed_store (recipes_of ([] ∷ [] ∷ [])) ≡ store_of [] [])
  -- the refusals' order: of the store, 14, 15, 9
  pub refusals : (compact_outcome [] [] 0 ≡ Refused 5)
      × (compact_outcome holed_store [] 0 ≡ Refused 14)
      × (compact_outcome holed_store (recipes_of ((1 ∷ []) ∷ (4 ∷ []) ∷ [])) 0 ≡ Refused 15)
      × (compact_outcome holed_store recipes 0 ≡ Refused 9)
      × (compact_size holed_store (recipes_of ((4 ∷ []) ∷ [])) ≡ Refused 15)
  -- recipes that a join under an older mark refuses with 17 are compacted for; a search takes them (request #108)
  pub inner : (search_code newest keywords holed_store (recipes_of ((1 ∷ 3 ∷ 2 ∷ []) ∷ [])) one_client 65536 65536 ≡ 0)
      × (join_code form2 (scan_index form2 keywords holed_store) (recipes_of ((1 ∷ 3 ∷ 2 ∷ []) ∷ [])) one_client 65536 ≡ 17)
      × (compacted holed_store (recipes_of ((1 ∷ 3 ∷ 2 ∷ []) ∷ [])) ≡ store)
