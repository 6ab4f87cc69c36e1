-- Compaction: request #107. From a store and recipes, a store without holes that has exactly the chunks that some recipe names, in their old order.
use Rattle.std.specs.Prelude.{not, cond, List, [], ◌∷◌, ℕ, length, ltb}
use Rattle.spec.specs.Outcome.{Outcome, first_number, whole, answer, unless_refused, not_found, store_too_long}
use Rattle.spec.specs.Bytes.{written, contains, every, joined}
use Rattle.spec.specs.Store.{Chunk, store_bytes, store_keys, stored_chunks, store_code}
use Rattle.spec.specs.Recipes.{files_of, recipes_code}

-- The fingerprints that the recipes name, file after file.
unfoldable pub named_in : List ℕ → List (List ℕ)
named_in recipes = joined (files_of recipes)

-- The chunks whose fingerprints are among these, in their order.
abbrev pub named_among : List (List ℕ) → List Chunk → List Chunk
named_among keys [] = []
named_among keys (c ∷ cs) = cond (contains c.key keys) (c ∷ named_among keys cs) (named_among keys cs)

-- The new store.
unfoldable pub compacted : List ℕ → List ℕ → List ℕ
compacted store recipes = store_bytes (named_among (named_in recipes) (stored_chunks store))

-- ---- the operation

-- Its refusals before 9: the store check, 14, 15 for a fingerprint that the store does not have.
unfoldable pub compactable_code : List ℕ → List ℕ → ℕ
compactable_code store recipes =
    first_number
    (whole (store_code store)
    ∷ whole (recipes_code recipes)
    ∷ (not (every (λ key. contains key (store_keys store)) (named_in recipes)), not_found)
    ∷ [])

-- The whole refusal, for a buffer of `room` bytes.
unfoldable pub compact_code : List ℕ → List ℕ → ℕ → ℕ
compact_code store recipes room = first_number (whole (compactable_code store recipes) ∷ (ltb room (length (compacted store recipes)), store_too_long) ∷ [])

-- Done with the new store's length, or refused; the buffer after it.
unfoldable pub compact_outcome : List ℕ → List ℕ → ℕ → Outcome
compact_outcome store recipes room = answer (compact_code store recipes room) (length (compacted store recipes))

unfoldable pub compact_buffer : List ℕ → List ℕ → List ℕ → List ℕ
compact_buffer store recipes out = unless_refused (compact_code store recipes (length out)) (written out (compacted store recipes)) out

-- The length that it would write, whatever the buffer.
unfoldable pub compact_size : List ℕ → List ℕ → Outcome
compact_size store recipes = answer (compactable_code store recipes) (length (compacted store recipes))
