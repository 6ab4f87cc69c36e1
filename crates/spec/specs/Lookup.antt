-- The two lookups: document 01, "The two lookups". One call gives the number, 0 when found; the other the slice of the lent bytes.
use Rattle.std.specs.Prelude.{not, cond, List, [], ◌∷◌, ℕ, length, eqb}
use Rattle.spec.specs.Bytes.{part, contains, position_of}
use Rattle.spec.specs.Outcome.{first_number, whole, not_found, fingerprint_length}
use Rattle.spec.specs.Directory.{Layout, offset_at, length_at}
use Rattle.spec.specs.Store.{store_layout, store_keys, store_code}
use Rattle.spec.specs.Form.{Form}
use Rattle.spec.specs.Index.{index_layout, index_keys, index_code}

-- The check of the bytes, 19, 15.
abbrev pub lookup_code : ℕ → List (List ℕ) → List ℕ → ℕ
lookup_code code keys key =
    first_number (whole code ∷ (not (eqb (length key) 20), fingerprint_length) ∷ (not (contains key keys), not_found) ∷ [])

-- Where the slice starts and how long it is: what the entry says, or the empty slice at the start on a refusal.
abbrev pub lookup_start : ℕ → Layout → List ℕ → List (List ℕ) → List ℕ → ℕ
lookup_start code layout bytes keys key = cond (eqb (lookup_code code keys key) 0) (offset_at layout bytes (position_of key keys)) 0

abbrev pub lookup_length : ℕ → Layout → List ℕ → List (List ℕ) → List ℕ → ℕ
lookup_length code layout bytes keys key = cond (eqb (lookup_code code keys key) 0) (length_at layout bytes (position_of key keys)) 0

-- A store and a fingerprint: the chunk's bytes.
unfoldable pub find_chunk : List ℕ → List ℕ → ℕ
find_chunk store key = lookup_code (store_code store) (store_keys store) key

unfoldable pub chunk_start : List ℕ → List ℕ → ℕ
chunk_start store key = lookup_start (store_code store) store_layout store (store_keys store) key

unfoldable pub chunk_length : List ℕ → List ℕ → ℕ
chunk_length store key = lookup_length (store_code store) store_layout store (store_keys store) key

unfoldable pub chunk_of : List ℕ → List ℕ → List ℕ
chunk_of store key = part store (chunk_start store key) (chunk_length store key)

-- An index and a fingerprint: the body.
unfoldable pub find_body : Form → List ℕ → List ℕ → ℕ
find_body f index key = lookup_code (index_code f index) (index_keys index) key

unfoldable pub body_start : Form → List ℕ → List ℕ → ℕ
body_start f index key = lookup_start (index_code f index) (index_layout index) index (index_keys index) key

unfoldable pub body_length : Form → List ℕ → List ℕ → ℕ
body_length f index key = lookup_length (index_code f index) (index_layout index) index (index_keys index) key

unfoldable pub body_of : Form → List ℕ → List ℕ → List ℕ
body_of f index key = part index (body_start f index key) (body_length f index key)
