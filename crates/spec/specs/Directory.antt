-- Directories: entries of a fixed size that begin with a fingerprint (20 opaque bytes). A store and an index have one each.
use Rattle.std.specs.Prelude.{◌||◌, not, List, [], ◌∷◌, ℕ, zero, suc, ◌+◌, ◌*◌, length, take, drop, eqb, ltb}
use Rattle.spec.specs.Bytes.{part, field_at}
use Rattle.spec.specs.Outcome.{first_number, whole}

-- Where a directory lies and where the fields of its entries are, counted from an entry's start; each field has 4 bytes.
pub record Layout : Type 0 where
  -- the first entry
  pub start : ℕ
  -- the size of an entry
  pub stride : ℕ
  -- the chunk's length L
  pub size_field : ℕ
  -- offset and length of what the entry points to: the chunk, or the chunk's body
  pub offset_field : ℕ
  pub length_field : ℕ

-- The n fingerprints of 20 bytes that lie `stride` apart.
abbrev pub keys_of : ℕ → ℕ → List ℕ → List (List ℕ)
keys_of stride zero bytes = []
keys_of stride (suc n) bytes = take 20 bytes ∷ keys_of stride n (drop stride bytes)

-- The end of a directory of c entries.
abbrev pub directory_end : Layout → ℕ → ℕ
directory_end layout c = layout.start + layout.stride * c

module _ (layout : Layout) (bytes : List ℕ) where
  abbrev pub entry_field : ℕ → ℕ → ℕ
  entry_field field k = field_at bytes (directory_end layout k + field) 4

  abbrev pub size_at : ℕ → ℕ
  size_at k = entry_field layout.size_field k

  abbrev pub offset_at : ℕ → ℕ
  offset_at k = entry_field layout.offset_field k

  abbrev pub length_at : ℕ → ℕ
  length_at k = entry_field layout.length_field k

  -- What entry k points to.
  abbrev pub pointed_at : ℕ → List ℕ
  pointed_at k = part bytes (offset_at k) (length_at k)

  -- The fingerprints of c entries.
  abbrev pub keys_in : ℕ → List (List ℕ)
  keys_in c = keys_of layout.stride c (drop layout.start bytes)

  -- Entry by entry, n of them from entry k on: a length L outside 1 to `most`, an offset that is not where the one before ended (`at`);
  -- then a last end that is not the end of the bytes.
  abbrev pub entries_code : ℕ → ℕ → ℕ → ℕ → ℕ → ℕ
  entries_code most code zero k at = first_number ((not (eqb at (length bytes)), code) ∷ [])
  entries_code most code (suc n) k at =
      first_number
      ((eqb (size_at k) 0 || ltb most (size_at k), code)
      ∷ (not (eqb (offset_at k) at), code)
      ∷ whole (entries_code most code n (suc k) (at + length_at k))
      ∷ [])
