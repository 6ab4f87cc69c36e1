-- What the functions inside promise: bytes written at a place, and the text of the occurrences that a list's bytes say.
use Rattle.std.specs.Prelude.{◌≡◌, List, [], ◌∷◌, ℕ, ◌+◌, ◌≤◌, length, drop}
use Rattle.spec.specs.Join.{read_list}
use Rattle.spec.specs.Bytes.{field_at, splice}
use Rattle.spec.specs.Program.{decimal, line, occurrences_text}

-- Bytes have room at a place.
abbrev pub Room : List ℕ → ℕ → List ℕ → Type 0
Room out at bytes = at + length bytes ≤ length out

-- They are written there, and r is where they end.
abbrev pub Puts : List ℕ → List ℕ → ℕ → List ℕ → ℕ → Type 0
Puts out out' at bytes r = (r ≡ at + length bytes) × (out' ≡ splice out at bytes)

-- The line of the occurrence whose 9 bytes start at `from`.
unfoldable pub row_text : List ℕ → ℕ → List ℕ
row_text list from = line (decimal (field_at list from 4) ∷ decimal (field_at list (from + 4) 4) ∷ decimal (field_at list (from + 8) 1) ∷ [])

-- The lines of the n occurrences whose bytes start at `from`.
unfoldable pub rows_text : List ℕ → ℕ → ℕ → List ℕ
rows_text list n from = occurrences_text (read_list n (drop from list))
