-- Partial-match tables as arrays of arrays of sets: document 01, "a square table whose cell for lengths i and j".
use Rattle.std.specs.Prelude.{◌&&◌, cond, List, [], ◌∷◌, ℕ, ltb, length, get_or}
use Rattle.spec.specs.Bytes.{each}
use Rattle.spec.specs.Table.{in_cell, set_of}
use Rattle.spec.specs.Join.{keyword_at}

-- The cell for lengths i and j: its starts as a set.
unfoldable pub cell_set : List ℕ → ℕ → ℕ → ℕ
cell_set keyword i j = set_of (in_cell keyword i j) i

-- The same as an element of the keyword's array: 0 where i or j is not below the keyword's length.
unfoldable pub cell_in : List ℕ → ℕ → ℕ → ℕ
cell_in keyword i j = cond (ltb i (length keyword) && ltb j (length keyword)) (cell_set keyword i j) 0

-- The row for i: 32 cells.
unfoldable pub cells_of : List ℕ → ℕ → List ℕ
cells_of keyword i = each (λ j. cell_in keyword i j ∷ []) 0 32

-- The keyword's table: 32 rows.
unfoldable pub table_of : List ℕ → List (List ℕ)
table_of keyword = each (λ i. cells_of keyword i ∷ []) 0 32

-- 16 tables, that of keyword k at k; behind the last keyword that of no bytes, all 0.
unfoldable pub tables_of : List (List ℕ) → List (List (List ℕ))
tables_of keywords = each (λ k. table_of (keyword_at keywords k) ∷ []) 0 16

-- A cell of the tables.
abbrev pub cell_at : List (List (List ℕ)) → ℕ → ℕ → ℕ → ℕ
cell_at tables k i j = get_or (get_or (get_or tables k []) i []) j 0
