-- What the tables say of the starts of a keyword, and the starts that cross a chunk's end as a set.
use Rattle.std.specs.Prelude.{Bool, false, ◌||◌, List, ℕ, zero, suc, ◌-◌}
use Rattle.spec.specs.Bytes.{set_of, in_set}
use Rattle.spec.specs.Records.{ChunkRecords}
use Rattle.spec.specs.Join.{crosses_into}
use Rattle.tables.specs.Tabled.{cell_at}

-- Some cell of the first `count` for i has the start s.
unfoldable pub some_cell : List (List (List ℕ)) → ℕ → ℕ → ℕ → ℕ → Bool
some_cell tables k i s zero = false
some_cell tables k i s (suc j) = some_cell tables k i s j || in_set (cell_at tables k i j) s

-- The starts of keyword k that cross the end of a chunk with prefix i, against the chunks that follow it in its file: s for the start i - s bytes
-- before the end.
unfoldable pub crossing_set : List ℕ → ℕ → ℕ → List ChunkRecords → ℕ
crossing_set keyword k i rest = set_of (λ s. crosses_into keyword k i rest (i - s)) i
