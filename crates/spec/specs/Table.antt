-- Partial-match tables: document 01, "Joining two notes" (the "square table" of a word).
use Rattle.std.specs.Prelude.{Bool, List, ◌++◌, ℕ, ◌-◌, length, take, drop}
use Rattle.spec.specs.Bytes.{occurs_at}
pub use Rattle.spec.specs.Bytes.{set_of}
use Rattle.spec.specs.Records.{offsets_of}

-- The keyword's first i bytes followed by its last j.
abbrev pub border_text : List ℕ → ℕ → ℕ → List ℕ
border_text keyword i j = take i keyword ++ drop (length keyword - j) keyword

-- The cell for lengths i and j holds every start of the keyword in these.
unfoldable pub cell_of : List ℕ → ℕ → ℕ → List ℕ
cell_of keyword i j = offsets_of keyword (border_text keyword i j)

-- s is in the cell for i and j.
unfoldable pub in_cell : List ℕ → ℕ → ℕ → ℕ → Bool
in_cell keyword i j s = occurs_at keyword (border_text keyword i j) s
