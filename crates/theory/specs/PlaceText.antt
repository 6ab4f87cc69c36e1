-- What document 01 says of one keyword at one place of a file ("Joining two notes"), against what the join's definition lists there.
use Rattle.std.specs.Prelude.{◌≡◌, List, [], ◌∷◌, ◌++◌, map, ℕ, ◌+◌, ◌-◌}
use Rattle.spec.specs.Bytes.{each, keep}
use Rattle.spec.specs.Records.{ChunkRecords, record_at}
use Rattle.spec.specs.Table.{cell_of}
use Rattle.spec.specs.Join.{keyword_at, listed}

-- The offsets of a chunk at which the join lists keyword k, the chunk followed by these.
abbrev pub listed_of : List (List ℕ) → ChunkRecords → List ChunkRecords → ℕ → List ℕ
listed_of keywords here rest k = each (λ at. keep (listed keywords here rest at k) at) 0 here.size

-- Every start in the cell for the left chunk's prefix and the right one's suffix, counted from the prefix's length before the left chunk's end.
abbrev pub crossings : List (List ℕ) → ChunkRecords → ChunkRecords → ℕ → List ℕ
crossings keywords here next k =
    map (λ s. here.size - (record_at here k).prefix + s) (cell_of (keyword_at keywords k) (record_at here k).prefix (record_at next k).suffix)

pub record PlaceText (keywords : List (List ℕ)) (here next : ChunkRecords) (rest : List ChunkRecords) (k : ℕ) : Type 0 where
  -- the chunk's own occurrences, then the cell's starts; the next chunk has no set
  pub followed : listed_of keywords here (next ∷ rest) k ≡ (record_at here k).offsets ++ crossings keywords here next k
  -- the last chunk of a file: its own occurrences
  pub last : listed_of keywords here [] k ≡ (record_at here k).offsets
  -- none where a length is 0
  pub no_prefix : (record_at here k).prefix ≡ 0 → crossings keywords here next k ≡ []
  pub no_suffix : (record_at next k).suffix ≡ 0 → crossings keywords here next k ≡ []
