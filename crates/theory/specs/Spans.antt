-- Request #108's sentence on a crossing keyword, said by lengths: which chunk is the last of an occurrence is decided by the bytes that are left.
use Rattle.std.specs.Prelude.{Bool, false, ◌&&◌, cond, List, [], ◌∷◌, ℕ, ◌+◌, ◌-◌, ◌^◌, ◌≤◌, ◌<◌, length, leb}
use Rattle.spec.specs.Bytes.{in_set}
use Rattle.spec.specs.Records.{ChunkRecords, record_at}
use Rattle.spec.specs.Join.{starts, ends}

-- Keyword k from its byte p on: where the bytes left are no more than the chunk has, it is the last, and they are the first of the recorded
-- suffix; else the chunk is between, and its set has p.
unfoldable pub follows : List ℕ → ℕ → ℕ → List ChunkRecords → Bool
follows keyword k p [] = false
follows keyword k p (here ∷ rest) =
    cond (leb (length keyword) (p + here.size)) (ends keyword (record_at here k).suffix p)
    (in_set (record_at here k).inner p && follows keyword k (p + here.size) rest)

-- A crossing keyword with `left` bytes in its first chunk: these are the last of the recorded prefix i, and it follows.
abbrev pub crosses_by_lengths : List ℕ → ℕ → ℕ → List ChunkRecords → ℕ → Bool
crosses_by_lengths keyword k i rest left = starts keyword i left && follows keyword k left rest

-- What is asked of the records behind: suffix and set of keyword k in their ranges.
pub record SpanRange (keyword : List ℕ) (k : ℕ) (here : ChunkRecords) : Type 0 where
  pub suffix : (record_at here k).suffix ≤ here.size
  pub inner : (record_at here k).inner < 2 ^ (length keyword - here.size)

abbrev pub AllSpan : List ℕ → ℕ → List ChunkRecords → Type 0
AllSpan keyword k [] = Unit {0}
AllSpan keyword k (here ∷ rest) = SpanRange keyword k here × AllSpan keyword k rest
