-- What the functions of the body check answer, for any format whose fields fit.
use Rattle.std.specs.Prelude.{Bool, ◌&&◌, cond, Option, Some, None, List, ◌≡◌, ℕ, ◌+◌, ◌*◌, ◌^◌, ◌≤◌, ◌<◌, length, drop, get_or, eqb, leb}
use Rattle.spec.specs.Bytes.{field_at, fields_of, rising, every}
use Rattle.spec.specs.declared.Format.{Format}
use Rattle.spec.specs.Form.{form_in}
use Rattle.spec.specs.Records.{reach, record_size, record_taken, set_taken}
use Rattle.bodies.specs.Steps.{record_good, record_good_next, set_good_next}

-- The size of the good record that the bytes start with, for a keyword of length n and a chunk of length `size`, if they start with one.
unfoldable pub good_size : Format → ℕ → ℕ → List ℕ → Option ℕ
good_size format n size bytes = cond (record_good (form_in format) n (get_or bytes 0 0) size bytes) (Some (record_size (form_in format) bytes)) None

-- How many bytes keyword k's record takes, which is 0 where it is not next; None where it is not good.
unfoldable pub record_part : Format → ℕ → ℕ → ℕ → List ℕ → Option ℕ
record_part format n k size bytes = cond (record_good_next (form_in format) n k size bytes) (Some (record_taken (form_in format) k bytes)) None

-- The same of its set.
unfoldable pub set_part : Format → ℕ → ℕ → ℕ → List ℕ → Option ℕ
set_part format n k size bytes = cond (set_good_next (form_in format) n k size bytes) (Some (set_taken (form_in format) k bytes)) None

-- Offsets rise and leave room for the n bytes of the keyword.
unfoldable pub offsets_in_range : ℕ → ℕ → List ℕ → Bool
offsets_in_range n size offsets = rising offsets && every (λ at. leb (at + n) size) offsets

-- The `count` offsets of `width` bytes at `at`: all there, the first one the head's, in order.
unfoldable pub offsets_good : ℕ → ℕ → ℕ → List ℕ → ℕ → ℕ → Bool
offsets_good width n size bytes at count =
    leb (at + width * count) (length bytes)
    && eqb (field_at bytes 5 width) (field_at bytes at width)
    && offsets_in_range n size (fields_of width count (drop at bytes))

-- A format with fields of at most 3 bytes, which hold the offsets and counts of its longest chunk.
pub record Fits (format : Format) : Type 0 where
  pub fits : format.longest < 256 ^ format.width
  pub wide : format.width ≤ 3

-- A keyword's and a chunk's length in their ranges.
pub record Lengths (format : Format) (n size : ℕ) : Type 0 where
  pub fields : Fits format
  pub positive : 1 ≤ n
  pub short : n ≤ 32
  pub fit : size ≤ format.longest

-- The head of a full record of a kind, whole, with prefix and suffix in range.
pub record Head (format : Format) (kind n size : ℕ) (bytes : List ℕ) : Type 0 where
  pub lengths : Lengths format n size
  pub long : 5 + format.width ≤ length bytes
  pub is : get_or bytes 1 0 ≡ kind
  pub prefix : get_or bytes 2 0 ≤ reach n size
  pub suffix : get_or bytes 3 0 ≤ reach n size

-- The lengths of `count` keywords, and a chunk's.
pub record KeywordLengths (format : Format) (count size : ℕ) (lengths : List ℕ) : Type 0 where
  pub fields : Fits format
  pub room : count ≤ length lengths
  pub fit : size ≤ format.longest
  pub each : (k : ℕ) → k < count → (1 ≤ get_or lengths k 0) × (get_or lengths k 0 ≤ 32)
