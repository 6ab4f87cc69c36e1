-- The written form of a record and its set in two parts: what stands before the list of offsets, and the list. The first is told from the record's
-- summary. A record that has a set lists no offsets, so its set is of the first part.
use Rattle.std.specs.Prelude.{◌≡◌, Bool, ◌&&◌, not, cond, List, [], ◌∷◌, ◌++◌, ℕ, ◌+◌, ◌*◌, ◌≤◌, ◌<◌, min, length, get_or, eqb, leb}
use Rattle.spec.specs.Bytes.{le_bytes, splice, fields_bytes}
use Rattle.spec.specs.Form.{Form, newest}
use Rattle.spec.specs.Records.{MatchRecord, kind_of, set_bytes}
use Rattle.records.specs.declared.Summary.{Summary}

-- Of a record's offsets only their count and the first bear on what stands before the list.
unfoldable pub summary_of : MatchRecord → Summary
summary_of m = record { prefix = m.prefix; suffix = m.suffix; count = length m.offsets; first = get_or m.offsets 0 0; set = m.inner }

-- Empty and tiny, by the summary.
unfoldable pub empty_in : Summary → Bool
empty_in s = eqb s.prefix 0 && eqb s.suffix 0 && eqb s.count 0

unfoldable pub tiny_in : Form → ℕ → Summary → Bool
tiny_in f n s = eqb s.count 0 && leb s.prefix (f.tiny_most n) && leb s.suffix (f.tiny_most n) && not (empty_in s)

-- A tiny record; a full record's head: keyword number, kind, prefix, suffix, count, first offset.
unfoldable pub tiny_part : Form → ℕ → Summary → List ℕ
tiny_part f k s = k ∷ 0 ∷ (s.prefix + f.tiny_step * s.suffix) ∷ []

unfoldable pub head_part : Form → ℕ → Summary → List ℕ
head_part f k s = k ∷ kind_of s.count ∷ s.prefix ∷ s.suffix ∷ min s.count 255 ∷ le_bytes f.width s.first

-- The record before its list of offsets, for a keyword of length n: of kind 3 the exact count too.
unfoldable pub record_part : Form → ℕ → ℕ → Summary → List ℕ
record_part f n k s =
    cond (empty_in s) []
    (cond (tiny_in f n s) (tiny_part f k s) (head_part f k s ++ cond (leb s.count 254) [] (le_bytes f.width s.count)))

-- What stands before the list: the record so far, and the set.
unfoldable pub start_bytes : Form → ℕ → ℕ → Summary → List ℕ
start_bytes f n k s = record_part f n k s ++ set_bytes k s.set

-- The list: none where there is at most one offset.
unfoldable pub list_bytes : Form → List ℕ → List ℕ
list_bytes f offsets = cond (leb (length offsets) 1) [] (fields_bytes f.width offsets)

-- How many offsets are listed.
unfoldable pub listed : ℕ → ℕ
listed count = cond (leb count 1) 0 count

-- What a writer promises: the run stands in the buffer from `at` on, every other byte is as it was, and the answer is where the run ends.
pub record Wrote (buffer : List ℕ) (at : ℕ) (run after : List ℕ) (end : ℕ) : Type 0 where
  pub written : after ≡ splice buffer at run
  pub ends : end ≡ at + length run

-- What the writer of a record's start asks: its numbers are bytes, and it fits.
pub record CanStart (buffer : List ℕ) (n k : ℕ) (s : Summary) : Type 0 where
  pub number : k < 256
  pub prefixed : s.prefix < 256
  pub suffixed : s.suffix < 256
  pub room : length (start_bytes newest n k s) ≤ length buffer
