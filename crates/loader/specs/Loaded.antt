-- The match records of a chunk as rows of four numbers, with the offsets left where the index has them.
use Rattle.std.specs.Prelude.{◌≡◌, Bool, true, ◌&&◌, cond, List, [], ◌∷◌, ℕ, zero, suc, ◌+◌, ◌-◌, ◌*◌, ◌≤◌, length, drop, get_or, leb}
use Rattle.spec.specs.Bytes.{part, fields_of}
use Rattle.spec.specs.declared.Format.{Format}
use Rattle.spec.specs.Form.{Form, form_in}
use Rattle.spec.specs.Records.{MatchRecord, record_taken, set_taken, read_set, read_keyword, behind_keyword}

-- ---- what bytes say of the next keyword

-- The bytes behind its record, and how many its record and its set take.
abbrev pub behind_record : Form → ℕ → List ℕ → List ℕ
behind_record f k bytes = drop (record_taken f k bytes) bytes

abbrev pub keyword_taken : Form → ℕ → List ℕ → ℕ
keyword_taken f k bytes = record_taken f k bytes + set_taken f k (behind_record f k bytes)

-- Every record and every set of the `count` keywords from k on lies whole in the bytes. Good bodies are so: `good-body-fits`.
unfoldable pub fits_from : Form → ℕ → ℕ → List ℕ → Bool
fits_from f k zero bytes = true
fits_from f k (suc count) bytes =
    leb (record_taken f k bytes) (length bytes)
    && (leb (set_taken f k (behind_record f k bytes)) (length (behind_record f k bytes)) && fits_from f (suc k) count (behind_keyword f k bytes))

-- ---- rows

-- A row holds a record, but for its set: its prefix, its suffix, the place in the index of its list of offsets, and how many there are.
pub record Row (index : List ℕ) (width : ℕ) (row : List ℕ) (r : MatchRecord) : Type 0 where
  pub prefix : get_or row 0 0 ≡ r.prefix
  pub suffix : get_or row 1 0 ≡ r.suffix
  pub offsets : fields_of width (get_or row 3 0) (drop (get_or row 2 0) index) ≡ r.offsets
  pub inside : get_or row 2 0 + width * get_or row 3 0 ≤ length index
  pub many : get_or row 3 0 ≡ length r.offsets

-- The row of a record that takes `size` bytes at `at`: prefix, suffix, where its list of offsets is, and how many there are. The list ends
-- where the record does.
unfoldable pub row_at : ℕ → ℕ → ℕ → MatchRecord → List ℕ
row_at width at size r = r.prefix ∷ r.suffix ∷ (at + size - width * length r.offsets) ∷ length r.offsets ∷ []

-- Where the record of a row ends.
abbrev pub row_end : ℕ → List ℕ → ℕ
row_end width row = get_or row 2 0 + width * get_or row 3 0

-- The set of keyword k behind the record of its row, in a body that ends at `end`; empty where a set is not next, or not whole.
unfoldable pub set_at : Form → List ℕ → ℕ → List ℕ → ℕ → ℕ
set_at f index end row k = cond (leb 6 (end - row_end f.width row)) (read_set f k (part index (row_end f.width row) (end - row_end f.width row))) 0

-- ---- all keywords

abbrev pub row_of : List (List ℕ) → ℕ → List ℕ
row_of rows k = get_or rows k []

-- The rows of the `count` keywords from k on, of a body's bytes that lie at `at`.
unfoldable pub rows_from : Form → ℕ → ℕ → ℕ → List ℕ → List (List ℕ)
rows_from f k zero at bytes = []
rows_from f k (suc count) at bytes =
    row_at f.width at (record_taken f k bytes) (read_keyword f k bytes) ∷ rows_from f (suc k) count (at + keyword_taken f k bytes) (behind_keyword f k bytes)

-- What `load` asks: fields are at most 3 bytes wide, the body lies in the index, and its records and sets lie whole in it.
pub record Loadable (format : Format) (index : List ℕ) (at len count : ℕ) (rows : List (List ℕ)) : Type 0 where
  pub wide : format.width ≤ 3
  pub few : count ≤ 16
  pub long : count ≤ length rows
  pub inside : at + len ≤ length index
  pub whole : fits_from (form_in format) 0 count (part index at len) ≡ true
