-- Queries: request #109, "Several words in order". A query is 2 to 8 keyword numbers of one byte each, repeats allowed.
use Rattle.std.specs.Prelude.{◌≡◌, Bool, true, false, ◌&&◌, ◌||◌, not, cond, List, [], ◌∷◌, ◌++◌, map, ℕ, zero, suc, ◌+◌, ◌*◌, length, drop, get_or, eqb, leb, ltb}
use Rattle.spec.specs.Outcome.{Outcome, first_number, whole, answer, unless_refused, list_too_long, query_wrong}
use Rattle.spec.specs.Bytes.{le_bytes, field_at, fields_of, fields_bytes, written, keep, every}
use Rattle.spec.specs.Keywords.{folded_keywords}
use Rattle.spec.specs.Form.{Form}
use Rattle.spec.specs.Records.{ChunkRecords}
use Rattle.spec.specs.Index.{list_in, lengths_in}
use Rattle.spec.specs.Recipes.{files_of}
use Rattle.spec.specs.Join.{Occurrence, join_file, file_records, joinable_code}

-- ---- choices: `lengths` has the keywords' lengths, `list` a file's occurrences

-- An occurrence of keyword k at that offset is in the list.
abbrev pub starts_at : List Occurrence → ℕ → ℕ → Bool
starts_at [] k offset = false
starts_at (o ∷ list) k offset = eqb o.keyword k && eqb o.offset offset || starts_at list k offset

-- A "choice": the offsets are those of occurrences of the query's keywords, in that order. The first starts at or after `from`, each next one
-- at or after the end of the one before.
abbrev pub is_choice : List ℕ → List Occurrence → ℕ → List ℕ → List ℕ → Bool
is_choice lengths list from [] [] = true
is_choice lengths list from [] (o ∷ offsets) = false
is_choice lengths list from (k ∷ query) [] = false
is_choice lengths list from (k ∷ query) (o ∷ offsets) =
    leb from o && starts_at list k o && is_choice lengths list (o + get_or lengths k 0) query offsets

-- The first occurrence starts earlier; or at the same offset, and the second earlier, and so on; or all start at the same offsets.
abbrev pub not_later : List ℕ → List ℕ → Bool
not_later [] others = true
not_later (a ∷ offsets) [] = false
not_later (a ∷ offsets) (b ∷ others) = ltb a b || eqb a b && not_later offsets others

-- The choice whose first occurrence starts earliest, then the second, and so on: along the list, each keyword takes the first occurrence that it
-- may. It is shorter than the query where there is no choice. (That it is a choice, that there is one where there is any, and that none is
-- earlier is the theorem `earliest-choice` of proofs/Choices.)
unfoldable pub earliest : List ℕ → ℕ → List ℕ → List Occurrence → List ℕ
earliest lengths from [] list = []
earliest lengths from (k ∷ query) [] = []
earliest lengths from (k ∷ query) (o ∷ list) =
    cond (eqb o.keyword k && leb from o.offset)
    (o.offset ∷ earliest lengths (o.offset + get_or lengths k 0) query list)
    (earliest lengths from (k ∷ query) list)

-- What is asked of it, of a list that rises by offset and a query without empty keywords.

-- The occurrences rise by offset, from `from` on.
abbrev pub rises : ℕ → List Occurrence → Bool
rises from [] = true
rises from (o ∷ list) = leb from o.offset && rises o.offset list

-- No keyword of the query is empty.
abbrev pub lasting : List ℕ → List ℕ → Bool
lasting lengths query = every (λ k. ltb 0 (get_or lengths k 0)) query

-- `earliest` has an offset for each keyword of the query exactly where there is a choice; then it is a choice, and none is earlier.
pub record EarliestChoice (lengths query : List ℕ) (list : List Occurrence) : Type 0 where
  pub found : (offsets : List ℕ) → is_choice lengths list 0 query offsets ≡ true → length (earliest lengths 0 query list) ≡ length query
  pub chosen : length (earliest lengths 0 query list) ≡ length query → is_choice lengths list 0 query (earliest lengths 0 query list) ≡ true
  pub least : (offsets : List ℕ) → is_choice lengths list 0 query offsets ≡ true → not_later (earliest lengths 0 query list) offsets ≡ true

-- ---- lines

-- A file that qualifies, and the offsets of its choice.
pub record Line : Type 0 where
  pub file : ℕ
  pub offsets : List ℕ

-- The line of a file with that list of occurrences: none where the file does not qualify.
unfoldable pub line_of : List ℕ → List ℕ → ℕ → List Occurrence → List Line
line_of lengths query file list =
    keep (eqb (length (earliest lengths 0 query list)) (length query)) (record { file = file; offsets = earliest lengths 0 query list })

-- The lines of files, by rising number, from `file` on.
unfoldable pub lines_from : List ℕ → List ℕ → ℕ → List (List ℕ) → List (List ChunkRecords) → List Line
lines_from lengths query file keywords [] = []
lines_from lengths query file keywords (chunks ∷ rest) =
    line_of lengths query file (join_file file keywords chunks) ++ lines_from lengths query (suc file) keywords rest

unfoldable pub query_lines : Form → List ℕ → List ℕ → List ℕ → List Line
query_lines f index recipes query =
    lines_from (lengths_in index) query 0 (folded_keywords (list_in index)) (map (file_records f index) (files_of recipes))

-- The bytes of a line: file (4), and 4 for each number of the query.
abbrev pub line_size : List ℕ → ℕ
line_size query = 4 + 4 * length query

unfoldable pub line_bytes : Line → List ℕ
line_bytes l = le_bytes 4 l.file ++ fields_bytes 4 l.offsets

unfoldable pub lines_bytes : List Line → List ℕ
lines_bytes [] = []
lines_bytes (l ∷ lines) = line_bytes l ++ lines_bytes lines

-- The lines that n runs of bytes say, for a query of m numbers.
abbrev pub read_lines : ℕ → ℕ → List ℕ → List Line
read_lines m zero bytes = []
read_lines m (suc n) bytes = record { file = field_at bytes 0 4; offsets = fields_of 4 m (drop 4 bytes) } ∷ read_lines m n (drop (4 + 4 * m) bytes)

-- ---- the operation

-- 2 to 8 numbers, each below the keyword count w.
unfoldable pub is_query : ℕ → List ℕ → Bool
is_query count query = leb 2 (length query) && leb (length query) 8 && every (λ k. ltb k count) query

-- Its refusals before 18: the join's up to 17, then 21.
unfoldable pub queryable_code : Form → List ℕ → List ℕ → List ℕ → ℕ
queryable_code f index recipes query =
    first_number (whole (joinable_code f index recipes) ∷ (not (is_query (length (lengths_in index)) query), query_wrong) ∷ [])

-- The whole refusal, for a buffer of `room` bytes: 18 means that all lines together exceed it.
unfoldable pub query_code : Form → List ℕ → List ℕ → List ℕ → ℕ → ℕ
query_code f index recipes query room =
    first_number
    (whole (queryable_code f index recipes query)
    ∷ (ltb room (line_size query * length (query_lines f index recipes query)), list_too_long)
    ∷ [])

-- The answer, which has the number of lines, and the buffer.
unfoldable pub query_outcome : Form → List ℕ → List ℕ → List ℕ → ℕ → Outcome
query_outcome f index recipes query room = answer (query_code f index recipes query room) (length (query_lines f index recipes query))

unfoldable pub query_buffer : Form → List ℕ → List ℕ → List ℕ → List ℕ → List ℕ
query_buffer f index recipes query out =
    unless_refused (query_code f index recipes query (length out)) (written out (lines_bytes (query_lines f index recipes query))) out

-- The number of lines that a query would report, whatever the buffer.
unfoldable pub query_count : Form → List ℕ → List ℕ → List ℕ → Outcome
query_count f index recipes query = answer (queryable_code f index recipes query) (length (query_lines f index recipes query))
