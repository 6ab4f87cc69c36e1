-- Request #109, "Several words in order": what a scan and a query of what it wrote answer, said of the restored files, and the claim on two such calls.
use Rattle.std.specs.Prelude.{◌≡◌, ◌↔◌, Bool, true, false, ◌||◌, not, List, [], ◌∷◌, ◌++◌, map, ℕ, suc, ◌+◌, ◌*◌, ◌≤◌, ◌<◌, length, take, get_or, eqb, ltb}
use Rattle.spec.specs.Outcome.{Outcome, first_number, whole, code_of, value_of, list_too_long, query_wrong}
use Rattle.spec.specs.Scanned.{Scanned}
use Rattle.spec.specs.Bytes.{rising}
use Rattle.spec.specs.Keywords.{flag_of, keywords_of, folded_keywords}
use Rattle.spec.specs.Directory.{size_at}
use Rattle.spec.specs.Store.{store_layout, store_keys}
use Rattle.spec.specs.Form.{Form, newest, form_of}
use Rattle.spec.specs.Index.{list_in, lengths_in}
use Rattle.spec.specs.Recipes.{files_of, recipes_code, files_code}
use Rattle.spec.specs.Join.{Occurrence, keyword_at, join_file, file_records}
use Rattle.spec.specs.Query.{is_choice, not_later, Line, line_of, query_lines, line_size, read_lines, is_query, query_outcome, query_buffer}
use Rattle.spec.specs.Scan.{scan_answer, scan_buffer, scanned_code, scanned_length}
use Rattle.spec.specs.Search.{occurrences_in, restored}
use Rattle.theory.specs.Demand3.{NoScanRefusal, restored_files}
use Rattle.theory.specs.Demands.{StandsAt}

-- ---- the lines of lists of occurrences

-- Some line is the file's.
abbrev pub has_line : ℕ → List Line → Bool
has_line file [] = false
has_line file (l ∷ lines) = eqb file l.file || has_line file lines

-- Of `count` files, whose lists of occurrences `list_of` gives: there is a choice among those of a file.
pub record HasChoice (lengths query : List ℕ) (count : ℕ) (list_of : ℕ → List Occurrence) (file : ℕ) : Type 0 where
  pub known : file < count
  pub offsets : List ℕ
  pub choice : is_choice lengths (list_of file) 0 query offsets ≡ true

-- A line has a choice among its file's, and none is earlier.
pub record HasEarliest (lengths query : List ℕ) (count : ℕ) (list_of : ℕ → List Occurrence) (l : Line) : Type 0 where
  pub known : l.file < count
  pub choice : is_choice lengths (list_of l.file) 0 query l.offsets ≡ true
  pub least : (offsets : List ℕ) → is_choice lengths (list_of l.file) 0 query offsets ≡ true → not_later l.offsets offsets ≡ true

-- A file has a line exactly when there is a choice among its occurrences; a line has the earliest; lines rise by file, so that no file has two.
pub record ChoiceLines (lengths query : List ℕ) (count : ℕ) (list_of : ℕ → List Occurrence) (lines : List Line) : Type 0 where
  pub exactly : (file : ℕ) → (has_line file lines ≡ true) ↔ HasChoice lengths query count list_of file
  pub earliest : (i : ℕ) (none : Line) → i < length lines → HasEarliest lengths query count list_of (get_or lines i none)
  pub ordered : rising (map (λ (l : Line). l.file) lines) ≡ true

-- The lines of an accepted query of any accepted index, also of one that no scan wrote, go so by the lists of a join.
abbrev pub QueryLines : Form → List ℕ → List ℕ → List ℕ → Type 0
QueryLines f index recipes query =
    ChoiceLines (lengths_in index) query (length (files_of recipes))
    (λ file. join_file file (folded_keywords (list_in index)) (file_records f index (get_or (files_of recipes) file []))) (query_lines f index recipes query)

-- ---- the lines of the restored files

-- The lines of texts, numbered from `file` on, by a direct search of each.
unfoldable pub lines_in : List ℕ → List ℕ → ℕ → List (List ℕ) → List (List ℕ) → List Line
lines_in lengths query file keywords [] = []
lines_in lengths query file keywords (text ∷ rest) =
    line_of lengths query file (occurrences_in file keywords text) ++ lines_in lengths query (suc file) keywords rest

-- Those of the restored files, as keywords and files compare.
unfoldable pub search_lines : List ℕ → List ℕ → List ℕ → List ℕ → List Line
search_lines list store recipes query =
    lines_in (map length (keywords_of list)) query 0 (folded_keywords list) (restored_files list store recipes)

-- The number of a query of a scan's index, said of the store: 14; file by file 15 and 16; 21; 18.
unfoldable pub search_query_code : List ℕ → List ℕ → List ℕ → List ℕ → ℕ → ℕ
search_query_code list store recipes query room =
    first_number
    (whole (recipes_code recipes)
    ∷ whole (files_code (store_keys store) (size_at store_layout store) 0 (files_of recipes))
    ∷ (not (is_query (length (keywords_of list)) query), query_wrong)
    ∷ (ltb room (line_size query * length (search_lines list store recipes query)), list_too_long)
    ∷ [])

-- ---- refusals

-- 2 to 8 numbers, each below the keyword count w.
abbrev pub GoodQuery : ℕ → List ℕ → Type 0
GoodQuery count query = (2 ≤ length query) × (length query ≤ 8) × ((i : ℕ) → i < length query → get_or query i 0 < count)

-- No refusal of the query holds, said of the store: 14; 15 and 16; 21; 18, which means that all lines together exceed the buffer.
abbrev pub NoQueryRefusal : List ℕ → List ℕ → List ℕ → List ℕ → ℕ → Type 0
NoQueryRefusal list store recipes query room =
    (recipes_code recipes ≡ 0)
    × (files_code (store_keys store) (size_at store_layout store) 0 (files_of recipes) ≡ 0)
    × GoodQuery (length (keywords_of list)) query
    × ((4 + 4 * length query) * length (search_lines list store recipes query) ≤ room)

-- ---- qualifying

-- The query's keywords stand in the text at these offsets: the first at or after `from`, each next one at or after the end of the one before.
abbrev pub StandInOrder : ℕ → List (List ℕ) → List ℕ → ℕ → List ℕ → List ℕ → Type 0
StandInOrder flag keywords text from [] [] = Unit {0}
StandInOrder flag keywords text from [] (o ∷ offsets) = ⊥
StandInOrder flag keywords text from (k ∷ query) [] = ⊥
StandInOrder flag keywords text from (k ∷ query) (o ∷ offsets) =
    (from ≤ o)
    × StandsAt flag (keyword_at keywords k) text o
    × StandInOrder flag keywords text (o + length (keyword_at keywords k)) query offsets

-- They stand so in the file with that number.
abbrev pub StandInFile : List ℕ → List ℕ → List ℕ → List ℕ → ℕ → List ℕ → Type 0
StandInFile list store recipes query file offsets =
    (file < length (files_of recipes))
    × StandInOrder (flag_of list) (keywords_of list) (restored store (get_or (files_of recipes) file [])) 0 query offsets

-- A file qualifies when occurrences of these keywords exist in that order.
pub record Qualifies (list store recipes query : List ℕ) (file : ℕ) : Type 0 where
  pub offsets : List ℕ
  pub stand : StandInFile list store recipes query file offsets

-- A line's offsets are those of such occurrences, and the first of none starts earlier; or of those that start as early, the second, and so on.
pub record EarliestLine (list store recipes query : List ℕ) (l : Line) : Type 0 where
  pub stand : StandInFile list store recipes query l.file l.offsets
  pub least : (offsets : List ℕ) → StandInFile list store recipes query l.file offsets → not_later l.offsets offsets ≡ true

-- ---- two calls

-- What the contracts of scan::scan and query::query say of two calls: their answers, and their buffers after (buffer', out').
pub record QueryCalls (list store recipes query buffer out : List ℕ) (scan : Scanned) (found : Outcome) (buffer' index out' : List ℕ) : Type 0 where
  pub scanned : scan ≡ scan_answer newest list store (length buffer)
  pub wrote : buffer' ≡ scan_buffer newest list store buffer
  -- the query's index: the bytes that the scan wrote, of the length it reported, in the scan's buffer or a copy
  pub handed : index ≡ take (scanned_length scan) buffer'
  pub queried : found ≡ query_outcome (form_of index) index recipes query (length out)
  pub reported : out' ≡ query_buffer (form_of index) index recipes query out

-- What then holds of the answers and of the line buffer.
pub record QueryClaim (list store recipes query buffer out : List ℕ) (scan : Scanned) (found : Outcome) (out' : List ℕ) : Type 0 where
  -- both do their work exactly when no refusal of either holds
  pub both : ((scanned_code scan ≡ 0) × (code_of found ≡ 0))
      ↔ (NoScanRefusal list store (length buffer) × NoQueryRefusal list store recipes query (length out))
  -- and then a file has a line exactly when it qualifies
  pub exactly : scanned_code scan ≡ 0 → code_of found ≡ 0 → (file : ℕ)
      → (has_line file (read_lines (length query) (value_of found) out') ≡ true) ↔ Qualifies list store recipes query file
  -- each line has the file's earliest choice
  pub earliest : scanned_code scan ≡ 0 → code_of found ≡ 0 → (i : ℕ) (none : Line) → i < value_of found
      → EarliestLine list store recipes query (get_or (read_lines (length query) (value_of found) out') i none)
  -- the lines rise by file, so that no file has two
  pub ordered : scanned_code scan ≡ 0 → code_of found ≡ 0
      → rising (map (λ (l : Line). l.file) (read_lines (length query) (value_of found) out')) ≡ true
  -- the number reported is that of the lines, which are the direct search's
  pub count : scanned_code scan ≡ 0 → code_of found ≡ 0 → value_of found ≡ length (search_lines list store recipes query)
  pub lines : scanned_code scan ≡ 0 → code_of found ≡ 0 → read_lines (length query) (value_of found) out' ≡ search_lines list store recipes query

pub record Queries : Type 0 where
  pub calls : (list store recipes query buffer out : List ℕ) (scan : Scanned) (found : Outcome) (buffer' index out' : List ℕ)
      → QueryCalls list store recipes query buffer out scan found buffer' index out' → QueryClaim list store recipes query buffer out scan found out'
