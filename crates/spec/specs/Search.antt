-- The search: what a scan and a join of its index answer together, said by the restored files alone (demand 3).
use Rattle.std.specs.Prelude.{cond, List, [], ◌∷◌, ◌++◌, map, ℕ, suc, ◌*◌, length, eqb, ltb}
use Rattle.spec.specs.Searched.{Searched, ScanRefused, JoinRefused, Found}
use Rattle.spec.specs.Bytes.{written, position_of, occurs_at, each, joined}
use Rattle.spec.specs.Outcome.{first_number, whole, unless_refused, list_too_long}
use Rattle.spec.specs.Keywords.{flag_of, folded, keywords_of, folded_keywords}
use Rattle.spec.specs.Directory.{size_at}
use Rattle.spec.specs.Store.{store_layout, store_keys, chunk_at}
use Rattle.spec.specs.Form.{Form}
use Rattle.spec.specs.Recipes.{files_of, recipes_code, files_code}
use Rattle.spec.specs.Join.{Occurrence, keyword_at, occurrences_at, Clients, clients_code, tally_with, list_bytes, inner_least}
use Rattle.spec.specs.Scan.{scan_index, scan_code}

-- ---- the direct search

-- Every occurrence in one file's bytes: by rising offset, and at one offset by rising keyword.
unfoldable pub occurrences_in : ℕ → List (List ℕ) → List ℕ → List Occurrence
occurrences_in file keywords text =
    each (λ at. occurrences_at file (length keywords) (λ k. occurs_at (keyword_at keywords k) text at) at) 0 (length text)

-- The same in all files, numbered from `file` on.
unfoldable pub occurrences_in_all : ℕ → List (List ℕ) → List (List ℕ) → List Occurrence
occurrences_in_all file keywords [] = []
occurrences_in_all file keywords (text ∷ rest) = occurrences_in file keywords text ++ occurrences_in_all (suc file) keywords rest

-- ---- restored files

-- The bytes of the chunk with that fingerprint.
abbrev pub chunk_named : List ℕ → List ℕ → List ℕ
chunk_named store key = chunk_at store (position_of key (store_keys store))

-- A file's bytes are its chunks' bytes joined, in the order named.
unfoldable pub restored : List ℕ → List (List ℕ) → List ℕ
restored store file = joined (map (chunk_named store) file)

-- The direct search of the restored files, as keywords and files compare.
unfoldable pub direct_search : List ℕ → List ℕ → List ℕ → List Occurrence
direct_search list store recipes =
    occurrences_in_all 0 (folded_keywords list) (map (λ file. folded (flag_of list) (restored store file)) (files_of recipes))

-- ---- the operation

-- The join's part: 14; file by file 15, 16, 17, said of the store; 18, 22 and 23, said of the direct search.
unfoldable pub search_join_code : Form → List ℕ → List ℕ → List ℕ → Clients → ℕ → ℕ
search_join_code f list store recipes clients room =
    first_number
    (whole (recipes_code recipes)
    ∷ whole (files_code (store_keys store) (size_at store_layout store) (inner_least f list) (files_of recipes))
    ∷ (ltb room (9 * length (direct_search list store recipes)), list_too_long)
    ∷ whole (clients_code (length (keywords_of list)) clients (direct_search list store recipes))
    ∷ [])

-- The whole refusal: the scan's, for an index buffer of `index_room` bytes; where it is done, the join's.
unfoldable pub search_code : Form → List ℕ → List ℕ → List ℕ → Clients → ℕ → ℕ → ℕ
search_code f list store recipes clients index_room room =
    first_number (whole (scan_code f list store index_room) ∷ whole (search_join_code f list store recipes clients room) ∷ [])

-- The search's answer.
unfoldable pub search_outcome : Form → List ℕ → List ℕ → List ℕ → Clients → ℕ → ℕ → Searched
search_outcome f list store recipes clients index_room room =
    cond (eqb (scan_code f list store index_room) 0)
    (cond (eqb (search_join_code f list store recipes clients room) 0)
    (Found (length (scan_index f list store)) (length (direct_search list store recipes)))
    (JoinRefused (length (scan_index f list store)) (search_join_code f list store recipes clients room)))
    (ScanRefused (scan_code f list store index_room))

-- The list buffer after it, and the clients' counts; the index buffer is as the scan leaves it.
unfoldable pub search_buffer : Form → List ℕ → List ℕ → List ℕ → Clients → ℕ → List ℕ → List ℕ
search_buffer f list store recipes clients index_room out =
    unless_refused (search_code f list store recipes clients index_room (length out)) (written out (list_bytes (direct_search list store recipes))) out

unfoldable pub search_tally : Form → List ℕ → List ℕ → List ℕ → Clients → ℕ → ℕ → List ℕ
search_tally f list store recipes clients index_room room =
    unless_refused (search_code f list store recipes clients index_room room) (tally_with clients (direct_search list store recipes)) clients.tally

-- The number of an answer, 0 for work done; the count.
abbrev pub searched_code : Searched → ℕ
searched_code (ScanRefused code) = code
searched_code (JoinRefused size code) = code
searched_code (Found size count) = 0

abbrev pub searched_count : Searched → ℕ
searched_count (ScanRefused code) = 0
searched_count (JoinRefused size code) = 0
searched_count (Found size count) = count

-- Numbers that are lent to be told the length of the index that was written, and the count: as they were where there is none.
abbrev pub told_size : Searched → ℕ → ℕ
told_size (ScanRefused code) before = before
told_size (JoinRefused size code) before = size
told_size (Found size count) before = size

abbrev pub told_count : Searched → ℕ → ℕ
told_count (ScanRefused code) before = before
told_count (JoinRefused size code) before = before
told_count (Found size count) before = count
