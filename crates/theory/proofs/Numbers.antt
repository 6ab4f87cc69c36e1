-- Every check and operation answers 0 or one of the numbers that document 01 gives it (demand 1). A chain of tests answers one of its tests'
-- numbers, so each law goes along the tests of its definition. Assumes nothing.
use mathlib.Core.Path.{◌≡◌, refl, sym, ap, ◌∙◌}
use mathlib.Core.Logic.{◌⊎◌, inl, inr}
use mathlib.Core.Bool.{Bool, true, false, ◌||◌, not, cond, false≢true}
use mathlib.Core.List.{List, [], ◌∷◌}
use Prim.Native.Nat.{ℕ, zero, suc, ◌+◌, ◌*◌}
use lib.Dec.{eqb, ltb}
use lib.ListN.{length, take, drop}
use borrow.Author.Tests.{eqb-true}
use Rattle.spec.specs.Bytes.{largest32, same, contains, twice, member, every, sum}
use Rattle.spec.specs.Keywords.{count_of, list_size, keywords_of, folded_keywords, read_code, header_wrong, keyword_code, keyword_front_code}
use Rattle.spec.specs.Directory.{Layout, directory_end, size_at, offset_at, length_at, entries_code}
use Rattle.spec.specs.Store.{store_mark, store_layout, chunk_count, most_chunks, store_keys, store_code, chunk_end, chunks_code}
use Rattle.spec.specs.Form.{Form, newest, form_of}
use Rattle.spec.specs.Index.{list_in, lengths_in, index_layout, index_keys, all_good, header_code, directory_code, laid_code, index_code}
use Rattle.spec.specs.Recipes.{most_files, file_count, files_whole, inner_long, sizes_in, files_of, recipes_code, file_code, files_code}
use Rattle.spec.specs.Join.{Occurrence, Clients, is_key, fit64, tally_with, clients_code, join_list, inner_least, joinable_code, join_code}
use Rattle.spec.specs.Query.{query_lines, line_size, is_query, queryable_code, query_code}
use Rattle.spec.specs.Lookup.{lookup_code, find_chunk, find_body}
use Rattle.spec.specs.Scan.{scan_index, scannable_code, scan_code}
use Rattle.spec.specs.Search.{direct_search, search_join_code, search_code}
use Rattle.spec.specs.Compact.{named_in, compacted, compactable_code, compact_code}
use Rattle.spec.proofs.Tests.{bool_cases, and_left, and_right}
use Rattle.spec.proofs.JoinIsSearch.{sets-inner-long}
use Rattle.theory.specs.Demands.{Numbers}

-- ---- chains of tests

test_in : (numbers : List ℕ) (b : Bool) (code rest : ℕ) → member code numbers ≡ true → member rest numbers ≡ true → member (cond b code rest) numbers ≡ true
test_in numbers true code rest p q = p
test_in numbers false code rest p q = q

whole_in : (numbers : List ℕ) (code rest : ℕ) → member code numbers ≡ true → member rest numbers ≡ true
    → member (cond (ltb 0 code) code rest) numbers ≡ true
whole_in numbers code rest p q = test_in numbers (ltb 0 code) code rest p q

-- a number of some numbers that are all among others
wider : (x : ℕ) (some others : List ℕ) → every (λ y. member y others) some ≡ true → member x some ≡ true → member x others ≡ true
wider x [] others e m = absurd (false≢true m)
wider x (y ∷ some) others e m =
    go (bool_cases (eqb x y)) (λ q. wider x some others (and_right (member y others) (every (λ z. member z others) some) e) q)
  where
    go : (eqb x y ≡ true) ⊎ (eqb x y ≡ false) → (member x some ≡ true → member x others ≡ true) → member x others ≡ true
    go (inl t) ih = ap (λ (z : ℕ). member z others) (eqb-true x y t) ∙ and_left (member y others) (every (λ z. member z others) some) e
    go (inr f) ih = ih (sym (ap (λ (b : Bool). b || member x some) f) ∙ m)

-- ---- the checks

abbrev of_keywords : List ℕ
of_keywords = 0 ∷ 1 ∷ 2 ∷ 3 ∷ 4 ∷ []

read_number : (count : ℕ) (bytes : List ℕ) → member (read_code count bytes) of_keywords ≡ true
read_number zero bytes = refl
read_number (suc count) [] = refl
read_number (suc count) (n ∷ bytes) =
    test_in of_keywords (eqb n 0 || ltb 32 n) 3 _ refl
    (test_in of_keywords (ltb (length bytes) n) 1 _ refl
    (whole_in of_keywords (read_code count (drop n bytes)) 0 (read_number count (drop n bytes)) refl))

keyword-number : (list : List ℕ) → member (keyword_code list) of_keywords ≡ true
unfolding keyword_code
keyword-number list =
    test_in of_keywords (ltb (length list) 2) 1 _ refl
    (test_in of_keywords (header_wrong list) 2 _ refl
    (whole_in of_keywords (read_code (count_of list) (drop 2 list)) _ (read_number (count_of list) (drop 2 list))
    (test_in of_keywords (ltb (list_size list) (length list)) 1 _ refl (test_in of_keywords (twice (folded_keywords list)) 4 0 refl refl))))

front-number : (list : List ℕ) → member (keyword_front_code list) of_keywords ≡ true
unfolding keyword_front_code
front-number list =
    test_in of_keywords (ltb (length list) 2) 1 _ refl
    (test_in of_keywords (header_wrong list) 2 _ refl
    (whole_in of_keywords (read_code (count_of list) (drop 2 list)) _ (read_number (count_of list) (drop 2 list))
    (test_in of_keywords (twice (folded_keywords list)) 4 0 refl refl)))

module _ (numbers : List ℕ) (code : ℕ) (p : member code numbers ≡ true) (q : member 0 numbers ≡ true) (layout : Layout) (bytes : List ℕ) (most : ℕ) where
  entries-number : (n k at : ℕ) → member (entries_code layout bytes most code n k at) numbers ≡ true
  entries-number zero k at = test_in numbers (not (eqb at (length bytes))) code 0 p q
  entries-number (suc n) k at =
      test_in numbers (eqb (size_at layout bytes k) 0 || ltb most (size_at layout bytes k)) code _ p
      (test_in numbers (not (eqb (offset_at layout bytes k) at)) code _ p
      (whole_in numbers (entries_code layout bytes most code n (suc k) (at + length_at layout bytes k)) 0
      (entries-number n (suc k) (at + length_at layout bytes k)) q))

abbrev of_store : List ℕ
of_store = 0 ∷ 5 ∷ 6 ∷ 7 ∷ 8 ∷ 20 ∷ []

chunks-number : (store : List ℕ) (n k at : ℕ) → member (chunks_code store n k at) of_store ≡ true
chunks-number store zero k at = test_in of_store (ltb (length store) at) 7 0 refl refl
chunks-number store (suc n) k at =
    let size = size_at store_layout store k in
    test_in of_store (eqb size 0 || ltb newest.longest_chunk size) 7 _ refl
    (test_in of_store (ltb (offset_at store_layout store k) at) 7 _ refl
    (test_in of_store (ltb largest32 (chunk_end store k)) 20 _ refl
    (whole_in of_store (chunks_code store n (suc k) (chunk_end store k)) 0 (chunks-number store n (suc k) (chunk_end store k)) refl)))

store-number : (store : List ℕ) → member (store_code store) of_store ≡ true
unfolding store_code
store-number store =
    let c = chunk_count store in
    let end = directory_end store_layout c in
    test_in of_store (ltb (length store) 8 || not (same (take 4 store) store_mark)) 5 _ refl
    (test_in of_store (ltb most_chunks c || ltb (length store) end) 6 _ refl
    (whole_in of_store (chunks_code store c 0 end) _ (chunks-number store c 0 end)
    (test_in of_store (twice (store_keys store)) 8 0 refl refl)))

abbrev of_index : List ℕ
of_index = 0 ∷ 1 ∷ 2 ∷ 3 ∷ 4 ∷ 10 ∷ 11 ∷ 12 ∷ 13 ∷ []

laid-number : (f : Form) (index : List ℕ) → member (laid_code f index) of_index ≡ true
unfolding laid_code header_code directory_code
laid-number f index =
    let c = chunk_count index in
    let end = directory_end (index_layout index) c in
    whole_in of_index (header_code f index) _
    (test_in of_index (ltb (length index) 8 || not (same (take 4 index) f.mark) || ltb most_chunks c) 10 0 refl refl)
    (whole_in of_index (keyword_front_code (list_in index)) _ (wider (keyword_front_code (list_in index)) of_keywords of_index refl (front-number (list_in index)))
    (whole_in of_index (directory_code f index) 0
    (test_in of_index (ltb (length index) end) 11 _ refl
    (whole_in of_index (entries_code (index_layout index) index f.longest_chunk 11 c 0 end) 0
    (entries-number of_index 11 refl refl (index_layout index) index f.longest_chunk c 0 end) refl)) refl))

index_number : (f : Form) (index : List ℕ) → member (index_code f index) of_index ≡ true
unfolding index_code
index_number f index =
    whole_in of_index (laid_code f index) _ (laid-number f index)
    (test_in of_index (twice (index_keys index)) 12 _ refl (test_in of_index (not (all_good f index)) 13 0 refl refl))

-- ---- recipes and files

abbrev of_files : List ℕ
of_files = 0 ∷ 15 ∷ 16 ∷ 17 ∷ []

abbrev of_recipes : List ℕ
of_recipes = 0 ∷ 14 ∷ []

recipes-number : (recipes : List ℕ) → member (recipes_code recipes) of_recipes ≡ true
unfolding recipes_code
recipes-number recipes =
    test_in of_recipes (ltb (length recipes) 4) 14 _ refl
    (test_in of_recipes (ltb most_files (file_count recipes)) 14 _ refl
    (test_in of_recipes (not (files_whole (file_count recipes) (drop 4 recipes))) 14 0 refl refl))

abbrev of_set_files : List ℕ
of_set_files = 0 ∷ 15 ∷ 16 ∷ []

-- the numbers of a file: those of its tests; of the last one nothing is asked where it finds nothing
module _ (numbers : List ℕ) (keys : List (List ℕ)) (size_of : ℕ → ℕ) (least : ℕ) (done : member 0 numbers ≡ true) (unknown : member 15 numbers ≡ true)
    (long : member 16 numbers ≡ true) (short : (sizes : List ℕ) → member (cond (not (inner_long least sizes)) 17 0) numbers ≡ true) where
  file-number : (file : List (List ℕ)) → member (file_code keys size_of least file) numbers ≡ true
  unfolding file_code
  file-number file =
      test_in numbers (not (every (λ key. contains key keys) file)) 15 _ unknown
      (test_in numbers (ltb largest32 (sum (sizes_in keys size_of file))) 16 _ long (short (sizes_in keys size_of file)))

  files-number : (files : List (List (List ℕ))) → member (files_code keys size_of least files) numbers ≡ true
  unfolding files_code
  files-number [] = done
  files-number (file ∷ files) = whole_in numbers (file_code keys size_of least file) _ (file-number file) (files-number files)

module _ (keys : List (List ℕ)) (size_of : ℕ → ℕ) (files : List (List (List ℕ))) where
  any-files : (least : ℕ) → member (files_code keys size_of least files) of_files ≡ true
  any-files least =
      files-number of_files keys size_of least refl refl refl (λ sizes. test_in of_files (not (inner_long least sizes)) 17 0 refl refl) files

  -- a form with sets has no 17
  set-files : (f : Form) → f.sets ≡ true → (list : List ℕ) → member (files_code keys size_of (inner_least f list) files) of_set_files ≡ true
  set-files f q list =
      files-number of_set_files keys size_of (inner_least f list) refl refl refl
      (λ sizes. ap (λ (b : Bool). member (cond (not b) 17 0) of_set_files) (sets-inner-long f q list sizes)) files

-- ---- the operations

abbrev of_scan : List ℕ
of_scan = 0 ∷ 1 ∷ 2 ∷ 3 ∷ 4 ∷ 5 ∷ 6 ∷ 7 ∷ 8 ∷ 9 ∷ 20 ∷ []

scan-number : (f : Form) (list store : List ℕ) (room : ℕ) → member (scan_code f list store room) of_scan ≡ true
unfolding scan_code scannable_code
scan-number f list store room =
    let n = length (scan_index f list store) in
    whole_in of_scan (scannable_code list store) _
    (whole_in of_scan (keyword_code list) _ (wider (keyword_code list) of_keywords of_scan refl (keyword-number list))
    (whole_in of_scan (store_code store) 0 (wider (store_code store) of_store of_scan refl (store-number store)) refl))
    (test_in of_scan (ltb room n || ltb largest32 n) 9 0 refl refl)

-- the clients' key and tally: 22 and 23
abbrev of_clients : List ℕ
of_clients = 0 ∷ 22 ∷ 23 ∷ []

clients-number : (n : ℕ) (clients : Clients) (found : List Occurrence) → member (clients_code n clients found) of_clients ≡ true
unfolding clients_code
clients-number n clients found =
    test_in of_clients (not (is_key n clients.key)) 22 _ refl (test_in of_clients (not (fit64 (tally_with clients found))) 23 0 refl refl)

-- the numbers of the files' tests are among those of the whole
module _ (numbers : List ℕ) (has : every (λ x. member x numbers) (14 ∷ 18 ∷ of_index) ≡ true) where
  joinable-number : (f : Form) (index recipes : List ℕ)
      → member (files_code (index_keys index) (size_at (index_layout index) index) (inner_least f (list_in index)) (files_of recipes)) numbers ≡ true
      → member (joinable_code f index recipes) numbers ≡ true
  unfolding joinable_code
  joinable-number f index recipes files =
      whole_in numbers (index_code f index) _
      (wider (index_code f index) (14 ∷ 18 ∷ of_index) numbers has (wider (index_code f index) of_index (14 ∷ 18 ∷ of_index) refl (index_number f index)))
      (whole_in numbers (recipes_code recipes) _
      (wider (recipes_code recipes) (14 ∷ 18 ∷ of_index) numbers has (wider (recipes_code recipes) of_recipes (14 ∷ 18 ∷ of_index) refl (recipes-number recipes)))
      (whole_in numbers (files_code (index_keys index) (size_at (index_layout index) index) (inner_least f (list_in index)) (files_of recipes)) 0 files
      (wider 0 (14 ∷ 18 ∷ of_index) numbers has refl)))

  join-number : (f : Form) (index recipes : List ℕ) (clients : Clients) (room : ℕ) → every (λ x. member x numbers) of_clients ≡ true
      → member (files_code (index_keys index) (size_at (index_layout index) index) (inner_least f (list_in index)) (files_of recipes)) numbers ≡ true
      → member (join_code f index recipes clients room) numbers ≡ true
  unfolding join_code
  join-number f index recipes clients room more files =
      let last = clients_code (length (keywords_of (list_in index))) clients (join_list f index recipes) in
      whole_in numbers (joinable_code f index recipes) _ (joinable-number f index recipes files)
      (test_in numbers (ltb room (9 * length (join_list f index recipes))) 18 _ (wider 18 (14 ∷ 18 ∷ of_index) numbers has refl)
      (whole_in numbers last 0
      (wider last of_clients numbers more (clients-number (length (keywords_of (list_in index))) clients (join_list f index recipes)))
      (wider 0 (14 ∷ 18 ∷ of_index) numbers has refl)))

  -- a query has 21 too
  query-number : (f : Form) (index recipes query : List ℕ) (room : ℕ) → member 21 numbers ≡ true
      → member (files_code (index_keys index) (size_at (index_layout index) index) (inner_least f (list_in index)) (files_of recipes)) numbers ≡ true
      → member (query_code f index recipes query room) numbers ≡ true
  unfolding query_code queryable_code
  query-number f index recipes query room more files =
      let zero_in : member 0 numbers ≡ true = wider 0 (14 ∷ 18 ∷ of_index) numbers has refl in
      whole_in numbers (queryable_code f index recipes query) _
      (whole_in numbers (joinable_code f index recipes) _ (joinable-number f index recipes files)
      (test_in numbers (not (is_query (length (lengths_in index)) query)) 21 0 more zero_in))
      (test_in numbers (ltb room (line_size query * length (query_lines f index recipes query))) 18 0 (wider 18 (14 ∷ 18 ∷ of_index) numbers has refl) zero_in)

abbrev of_join : List ℕ
of_join = 0 ∷ 1 ∷ 2 ∷ 3 ∷ 4 ∷ 10 ∷ 11 ∷ 12 ∷ 13 ∷ 14 ∷ 15 ∷ 16 ∷ 17 ∷ 18 ∷ 22 ∷ 23 ∷ []

abbrev of_set_join : List ℕ
of_set_join = 0 ∷ 1 ∷ 2 ∷ 3 ∷ 4 ∷ 10 ∷ 11 ∷ 12 ∷ 13 ∷ 14 ∷ 15 ∷ 16 ∷ 18 ∷ 22 ∷ 23 ∷ []

abbrev of_query : List ℕ
of_query = 0 ∷ 1 ∷ 2 ∷ 3 ∷ 4 ∷ 10 ∷ 11 ∷ 12 ∷ 13 ∷ 14 ∷ 15 ∷ 16 ∷ 17 ∷ 18 ∷ 21 ∷ []

abbrev of_set_query : List ℕ
of_set_query = 0 ∷ 1 ∷ 2 ∷ 3 ∷ 4 ∷ 10 ∷ 11 ∷ 12 ∷ 13 ∷ 14 ∷ 15 ∷ 16 ∷ 18 ∷ 21 ∷ []

-- the files' tests of an index, among the numbers of the whole
module _ (f : Form) (index recipes numbers : List ℕ) where
  abbrev index_files : ℕ
  index_files = files_code (index_keys index) (size_at (index_layout index) index) (inner_least f (list_in index)) (files_of recipes)

  any-index-files : every (λ x. member x numbers) of_files ≡ true → member index_files numbers ≡ true
  any-index-files has =
      wider index_files of_files numbers has (any-files (index_keys index) (size_at (index_layout index) index) (files_of recipes) (inner_least f (list_in index)))

  set-index-files : every (λ x. member x numbers) of_set_files ≡ true → f.sets ≡ true → member index_files numbers ≡ true
  set-index-files has q =
      wider index_files of_set_files numbers has (set-files (index_keys index) (size_at (index_layout index) index) (files_of recipes) f q (list_in index))

any-join : (f : Form) (index recipes : List ℕ) (clients : Clients) (room : ℕ) → member (join_code f index recipes clients room) of_join ≡ true
any-join f index recipes clients room = join-number of_join refl f index recipes clients room refl (any-index-files f index recipes of_join refl)

set-join : (f : Form) (index recipes : List ℕ) (clients : Clients) (room : ℕ) → f.sets ≡ true
    → member (join_code f index recipes clients room) of_set_join ≡ true
set-join f index recipes clients room q =
    join-number of_set_join refl f index recipes clients room refl (set-index-files f index recipes of_set_join refl q)

any-query : (f : Form) (index recipes query : List ℕ) (room : ℕ) → member (query_code f index recipes query room) of_query ≡ true
any-query f index recipes query room = query-number of_query refl f index recipes query room refl (any-index-files f index recipes of_query refl)

set-query : (f : Form) (index recipes query : List ℕ) (room : ℕ) → f.sets ≡ true → member (query_code f index recipes query room) of_set_query ≡ true
set-query f index recipes query room q =
    query-number of_set_query refl f index recipes query room refl (set-index-files f index recipes of_set_query refl q)

abbrev pub of_search : List ℕ
of_search = 0 ∷ 1 ∷ 2 ∷ 3 ∷ 4 ∷ 5 ∷ 6 ∷ 7 ∷ 8 ∷ 9 ∷ 14 ∷ 15 ∷ 16 ∷ 18 ∷ 20 ∷ 22 ∷ 23 ∷ []

search-number : (f : Form) → f.sets ≡ true → (list store recipes : List ℕ) (clients : Clients) (index_room room : ℕ)
    → member (search_code f list store recipes clients index_room room) of_search ≡ true
unfolding search_code search_join_code
search-number f q list store recipes clients index_room room =
    let last = clients_code (length (keywords_of list)) clients (direct_search list store recipes) in
    let files = files_code (store_keys store) (size_at store_layout store) (inner_least f list) (files_of recipes) in
    whole_in of_search (scan_code f list store index_room) _
    (wider (scan_code f list store index_room) of_scan of_search refl (scan-number f list store index_room))
    (whole_in of_search (search_join_code f list store recipes clients room) 0
    (whole_in of_search (recipes_code recipes) _ (wider (recipes_code recipes) of_recipes of_search refl (recipes-number recipes))
    (whole_in of_search files _
    (wider files of_set_files of_search refl (set-files (store_keys store) (size_at store_layout store) (files_of recipes) f q list))
    (test_in of_search (ltb room (9 * length (direct_search list store recipes))) 18 _ refl
    (whole_in of_search last 0
    (wider last of_clients of_search refl (clients-number (length (keywords_of list)) clients (direct_search list store recipes))) refl)))) refl)

abbrev of_compact : List ℕ
of_compact = 0 ∷ 5 ∷ 6 ∷ 7 ∷ 8 ∷ 9 ∷ 14 ∷ 15 ∷ 20 ∷ []

compact-number : (store recipes : List ℕ) (room : ℕ) → member (compact_code store recipes room) of_compact ≡ true
unfolding compact_code compactable_code
compact-number store recipes room =
    whole_in of_compact (compactable_code store recipes) _
    (whole_in of_compact (store_code store) _ (wider (store_code store) of_store of_compact refl (store-number store))
    (whole_in of_compact (recipes_code recipes) _ (wider (recipes_code recipes) of_recipes of_compact refl (recipes-number recipes))
    (test_in of_compact (not (every (λ key. contains key (store_keys store)) (named_in recipes))) 15 0 refl refl)))
    (test_in of_compact (ltb room (length (compacted store recipes))) 9 0 refl refl)

-- ---- the lookups

lookup-number : (numbers : List ℕ) (code : ℕ) (keys : List (List ℕ)) (key : List ℕ) → member code numbers ≡ true → member 19 numbers ≡ true
    → member 15 numbers ≡ true → member 0 numbers ≡ true → member (lookup_code code keys key) numbers ≡ true
lookup-number numbers code keys key p q r z =
    whole_in numbers code _ p
    (test_in numbers (not (eqb (length key) 20)) 19 _ q (test_in numbers (not (contains key keys)) 15 0 r z))

abbrev of_chunk : List ℕ
of_chunk = 0 ∷ 5 ∷ 6 ∷ 7 ∷ 8 ∷ 15 ∷ 19 ∷ 20 ∷ []

chunk-number : (store key : List ℕ) → member (find_chunk store key) of_chunk ≡ true
unfolding find_chunk
chunk-number store key =
    lookup-number of_chunk (store_code store) (store_keys store) key (wider (store_code store) of_store of_chunk refl (store-number store)) refl refl refl

abbrev of_body : List ℕ
of_body = 0 ∷ 1 ∷ 2 ∷ 3 ∷ 4 ∷ 10 ∷ 11 ∷ 12 ∷ 13 ∷ 15 ∷ 19 ∷ []

body-number : (f : Form) (index key : List ℕ) → member (find_body f index key) of_body ≡ true
unfolding find_body
body-number f index key =
    lookup-number of_body (index_code f index) (index_keys index) key (wider (index_code f index) of_index of_body refl (index_number f index)) refl refl refl

pub numbers : Numbers
numbers = record {
  keywords = keyword-number;
  store = store-number;
  scan = scan-number newest;
  index = λ index. index_number (form_of index) index;
  join = λ index. any-join (form_of index) index;
  join_sets = λ index. set-join (form_of index) index;
  query = λ index. any-query (form_of index) index;
  query_sets = λ index. set-query (form_of index) index;
  searches = search-number newest refl;
  compact = compact-number;
  chunk = chunk-number;
  body = λ index. body-number (form_of index) index;
}
