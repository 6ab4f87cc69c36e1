-- Request #109, of accepted inputs: a file's line has its earliest choice (`query-earliest`); the lines of a scan's index are those of a direct search
-- of the restored files (`query-is-search`, from theorem 1), and so are its number, its answer and its buffer. Assumes nothing.
use mathlib.Core.Path.{◌≡◌, refl, sym, ap, ap₂, ◌∙◌}
use mathlib.Core.Bool.{Bool, true, false, ◌&&◌, not}
use mathlib.Core.List.{List, [], ◌∷◌, ◌++◌, map}
use Prim.Native.Nat.{ℕ, zero, suc, ◌*◌, ◌<◌}
use native.Mathlib.Omega.{arith}
use lib.ListN.{length, get_or, length-map, get_or-map}
use lib.Dec.{leb, ltb}
use borrow.Author.Tests.{ltb-true, lt-ltb, not-false}
use Rattle.spec.specs.Bytes.{written, every, joined}
use Rattle.spec.specs.Outcome.{first_number, whole, answer, unless_refused}
use Rattle.spec.specs.Keywords.{flag_of, folded, keywords_of, folded_keywords, keyword_code}
use Rattle.spec.specs.Form.{Form, newest, form_of}
use Rattle.spec.specs.Index.{list_in, lengths_in, index_code}
use Rattle.spec.specs.Recipes.{inner_long, files_of, recipes_code}
use Rattle.spec.specs.Join.{keyword_at, join_file, file_records, inner_least, joinable_code}
use Rattle.spec.specs.Query.{lasting, EarliestChoice, Line, line_of, lines_from, query_lines, line_size, lines_bytes}
use Rattle.spec.specs.Query.{is_query, queryable_code, query_code, query_outcome, query_buffer}
use Rattle.spec.specs.Scan.{scan_records, scan_index, scan_code}
use Rattle.spec.proofs.Tests.{and_left, and_right}
use Rattle.spec.proofs.Codes.{passed, passed-whole}
use Rattle.spec.proofs.JoinIsSearch.{none_empty, nonempty-at, one-file, inner_least-covers}
use Rattle.spec.proofs.KeywordLaws.{Accepted, accepted}
use Rattle.spec.proofs.IndexChecks.{index-good}
use Rattle.spec.proofs.Choices.{file-earliest}
use Rattle.spec.proofs.ScanLaws.{ScanReads, scan-form}
use Rattle.theory.specs.Queries.{QueryLines, lines_in, search_lines, search_query_code}
use Rattle.theory.proofs.ScanThenJoin.{none-empty, accepted-none-empty, answer-same, buffer-same}
use Rattle.theory.proofs.ScanThenJoin.{store_files_code, chunks_named, all-records, all-roomy, texts, index-files}
use Rattle.theory.proofs.Demand3.{scan-is-read, accepts}
use Rattle.theory.proofs.QueryLines.{lines-of-records}

-- ---- the keywords of a query are not empty

pub numbers-last : (keywords : List (List ℕ)) → none_empty keywords ≡ true → (query : List ℕ) → every (λ k. ltb k (length keywords)) query ≡ true
    → lasting (map length keywords) query ≡ true
numbers-last keywords ok [] e = refl
numbers-last keywords ok (k ∷ query) e =
    let l : k < length keywords = ltb-true k (length keywords) (and_left (ltb k (length keywords)) (every (λ j. ltb j (length keywords)) query) e) in
    rw (
      get_or-map length keywords k [],
      lt-ltb 0 (length (keyword_at keywords k)) (nonempty-at keywords k ok l),
      numbers-last keywords ok query (and_right (ltb k (length keywords)) (every (λ j. ltb j (length keywords)) query) e),
    )

-- the numbers of a query
pub query-numbers : (count : ℕ) (query : List ℕ) → is_query count query ≡ true → every (λ k. ltb k count) query ≡ true
unfolding is_query
query-numbers count query e = and_right (leb 2 (length query) && leb (length query) 8) (every (λ k. ltb k count) query) e

module _ (f : Form) (index : List ℕ) (good : index_code f index ≡ 0) where
  index-keywords : none_empty (keywords_of (list_in index)) ≡ true
  index-keywords =
      let a : Accepted (list_in index) = accepted (list_in index) (index-good f index good).list in
      none-empty (keywords_of (list_in index)) (λ k l. (a.proper k (omega (arith, a.count))).0)

  query-lasts : (query : List ℕ) → is_query (length (lengths_in index)) query ≡ true → lasting (lengths_in index) query ≡ true
  unfolding lengths_in
  query-lasts query e =
      numbers-last (keywords_of (list_in index)) index-keywords query
      (ap (λ (n : ℕ). every (λ k. ltb k n) query) (sym (length-map (keywords_of (list_in index)) length)) ∙ query-numbers (length (lengths_in index)) query e)

-- an accepted query of an accepted index and recipes, whatever wrote them: the line of each file has its earliest choice
pub query-earliest : (f : Form) (index recipes query : List ℕ) → joinable_code f index recipes ≡ 0 → is_query (length (lengths_in index)) query ≡ true
    → (file : ℕ)
    → EarliestChoice (lengths_in index) query (join_file file (folded_keywords (list_in index)) (file_records f index (get_or (files_of recipes) file [])))
unfolding joinable_code
query-earliest f index recipes query e q file =
    file-earliest (lengths_in index) query file (folded_keywords (list_in index)) (file_records f index (get_or (files_of recipes) file []))
    (query-lasts f index (passed-whole (index_code f index) _ e).0 query q)

-- and its lines are those of the files that have a choice
pub query-lines : (f : Form) (index recipes query : List ℕ) → queryable_code f index recipes query ≡ 0 → QueryLines f index recipes query
unfolding queryable_code joinable_code query_lines
query-lines f index recipes query e =
    let a = passed-whole (joinable_code f index recipes) _ e in
    let b = passed (not (is_query (length (lengths_in index)) query)) 21 _ (omega arith) a.1 in
    lines-of-records (lengths_in index) query (folded_keywords (list_in index)) []
    (query-lasts f index (passed-whole (index_code f index) _ a.0).0 query (not-false (is_query (length (lengths_in index)) query) b.0))
    (files_of recipes) (file_records f index)

-- ---- the lines of a scan's index

module _ (lengths query : List ℕ) (f : Form) (list : List ℕ) (ok : none_empty (keywords_of list) ≡ true) where
  lines-joined : (file : ℕ) (files : List (List (List ℕ))) → every (λ cs. inner_long (inner_least f list) (map length cs)) files ≡ true
      → lines_from lengths query file (folded_keywords list) (map (map (scan_records f list)) files)
      ≡ lines_in lengths query file (folded_keywords list) (map (λ cs. folded (flag_of list) (joined cs)) files)
  unfolding lines_from lines_in folded_keywords scan_records
  lines-joined file [] e = refl
  lines-joined file (cs ∷ rest) e =
      let here : Bool = inner_long (inner_least f list) (map length cs) in
      let more : Bool = every (λ ds. inner_long (inner_least f list) (map length ds)) rest in
      ap₂ {C = List Line} (λ x y. line_of lengths query file x ++ y)
      (one-file (flag_of list) f (keywords_of list) (inner_least f list) ok (inner_least-covers f list) file cs (and_left here more e))
      (lines-joined (suc file) rest (and_right here more e))

chain : (r c m n : ℕ) (q p d : Bool) → 0 < m → (r ≡ 0 → c ≡ 0 → p ≡ d)
    → first_number (whole (first_number (whole (first_number (whole 0 ∷ whole r ∷ whole c ∷ [])) ∷ (q, m) ∷ [])) ∷ (p, n) ∷ [])
    ≡ first_number (whole r ∷ whole c ∷ (q, m) ∷ (d, n) ∷ [])
chain zero zero m n true p d l h = rw (lt-ltb 0 m l)
chain zero zero m n false p d l h = rw (h refl refl)
chain zero (suc c) m n q p d l h = rw (lt-ltb 0 (suc c) (omega arith), lt-ltb 0 (suc c) (omega arith), lt-ltb 0 (suc c) (omega arith))
chain (suc r) c m n q p d l h = rw (lt-ltb 0 (suc r) (omega arith), lt-ltb 0 (suc r) (omega arith), lt-ltb 0 (suc r) (omega arith))

module _ (f : Form) (list store index : List ℕ) (accept : keyword_code list ≡ 0) (reads : ScanReads f list store index) where
  -- where the files are accepted, the lines are those of the restored files
  pub query-is-search : (recipes query : List ℕ) → store_files_code f list store index accept reads (files_of recipes) ≡ 0
      → query_lines f index recipes query ≡ search_lines list store recipes query
  unfolding query_lines search_lines lengths_in
  query-is-search recipes query e =
      rw (reads.listed.folded, reads.listed.keywords, all-records f list store index accept reads (files_of recipes) e)
      (lines-joined (map length (keywords_of list)) query f list (accepted-none-empty list accept) 0
      (map (chunks_named f list store index accept reads) (files_of recipes)) (all-roomy f list store index accept reads (files_of recipes) e)
      ∙ ap (lines_in (map length (keywords_of list)) query 0 (folded_keywords list)) (texts f list store index accept reads (files_of recipes)))

  keyword-count : length (lengths_in index) ≡ length (keywords_of list)
  unfolding lengths_in
  keyword-count = length-map (keywords_of (list_in index)) length ∙ ap length reads.listed.keywords

module _ (list store : List ℕ) (accept : keyword_code list ≡ 0) (index : List ℕ) (reads : ScanReads newest list store index) where
  -- the number, said of the store
  pub query-codes-agree : (recipes query : List ℕ) (room : ℕ) → query_code newest index recipes query room ≡ search_query_code list store recipes query room
  unfolding query_code queryable_code joinable_code search_query_code inner_least
  query-codes-agree recipes query room =
      rw (reads.passes, index-files newest list store index accept reads (files_of recipes), keyword-count newest list store index accept reads)
      (chain (recipes_code recipes) (store_files_code newest list store index accept reads (files_of recipes)) 21 18
      (not (is_query (length (keywords_of list)) query)) _ _ (omega arith)
      (λ _ e. ap (λ (l : List Line). ltb room (line_size query * length l)) (query-is-search newest list store index accept reads recipes query e)))

  -- where it is 0 the lines are the same
  pub query-lines-same : (recipes query : List ℕ) (room : ℕ) → search_query_code list store recipes query room ≡ 0
      → query_lines newest index recipes query ≡ search_lines list store recipes query
  unfolding search_query_code inner_least
  query-lines-same recipes query room e =
      let a = passed-whole (recipes_code recipes) _ e in
      query-is-search newest list store index accept reads recipes query
      (passed-whole (store_files_code newest list store index accept reads (files_of recipes)) _ a.1).0

  pub query-outcome-of : (recipes query : List ℕ) (room : ℕ)
      → query_outcome newest index recipes query room ≡ answer (search_query_code list store recipes query room) (length (search_lines list store recipes query))
  unfolding query_outcome
  query-outcome-of recipes query room =
      answer-same (query_code newest index recipes query room) (search_query_code list store recipes query room)
      (length (query_lines newest index recipes query)) (length (search_lines list store recipes query))
      (query-codes-agree recipes query room) (λ e. ap length (query-lines-same recipes query room e))

  pub query-buffer-of : (recipes query out : List ℕ)
      → query_buffer newest index recipes query out
      ≡ unless_refused (search_query_code list store recipes query (length out)) (written out (lines_bytes (search_lines list store recipes query))) out
  unfolding query_buffer
  query-buffer-of recipes query out =
      buffer-same (query_code newest index recipes query (length out)) (search_query_code list store recipes query (length out))
      (written out (lines_bytes (query_lines newest index recipes query))) (written out (lines_bytes (search_lines list store recipes query))) out
      (query-codes-agree recipes query (length out))
      (λ e. ap (λ (l : List Line). written out (lines_bytes l)) (query-lines-same recipes query (length out) e))

-- the same of an index that a scan wrote, read by its mark
module _ (list store : List ℕ) (room : ℕ) (e : scan_code newest list store room ≡ 0) (index : List ℕ) (p : index ≡ scan_index newest list store) where
  pub query-outcome : (recipes query : List ℕ) (room₂ : ℕ)
      → query_outcome (form_of index) index recipes query room₂
      ≡ answer (search_query_code list store recipes query room₂) (length (search_lines list store recipes query))
  query-outcome recipes query room₂ =
      rw (p, scan-form list store)
      (query-outcome-of list store (accepts list store room e) (scan_index newest list store) (scan-is-read list store room e) recipes query room₂)

  pub query-buffer : (recipes query out : List ℕ)
      → query_buffer (form_of index) index recipes query out
      ≡ unless_refused (search_query_code list store recipes query (length out)) (written out (lines_bytes (search_lines list store recipes query))) out
  query-buffer recipes query out =
      rw (p, scan-form list store)
      (query-buffer-of list store (accepts list store room e) (scan_index newest list store) (scan-is-read list store room e) recipes query out)
