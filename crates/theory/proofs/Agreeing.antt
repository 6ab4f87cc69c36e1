-- Two accepted stores in which some fingerprints, those that pass a test P, are the same ones with the same bytes: tests 15 to 17, the direct search and
-- every join of recipes that name only such fingerprints go the same way in both. Requests #101, #106 and #107 are cases of it. Assumes nothing.
use mathlib.Core.Path.{◌≡◌, refl, sym, ap, ◌∙◌}
use mathlib.Core.Logic.{◌≢◌, ⊎_elim}
use mathlib.Core.Bool.{Bool, true, false, not}
use mathlib.Core.List.{List, [], ◌∷◌, map}
use Prim.Native.Nat.{ℕ, zero, suc, ◌*◌, ◌<◌}
use native.Mathlib.Omega.{arith}
use borrow.Author.Tests.{lt-ltb}
use lib.Dec.{ltb}
use lib.ListN.{length, get_or}
use Rattle.spec.specs.Bytes.{written, contains, position_of, every, joined}
use Rattle.spec.specs.Outcome.{first_number, first_code, whole, code_of, value_of}
use Rattle.spec.specs.Keywords.{flag_of, folded, keywords_of, folded_keywords}
use Rattle.spec.specs.Directory.{size_at}
use Rattle.spec.specs.Store.{store_layout, chunk_count, store_keys}
use Rattle.spec.specs.Form.{Form, newest, form_of}
use Rattle.spec.specs.Recipes.{file_code, files_code, files_of, recipes_code}
use Rattle.spec.specs.Join.{Occurrence, Clients, clients_code, tally_with, join_list, list_bytes, inner_least, join_code, join_outcome, join_buffer, join_tally}
use Rattle.spec.specs.Join.{read_list}
use Rattle.spec.specs.Query.{Line, line_size, lines_bytes, is_query, query_outcome, query_buffer}
use Rattle.spec.specs.Scan.{scan_code}
use Rattle.spec.specs.Search.{chunk_named, restored, direct_search, occurrences_in_all, search_join_code}
use Rattle.spec.proofs.Tests.{bool_cases, and_left, and_right}
use Rattle.spec.proofs.Codes.{passed-whole, buffer-refused}
use Rattle.spec.proofs.Tabulated.{map-match}
use Rattle.spec.proofs.FileLaws.{every-at, file-accepted, files-cons}
use Rattle.spec.proofs.StoreLaws.{StoreGood, length-store_keys, chunk-length}
use Rattle.theory.specs.Demand3.{scanned}
use Rattle.theory.specs.Queries.{lines_in, search_lines, search_query_code}
use Rattle.theory.specs.SameChunks.{JoinsAlike, QueriesAlike}
use Rattle.theory.proofs.ScanThenJoin.{position_in, answer-same, buffer-same}
use Rattle.theory.proofs.QuerySearch.{query-outcome, query-buffer}
use Rattle.theory.proofs.Demand3.{code-of-answer, join-outcome, join-buffer, join-tally, scanned-is, join-of-scan}

-- A store has the fingerprint; the entry that does.
abbrev pub knows : List ℕ → List ℕ → Bool
knows store key = contains key (store_keys store)

abbrev pub place_of : List ℕ → List ℕ → ℕ
place_of store key = position_of key (store_keys store)

pub place_in : (store key : List ℕ) → knows store key ≡ true → place_of store key < chunk_count store
place_in store key c = omega (arith, position_in (store_keys store) key c, length-store_keys store)

-- Tests 15 to 17 of a file and of all files, said of a store; an inner chunk must have m bytes.
abbrev file_test : List ℕ → ℕ → List (List ℕ) → ℕ
file_test store m file = file_code (store_keys store) (size_at store_layout store) m file

abbrev files_test : List ℕ → ℕ → List (List (List ℕ)) → ℕ
files_test store m files = files_code (store_keys store) (size_at store_layout store) m files

-- tests behind one that decides them
last-tests : (r c d n : ℕ) (p q : Bool) (k l : ℕ) → c ≡ d → (c ≡ 0 → p ≡ q) → (c ≡ 0 → k ≡ l)
    → first_number (whole r ∷ whole c ∷ (p, n) ∷ whole k ∷ []) ≡ first_number (whole r ∷ whole d ∷ (q, n) ∷ whole l ∷ [])
last-tests r zero d n p q k l e h i = rw (← e, h refl, i refl)
last-tests r (suc c) d n p q k l e h i = rw (← e, lt-ltb 0 (suc c) (omega arith))

last-two : (r c d m n : ℕ) (o p q : Bool) → c ≡ d → (c ≡ 0 → p ≡ q)
    → first_number (whole r ∷ whole c ∷ (o, m) ∷ (p, n) ∷ []) ≡ first_number (whole r ∷ whole d ∷ (o, m) ∷ (q, n) ∷ [])
last-two r zero d m n o p q e h = rw (← e, h refl)
last-two r (suc c) d m n o p q e h = rw (← e, lt-ltb 0 (suc c) (omega arith))

-- a join that is refused leaves its buffer
pub join_kept : (index recipes : List ℕ) (clients : Clients) (out : List ℕ) → code_of (join_outcome (form_of index) index recipes clients (length out)) ≢ 0
    → join_buffer (form_of index) index recipes clients out ≡ out
unfolding join_outcome join_buffer
join_kept index recipes clients out d =
    let code : ℕ = join_code (form_of index) index recipes clients (length out) in
    let found = join_list (form_of index) index recipes in
    sym (buffer-refused code (written out (list_bytes found)) out (λ z. d (code-of-answer code (length found) ∙ z)))

pub every_true {ℓ} : {A : Type ℓ} (test : A → Bool) (l : List A) → ((x : A) → test x ≡ true) → every test l ≡ true
every_true test [] h = refl
every_true test (x ∷ l) h = rw (h x, every_true test l h)

-- ---- two stores that agree

pub record Agree (store other : List ℕ) (P : List ℕ → Bool) : Type 0 where
  pub stored : StoreGood store
  pub stored_other : StoreGood other
  pub known : (key : List ℕ) → P key ≡ true → knows store key ≡ knows other key
  pub named : (key : List ℕ) → P key ≡ true → knows store key ≡ true → chunk_named store key ≡ chunk_named other key

module _ (store other : List ℕ) (P : List ℕ → Bool) (a : Agree store other P) where
  -- ---- tests 15, 16 and 17

  same_known : (file : List (List ℕ)) → every P file ≡ true → every (knows store) file ≡ every (knows other) file
  same_known [] p = refl
  same_known (key ∷ file) p = rw (a.known key (and_left (P key) (every P file) p), same_known file (and_right (P key) (every P file) p))

  same_size : (key : List ℕ) → P key ≡ true → knows store key ≡ true
      → size_at store_layout store (place_of store key) ≡ size_at store_layout other (place_of other key)
  same_size key p c =
      sym (chunk-length store a.stored (place_of store key) (place_in store key c))
      ∙ ap length (a.named key p c)
      ∙ chunk-length other a.stored_other (place_of other key) (place_in other key (sym (a.known key p) ∙ c))

  -- what is the same for every such fingerprint that is known
  map-named : {B : Type 0} (f g : List ℕ → B) (file : List (List ℕ)) → every P file ≡ true → every (knows store) file ≡ true
      → ((key : List ℕ) → P key ≡ true → knows store key ≡ true → f key ≡ g key) → map f file ≡ map g file
  map-named f g file p e h = map-match f g [] file (λ k u. h (get_or file k []) (every-at P file k [] p u) (every-at (knows store) file k [] e u))

  module _ (m : ℕ) where
    same-file : (file : List (List ℕ)) → every P file ≡ true → file_test store m file ≡ file_test other m file
    unfolding file_code
    same-file file p =
        ⊎_elim (λ e. rw (map-named _ _ file p e same_size, same_known file p))
        (λ e. let o : every (knows other) file ≡ false = sym (same_known file p) ∙ e in rw (e, o))
        (bool_cases (every (knows store) file))

    same-each : (files : List (List (List ℕ))) → every (every P) files ≡ true → map (file_test store m) files ≡ map (file_test other m) files
    same-each [] p = refl
    same-each (file ∷ files) p =
        rw (same-file file (and_left (every P file) (every (every P) files) p), same-each files (and_right (every P file) (every (every P) files) p))

    same-files : (files : List (List (List ℕ))) → every (every P) files ≡ true → files_test store m files ≡ files_test other m files
    unfolding files_code
    same-files files p = ap first_code (same-each files p)

    -- ---- restored files

    same_text : (file : List (List ℕ)) → every P file ≡ true → every (knows store) file ≡ true → restored store file ≡ restored other file
    unfolding restored
    same_text file p e = ap joined (map-named (chunk_named store) (chunk_named other) file p e a.named)

    same-texts : (flag : ℕ) (files : List (List (List ℕ))) → every (every P) files ≡ true → files_test store m files ≡ 0
        → map (λ file. folded flag (restored store file)) files ≡ map (λ file. folded flag (restored other file)) files
    same-texts flag [] p e = refl
    same-texts flag (file ∷ files) p e =
        let q = files-cons (store_keys store) (size_at store_layout store) m file files e in
        let g = file-accepted (store_keys store) (size_at store_layout store) m file q.0 in
        rw (
          same_text file (and_left (every P file) (every (every P) files) p) g.known,
          same-texts flag files (and_right (every P file) (every (every P) files) p) q.1,
        )

    -- where every file is accepted, the direct search is the same
    same-search : (list recipes : List ℕ) → every (every P) (files_of recipes) ≡ true → files_test store m (files_of recipes) ≡ 0
        → direct_search list store recipes ≡ direct_search list other recipes
    unfolding direct_search
    same-search list recipes p e = ap (occurrences_in_all 0 (folded_keywords list)) (same-texts (flag_of list) (files_of recipes) p e)

    -- and so are the lines of a query
    same_lines : (list recipes query : List ℕ) → every (every P) (files_of recipes) ≡ true → files_test store m (files_of recipes) ≡ 0
        → search_lines list store recipes query ≡ search_lines list other recipes query
    unfolding search_lines
    same_lines list recipes query p e =
        ap (lines_in (map length (keywords_of list)) query 0 (folded_keywords list)) (same-texts (flag_of list) (files_of recipes) p e)

  -- ---- a query's part

  module _ (list recipes query : List ℕ) (room : ℕ) (p : every (every P) (files_of recipes) ≡ true) where
    same-query-code : search_query_code list store recipes query room ≡ search_query_code list other recipes query room
    unfolding search_query_code
    same-query-code =
        last-two (recipes_code recipes) (files_test store 0 (files_of recipes)) (files_test other 0 (files_of recipes)) 21 18
        (not (is_query (length (keywords_of list)) query)) _ _
        (same-files 0 (files_of recipes) p)
        (λ z. ap (λ (l : List Line). ltb room (line_size query * length l)) (same_lines 0 list recipes query p z))

    same-query-lines : search_query_code list store recipes query room ≡ 0 → search_lines list store recipes query ≡ search_lines list other recipes query
    unfolding search_query_code
    same-query-lines e =
        let c = passed-whole (recipes_code recipes) _ e in
        same_lines 0 list recipes query p (passed-whole (files_test store 0 (files_of recipes)) _ c.1).0

  -- ---- the join's part of a search

  module _ (f : Form) (list recipes : List ℕ) (clients : Clients) (room : ℕ) (p : every (every P) (files_of recipes) ≡ true) where
    pub same-join-code : search_join_code f list store recipes clients room ≡ search_join_code f list other recipes clients room
    unfolding search_join_code
    same-join-code =
        last-tests (recipes_code recipes)
        (files_test store (inner_least f list) (files_of recipes)) (files_test other (inner_least f list) (files_of recipes)) 18 _ _ _ _
        (same-files (inner_least f list) (files_of recipes) p)
        (λ z. ap (λ (l : List Occurrence). ltb room (9 * length l)) (same-search (inner_least f list) list recipes p z))
        (λ z. ap (clients_code (length (keywords_of list)) clients) (same-search (inner_least f list) list recipes p z))

    -- where its number is 0 the lists are the same
    pub same-list : search_join_code f list store recipes clients room ≡ 0 → direct_search list store recipes ≡ direct_search list other recipes
    unfolding search_join_code
    same-list e =
        let c = passed-whole (recipes_code recipes) _ e in
        same-search (inner_least f list) list recipes p (passed-whole (files_test store (inner_least f list) (files_of recipes)) _ c.1).0

  -- ---- joins, of two indexes that scans wrote in full

  module _ (list buffer buffer₂ : List ℕ) (e : scan_code newest list store (length buffer) ≡ 0) (e₂ : scan_code newest list other (length buffer₂) ≡ 0)
      (recipes : List ℕ) (p : every (every P) (files_of recipes) ≡ true) where
    abbrev index : List ℕ
    index = scanned list store buffer

    abbrev other_index : List ℕ
    other_index = scanned list other buffer₂

    pub agreed-outcome : (clients : Clients) (room : ℕ)
        → join_outcome (form_of index) index recipes clients room ≡ join_outcome (form_of other_index) other_index recipes clients room
    agreed-outcome clients room =
        join-outcome list store (length buffer) e index recipes clients room (scanned-is list store buffer e)
        ∙ answer-same _ _ _ _ (same-join-code newest list recipes clients room p)
        (λ z. ap length (same-list newest list recipes clients room p (same-join-code newest list recipes clients room p ∙ z)))
        ∙ sym (join-outcome list other (length buffer₂) e₂ other_index recipes clients room (scanned-is list other buffer₂ e₂))

    pub agreed-buffer : (clients : Clients) (out : List ℕ)
        → join_buffer (form_of index) index recipes clients out ≡ join_buffer (form_of other_index) other_index recipes clients out
    agreed-buffer clients out =
        join-buffer list store (length buffer) e index recipes clients out (scanned-is list store buffer e)
        ∙ buffer-same _ _ _ _ out (same-join-code newest list recipes clients (length out) p)
        (λ z. ap (λ (l : List Occurrence). written out (list_bytes l))
        (same-list newest list recipes clients (length out) p (same-join-code newest list recipes clients (length out) p ∙ z)))
        ∙ sym (join-buffer list other (length buffer₂) e₂ other_index recipes clients out (scanned-is list other buffer₂ e₂))

    pub agreed-tally : (clients : Clients) (room : ℕ)
        → join_tally (form_of index) index recipes clients room ≡ join_tally (form_of other_index) other_index recipes clients room
    agreed-tally clients room =
        join-tally list store (length buffer) e index recipes clients room (scanned-is list store buffer e)
        ∙ buffer-same _ _ _ _ clients.tally (same-join-code newest list recipes clients room p)
        (λ z. ap (tally_with clients) (same-list newest list recipes clients room p (same-join-code newest list recipes clients room p ∙ z)))
        ∙ sym (join-tally list other (length buffer₂) e₂ other_index recipes clients room (scanned-is list other buffer₂ e₂))

    pub agreed-list : (clients : Clients) (out out₂ : List ℕ) → length out ≡ length out₂
        → code_of (join_outcome (form_of index) index recipes clients (length out)) ≡ 0
        → read_list (value_of (join_outcome (form_of index) index recipes clients (length out))) (join_buffer (form_of index) index recipes clients out)
        ≡ read_list (value_of (join_outcome (form_of other_index) other_index recipes clients (length out₂)))
        (join_buffer (form_of other_index) other_index recipes clients out₂)
    agreed-list clients out out₂ l z =
        let s = join-of-scan list store (length buffer) e recipes clients index out (scanned-is list store buffer e) in
        let t = join-of-scan list other (length buffer₂) e₂ recipes clients other_index out₂ (scanned-is list other buffer₂ e₂) in
        let o : join_outcome (form_of index) index recipes clients (length out) ≡ join_outcome (form_of other_index) other_index recipes clients (length out₂) =
        agreed-outcome clients (length out) ∙ ap (join_outcome (form_of other_index) other_index recipes clients) l in
        s.listed z ∙ same-search 0 list recipes p (s.done.0 z).1 ∙ sym (t.listed (ap code_of (sym o) ∙ z))

    -- queries of these indexes
    agreed-query : (query : List ℕ) (room : ℕ)
        → query_outcome (form_of index) index recipes query room ≡ query_outcome (form_of other_index) other_index recipes query room
    agreed-query query room =
        query-outcome list store (length buffer) e index (scanned-is list store buffer e) recipes query room
        ∙ answer-same _ _ _ _ (same-query-code list recipes query room p)
        (λ z. ap length (same-query-lines list recipes query room p (same-query-code list recipes query room p ∙ z)))
        ∙ sym (query-outcome list other (length buffer₂) e₂ other_index (scanned-is list other buffer₂ e₂) recipes query room)

    agreed-query-buffer : (query out : List ℕ)
        → query_buffer (form_of index) index recipes query out ≡ query_buffer (form_of other_index) other_index recipes query out
    agreed-query-buffer query out =
        query-buffer list store (length buffer) e index (scanned-is list store buffer e) recipes query out
        ∙ buffer-same _ _ _ _ out (same-query-code list recipes query (length out) p)
        (λ z. ap (λ (l : List Line). written out (lines_bytes l))
        (same-query-lines list recipes query (length out) p (same-query-code list recipes query (length out) p ∙ z)))
        ∙ sym (query-buffer list other (length buffer₂) e₂ other_index (scanned-is list other buffer₂ e₂) recipes query out)

    pub agreed-queries : QueriesAlike index other_index recipes
    agreed-queries = record { outcome = agreed-query; bytes = agreed-query-buffer }

    -- all of a join, into list buffers of equal length
    pub agreed-joins : (clients : Clients) (out out₂ : List ℕ) → length out ≡ length out₂
        → JoinsAlike out out₂
        (join_outcome (form_of index) index recipes clients (length out)) (join_outcome (form_of other_index) other_index recipes clients (length out₂))
        (join_buffer (form_of index) index recipes clients out) (join_buffer (form_of other_index) other_index recipes clients out₂)
        (join_tally (form_of index) index recipes clients (length out)) (join_tally (form_of other_index) other_index recipes clients (length out₂))
    agreed-joins clients out out₂ l =
        let o : join_outcome (form_of index) index recipes clients (length out) ≡ join_outcome (form_of other_index) other_index recipes clients (length out₂) =
        agreed-outcome clients (length out) ∙ ap (join_outcome (form_of other_index) other_index recipes clients) l in
        record {
          answers = o;
          listed = agreed-list clients out out₂ l;
          kept = λ d. (join_kept index recipes clients out d, join_kept other_index recipes clients out₂ (λ z. d (ap code_of o ∙ z)));
          tallies = agreed-tally clients (length out) ∙ ap (join_tally (form_of other_index) other_index recipes clients) l;
          bytes = λ q. agreed-buffer clients out ∙ ap (join_buffer (form_of other_index) other_index recipes clients) q;
        }
