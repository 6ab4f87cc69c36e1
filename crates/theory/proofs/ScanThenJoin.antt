-- A join of the index that a scan wrote answers what the store says: its tests 15 to 17 read the store's fingerprints and lengths, and where they
-- pass, its list is the direct search (theorem 1), and so are 18, 22, 23 and the tally. Where one refuses the lists may differ, but the number is decided
-- before. Assumes nothing.
use mathlib.Core.Path.{◌≡◌, refl, sym, ap, ◌∙◌}
use mathlib.Core.Logic.{◌⊎◌, inl, inr}
use mathlib.Core.Bool.{Bool, true, false}
use mathlib.Core.List.{List, [], ◌∷◌, map, map-map}
use Prim.Native.Nat.{ℕ, zero, suc, ◌*◌, ◌≤◌, ◌<◌}
use native.Mathlib.Omega.{arith}
use lib.ListN.{length, get_or}
use lib.Dec.{ltb}
use borrow.Author.Tests.{ltb-true, lt-ltb, le-leb, ne_eqb}
use Rattle.spec.specs.Bytes.{written, contains, position_of, every, joined}
use Rattle.spec.specs.Outcome.{first_number, first_code, whole, answer, unless_refused}
use Rattle.spec.specs.Keywords.{flag_of, folded, keywords_of, folded_keywords, keyword_code}
use Rattle.spec.specs.Directory.{size_at}
use Rattle.spec.specs.Store.{store_layout, chunk_count, store_keys}
use Rattle.spec.specs.Form.{Form}
use Rattle.spec.specs.Index.{list_in, index_layout, index_keys}
use Rattle.spec.specs.Recipes.{inner_long, sizes_in, file_code, files_code, files_of, recipes_code}
use Rattle.spec.specs.Join.{Occurrence, Clients, clients_code, tally_with, file_records, join_list, list_bytes, inner_least, joinable_code, join_code, join_outcome}
use Rattle.spec.specs.Join.{join_buffer, join_tally}
use Rattle.spec.specs.Scan.{scan_records}
use Rattle.spec.specs.Search.{chunk_named, restored, direct_search, search_join_code, occurrences_in_all}
use Rattle.spec.proofs.Tests.{bool_cases}
use Rattle.spec.proofs.Codes.{passed-whole, passed-code}
use Rattle.spec.proofs.EntryLaws.{contains-position}
use Rattle.spec.proofs.Tabulated.{map-match}
use Rattle.spec.proofs.FileLaws.{FileAccepted, file-accepted, map_same}
use Rattle.spec.proofs.KeywordLaws.{Accepted, accepted, keyword-front}
use Rattle.spec.proofs.JoinIsSearch.{none_empty, scan-join-is-search}
use Rattle.spec.proofs.ScanLaws.{ScanReads}

-- ---- lists

pub none-empty : (keywords : List (List ℕ)) → ((k : ℕ) → k < length keywords → 1 ≤ length (get_or keywords k [])) → none_empty keywords ≡ true
none-empty [] h = refl
none-empty (w ∷ ws) h = rw (le-leb 1 (length w) (h 0 (omega arith)), none-empty ws (λ k l. h (suc k) (omega arith)))

pub accepted-none-empty : (list : List ℕ) → keyword_code list ≡ 0 → none_empty (keywords_of list) ≡ true
accepted-none-empty list e =
    let a : Accepted list = accepted list (keyword-front list e) in
    none-empty (keywords_of list) (λ k l. (a.proper k (omega (arith, a.count))).0)

-- ---- answers and buffers: equal numbers, and equal work where that is done

pub answer-same : (c d v w : ℕ) → c ≡ d → (d ≡ 0 → v ≡ w) → answer c v ≡ answer d w
unfolding answer
answer-same c zero v w e h = rw (e, h refl)
answer-same c (suc d) v w e h = rw (e, ne_eqb (suc d) 0 (λ z. let y : ⊥ = omega arith in absurd y))

pub buffer-same : (c d : ℕ) (v w out : List ℕ) → c ≡ d → (d ≡ 0 → v ≡ w) → unless_refused c v out ≡ unless_refused d w out
unfolding unless_refused
buffer-same c zero v w out e h = rw (e, h refl)
buffer-same c (suc d) v w out e h = rw (e, ne_eqb (suc d) 0 (λ z. let y : ⊥ = omega arith in absurd y))

-- ---- tests 15, 16 and 17

pub position_in : (keys : List (List ℕ)) (key : List ℕ) → contains key keys ≡ true → position_of key keys < length keys
position_in keys key e = ltb-true (position_of key keys) (length keys) (sym (contains-position key keys) ∙ e)

module _ (keys : List (List ℕ)) (s t : ℕ → ℕ) (m : ℕ) (h : (k : ℕ) → k < length keys → s k ≡ t k) where
  sizes-same : (file : List (List ℕ)) → every (λ key. contains key keys) file ≡ true → sizes_in keys s file ≡ sizes_in keys t file
  sizes-same file e = map_same (λ key. contains key keys) _ _ [] file e (λ key c. h (position_of key keys) (position_in keys key c))

  file-same : (file : List (List ℕ)) → file_code keys s m file ≡ file_code keys t m file
  unfolding file_code
  file-same file = go (bool_cases (every (λ key. contains key keys) file))
    where
      go : (every (λ key. contains key keys) file ≡ true) ⊎ (every (λ key. contains key keys) file ≡ false) → file_code keys s m file ≡ file_code keys t m file
      go (inl e) = rw (sizes-same file e)
      go (inr e) = rw e

  codes_same : (files : List (List (List ℕ))) → map (file_code keys s m) files ≡ map (file_code keys t m) files
  codes_same files = map-match _ _ [] files (λ k u. file-same (get_or files k []))

  files-same : (files : List (List (List ℕ))) → files_code keys s m files ≡ files_code keys t m files
  unfolding files_code
  files-same files = ap first_code (codes_same files)

-- ---- the list

module _ (f : Form) (list store index : List ℕ) (accept : keyword_code list ≡ 0) (reads : ScanReads f list store index) where
  -- the tests 15 to 17 of a file and of all files, said of the store
  abbrev store_file_code : List (List ℕ) → ℕ
  store_file_code file = file_code (store_keys store) (size_at store_layout store) (inner_least f list) file

  abbrev pub store_files_code : List (List (List ℕ)) → ℕ
  store_files_code files = files_code (store_keys store) (size_at store_layout store) (inner_least f list) files

  abbrev pub chunks_named : List (List ℕ) → List (List ℕ)
  chunks_named file = map (chunk_named store) file

  in-store : (key : List ℕ) → contains key (store_keys store) ≡ true → position_of key (store_keys store) < chunk_count store
  in-store key e = omega (arith, position_in (store_keys store) key e, reads.key_count)

  file-records : (file : List (List ℕ)) → every (λ key. contains key (store_keys store)) file ≡ true
      → file_records f index file ≡ map (scan_records f list) (chunks_named file)
  unfolding file_records
  file-records file e =
      rw reads.keys
      (map_same (λ key. contains key (store_keys store)) _ _ [] file e (λ key c. reads.records (position_of key (store_keys store)) (in-store key c))
      ∙ sym (map-map (scan_records f list) (chunk_named store) file))

  pub file-lengths : (file : List (List ℕ)) → every (λ key. contains key (store_keys store)) file ≡ true
      → map length (chunks_named file) ≡ sizes_in (store_keys store) (size_at store_layout store) file
  file-lengths file e =
      map-map length (chunk_named store) file
      ∙ map_same (λ key. contains key (store_keys store)) _ _ [] file e (λ key c. reads.chunks (position_of key (store_keys store)) (in-store key c))

  pub all-records : (files : List (List (List ℕ))) → store_files_code files ≡ 0
      → map (file_records f index) files ≡ map (map (scan_records f list)) (map chunks_named files)
  unfolding files_code
  all-records [] e = refl
  all-records (file ∷ files) e =
      let p : (store_file_code file ≡ 0) × (store_files_code files ≡ 0) = passed-code (store_file_code file) (map store_file_code files) e in
      let g : FileAccepted (store_keys store) (size_at store_layout store) (inner_least f list) file =
      file-accepted (store_keys store) (size_at store_layout store) (inner_least f list) file p.0 in
      rw (file-records file g.known, all-records files p.1)

  pub all-roomy : (files : List (List (List ℕ))) → store_files_code files ≡ 0
      → every (λ cs. inner_long (inner_least f list) (map length cs)) (map chunks_named files) ≡ true
  unfolding files_code
  all-roomy [] e = refl
  all-roomy (file ∷ files) e =
      let p : (store_file_code file ≡ 0) × (store_files_code files ≡ 0) = passed-code (store_file_code file) (map store_file_code files) e in
      let g : FileAccepted (store_keys store) (size_at store_layout store) (inner_least f list) file =
      file-accepted (store_keys store) (size_at store_layout store) (inner_least f list) file p.0 in
      rw (file-lengths file g.known, g.inner, all-roomy files p.1)

  pub texts : (files : List (List (List ℕ))) → map (λ cs. folded (flag_of list) (joined cs)) (map chunks_named files)
      ≡ map (λ file. folded (flag_of list) (restored store file)) files
  unfolding restored
  texts files = map-map (λ cs. folded (flag_of list) (joined cs)) chunks_named files

  pub lists-same : (recipes : List ℕ) → store_files_code (files_of recipes) ≡ 0 → join_list f index recipes ≡ direct_search list store recipes
  unfolding join_list direct_search
  lists-same recipes e =
      rw (reads.listed.folded, all-records (files_of recipes) e)
      (scan-join-is-search f list (map chunks_named (files_of recipes)) (accepted-none-empty list accept) (all-roomy (files_of recipes) e)
      ∙ ap (occurrences_in_all 0 (folded_keywords list)) (texts (files_of recipes)))

  -- ---- the number

  inner_least-same : inner_least f (list_in index) ≡ inner_least f list
  unfolding inner_least
  inner_least-same = rw reads.listed.keywords

  pub index-files : (files : List (List (List ℕ))) → files_code (index_keys index) (size_at (index_layout index) index) (inner_least f (list_in index)) files
      ≡ store_files_code files
  index-files files =
      rw (reads.keys, inner_least-same)
      (files-same (store_keys store) (size_at (index_layout index) index) (size_at store_layout store) (inner_least f list)
      (λ k l. reads.sizes k (omega (arith, reads.key_count))) files)

  chain : (r c n : ℕ) (b d : Bool) (k l : ℕ) → (r ≡ 0 → c ≡ 0 → b ≡ d) → (r ≡ 0 → c ≡ 0 → k ≡ l)
      → first_number (whole (first_number (whole 0 ∷ whole r ∷ whole c ∷ [])) ∷ (b, n) ∷ whole k ∷ []) ≡ first_number (whole r ∷ whole c ∷ (d, n) ∷ whole l ∷ [])
  chain zero zero n b d k l h i = rw (h refl refl, i refl refl)
  chain zero (suc c) n b d k l h i = rw (lt-ltb 0 (suc c) (omega arith), lt-ltb 0 (suc c) (omega arith))
  chain (suc r) c n b d k l h i = rw (lt-ltb 0 (suc r) (omega arith), lt-ltb 0 (suc r) (omega arith))

  pub codes-agree : (recipes : List ℕ) (clients : Clients) (room : ℕ) → join_code f index recipes clients room ≡ search_join_code f list store recipes clients room
  unfolding join_code joinable_code search_join_code
  codes-agree recipes clients room =
      rw (reads.passes, index-files (files_of recipes), reads.listed.keywords)
      (chain (recipes_code recipes) (store_files_code (files_of recipes)) 18
      (ltb room (9 * length (join_list f index recipes))) (ltb room (9 * length (direct_search list store recipes)))
      (clients_code (length (keywords_of list)) clients (join_list f index recipes))
      (clients_code (length (keywords_of list)) clients (direct_search list store recipes))
      (λ _ e. ap (λ (l : List Occurrence). ltb room (9 * length l)) (lists-same recipes e))
      (λ _ e. ap (clients_code (length (keywords_of list)) clients) (lists-same recipes e)))

  -- where the number is 0 the lists are the same
  pub done-same : (recipes : List ℕ) (clients : Clients) (room : ℕ) → search_join_code f list store recipes clients room ≡ 0
      → join_list f index recipes ≡ direct_search list store recipes
  unfolding search_join_code
  done-same recipes clients room e =
      let a = passed-whole (recipes_code recipes) _ e in
      lists-same recipes (passed-whole (store_files_code (files_of recipes)) _ a.1).0

  -- ---- the answer, the buffer and the tally

  pub outcome-of-scan : (recipes : List ℕ) (clients : Clients) (room : ℕ)
      → join_outcome f index recipes clients room ≡ answer (search_join_code f list store recipes clients room) (length (direct_search list store recipes))
  unfolding join_outcome
  outcome-of-scan recipes clients room =
      answer-same (join_code f index recipes clients room) (search_join_code f list store recipes clients room)
      (length (join_list f index recipes)) (length (direct_search list store recipes))
      (codes-agree recipes clients room)
      (λ e. ap length (done-same recipes clients room e))

  pub buffer-of-scan : (recipes : List ℕ) (clients : Clients) (out : List ℕ)
      → join_buffer f index recipes clients out
      ≡ unless_refused (search_join_code f list store recipes clients (length out)) (written out (list_bytes (direct_search list store recipes))) out
  unfolding join_buffer
  buffer-of-scan recipes clients out =
      buffer-same (join_code f index recipes clients (length out)) (search_join_code f list store recipes clients (length out))
      (written out (list_bytes (join_list f index recipes))) (written out (list_bytes (direct_search list store recipes))) out
      (codes-agree recipes clients (length out))
      (λ e. ap (λ (l : List Occurrence). written out (list_bytes l)) (done-same recipes clients (length out) e))

  pub tally-of-scan : (recipes : List ℕ) (clients : Clients) (room : ℕ)
      → join_tally f index recipes clients room
      ≡ unless_refused (search_join_code f list store recipes clients room) (tally_with clients (direct_search list store recipes)) clients.tally
  unfolding join_tally
  tally-of-scan recipes clients room =
      buffer-same (join_code f index recipes clients room) (search_join_code f list store recipes clients room)
      (tally_with clients (join_list f index recipes)) (tally_with clients (direct_search list store recipes)) clients.tally
      (codes-agree recipes clients room)
      (λ e. ap (tally_with clients) (done-same recipes clients room e))
