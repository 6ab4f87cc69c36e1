-- Demands 1, 2 and 3. Demand 1 goes by the two cases of an answer; demand 2 gathers what is proved of records and index files; demand 3 is
-- `scan-and-join` said of two calls, with "stands at" byte by byte. Assumes nothing.
use mathlib.Core.Path.{◌≡◌, refl, sym, ap, ap₂, ◌∙◌}
use mathlib.Core.Logic.{◌≢◌}
use mathlib.Core.Bool.{Bool, true, ◌&&◌, cond}
use mathlib.Core.List.{List, [], ◌∷◌}
use Prim.Native.Nat.{ℕ, zero, suc, ◌≤◌, ◌<◌}
use native.Mathlib.Omega.{arith}
use lib.Dec.{eqb, ltb}
use lib.ListN.{length, take, get_or, length-map}
use borrow.Author.Tests.{ltb-true, lt-ltb, ne_eqb}
use Rattle.spec.specs.Outcome.{Outcome, first_number, whole, code_of, value_of, answer, unless_refused}
use Rattle.spec.specs.Scanned.{Scanned}
use Rattle.spec.specs.Searched.{ScanRefused, JoinRefused, Found}
use Rattle.spec.specs.Bytes.{part, written, occurs_at}
use Rattle.spec.specs.Keywords.{flag_of, folded, keywords_of, folded_keywords, keyword_code}
use Rattle.spec.specs.Directory.{Layout}
use Rattle.spec.specs.Store.{store_layout, store_keys, store_code}
use Rattle.spec.specs.Form.{newest, form_of}
use Rattle.spec.specs.Recipes.{files_of}
use Rattle.spec.specs.Index.{index_layout, index_keys, index_code}
use Rattle.spec.specs.Join.{Occurrence, keyword_at, Clients, tally_with, join_list, list_bytes, read_list, join_code, join_outcome, join_buffer, join_tally}
use Rattle.spec.specs.Query.{query_lines, lines_bytes, query_code, query_outcome, query_buffer}
use Rattle.spec.specs.Lookup.{lookup_code, lookup_start, lookup_length, find_chunk, chunk_start, chunk_length, chunk_of, find_body, body_start, body_length, body_of}
use Rattle.spec.specs.Trie.{scan_moves}
use Rattle.spec.specs.Scan.{scan_index, scan_code, scan_outcome, with_moves, scan_answer, scan_buffer, scanned_code, scanned_length}
use Rattle.spec.specs.Search.{restored, direct_search, search_join_code, search_code, search_outcome, search_buffer, search_tally, searched_code}
use Rattle.spec.specs.Compact.{compacted, compact_code, compact_outcome, compact_buffer}
use Rattle.spec.proofs.Codes.{answer-done, answer-refused, buffer-done, buffer-refused}
use Rattle.spec.proofs.Tests.{and_left, and_right}
use Rattle.spec.proofs.Folding.{folded-length}
use Rattle.spec.proofs.JoinIsSearch.{get_d_map}
use Rattle.spec.proofs.ScanLaws.{newest-scans, scan-form}
use Rattle.theory.specs.SearchList.{is_in, in_order, occurs_in}
use Rattle.theory.specs.RecordSets.{Says, scanned_records}
use Rattle.theory.specs.Demand3.{restored_files, scanned}
use Rattle.theory.specs.Demands.{Answered, Tallied, ScanAnswered, LookupAnswered, Demand1, Demand2, StandsIn, Calls, Claim, Demand3}
use Rattle.theory.proofs.Demand3.{code-of-answer, value-of-answer, scan-number, scanned-is, scan-and-join}
use Rattle.theory.proofs.SearchList.{order-once}
use Rattle.theory.proofs.IndexTheorems.{scan-says}
use Rattle.theory.proofs.WrittenBytes.{written_once}
use Rattle.theory.proofs.Demand2.{scan-published, keyword-bytes}
use Rattle.theory.proofs.OccursText.{occurs-text}
use Rattle.theory.proofs.Numbers.{numbers}

-- ---- demand 1

answered : (code value : ℕ) (worked buffer : List ℕ) → Answered code value worked buffer (answer code value) (unless_refused code worked buffer)
answered code value worked buffer =
    record {
      done = λ e. (sym (answer-done code value e), sym (buffer-done code worked buffer e));
      refused = λ d. (sym (answer-refused code value d), sym (buffer-refused code worked buffer d));
    }

tallied : (code : ℕ) (clients : Clients) (list : List Occurrence) → Tallied code clients list (unless_refused code (tally_with clients list) clients.tally)
tallied code clients list =
    record {
      done = λ e. sym (buffer-done code (tally_with clients list) clients.tally e);
      refused = λ d. sym (buffer-refused code (tally_with clients list) clients.tally d);
    }

-- the scan's, with its moves
scan-answered : (list store buffer : List ℕ)
    → ScanAnswered list store buffer (scan_answer newest list store (length buffer)) (scan_buffer newest list store buffer)
unfolding scan_answer scan_outcome scan_buffer
scan-answered list store buffer =
    let index = scan_index newest list store in
    let a = answered (scan_code newest list store (length buffer)) (length index) (written buffer index) buffer in
    let moved : Outcome → Scanned = λ o. with_moves o (scan_moves list store) in
    record { done = λ e. (ap moved (a.done e).0, (a.done e).1); refused = λ d. (ap moved (a.refused d).0, (a.refused d).1) }

not-zero : (n : ℕ) → suc n ≢ 0
not-zero n z = let y : ⊥ = omega arith in absurd y

by_cases : (s j size count : ℕ)
    → searched_code (cond (eqb s 0) (cond (eqb j 0) (Found size count) (JoinRefused size j)) (ScanRefused s)) ≡ first_number (whole s ∷ whole j ∷ [])
by_cases zero zero size count = refl
by_cases zero (suc j) size count = rw (ne_eqb (suc j) 0 (not-zero j), lt-ltb 0 (suc j) (omega arith))
by_cases (suc s) j size count = rw (ne_eqb (suc s) 0 (not-zero s), lt-ltb 0 (suc s) (omega arith))

-- the number of a search is the scan's, or where that is 0 the join's
pub searched-code : (list store recipes : List ℕ) (clients : Clients) (index_room room : ℕ)
    → searched_code (search_outcome newest list store recipes clients index_room room) ≡ search_code newest list store recipes clients index_room room
unfolding search_outcome search_code
searched-code list store recipes clients index_room room =
    by_cases (scan_code newest list store index_room) (search_join_code newest list store recipes clients room) (length (scan_index newest list store))
    (length (direct_search list store recipes))

lookup-answered : (code : ℕ) (layout : Layout) (bytes : List ℕ) (keys : List (List ℕ)) (key : List ℕ)
    → LookupAnswered (lookup_code code keys key) (lookup_start code layout bytes keys key)
    (part bytes (lookup_start code layout bytes keys key) (lookup_length code layout bytes keys key))
lookup-answered code layout bytes keys key =
    record { empty = λ d. (rw (ne_eqb (lookup_code code keys key) 0 d), rw (ne_eqb (lookup_code code keys key) 0 d)) }

pub demand-1 : Demand1
unfolding scan_buffer join_outcome join_buffer join_tally query_outcome query_buffer search_buffer search_tally compact_outcome compact_buffer find_chunk chunk_start chunk_length chunk_of find_body body_start body_length body_of
demand-1 =
    record {
      scan = scan-answered;
      join = λ index recipes clients buffer.
          answered (join_code (form_of index) index recipes clients (length buffer)) (length (join_list (form_of index) index recipes))
          (written buffer (list_bytes (join_list (form_of index) index recipes))) buffer;
      tallies = λ index recipes clients room. tallied (join_code (form_of index) index recipes clients room) clients (join_list (form_of index) index recipes);
      query = λ index recipes query buffer.
          answered (query_code (form_of index) index recipes query (length buffer)) (length (query_lines (form_of index) index recipes query))
          (written buffer (lines_bytes (query_lines (form_of index) index recipes query))) buffer;
      searches = λ list store recipes clients index out. record {
        number = searched-code list store recipes clients (length index) (length out);
        list_kept = λ d.
            sym (buffer-refused (search_code newest list store recipes clients (length index) (length out))
            (written out (list_bytes (direct_search list store recipes))) out d);
        index_kept = λ d. sym (buffer-refused (scan_code newest list store (length index)) (written index (scan_index newest list store)) index d);
        tallied = tallied (search_code newest list store recipes clients (length index) (length out)) clients (direct_search list store recipes);
      };
      compact = λ store recipes buffer.
          answered (compact_code store recipes (length buffer)) (length (compacted store recipes)) (written buffer (compacted store recipes)) buffer;
      chunk = λ store key. lookup-answered (store_code store) store_layout store (store_keys store) key;
      body = λ index key. lookup-answered (index_code (form_of index) index) (index_layout index) index (index_keys index) key;
      numbers = numbers;
    }

-- ---- demand 2

pub demand-2 : Demand2
demand-2 = record { published = scan-published; says = scan-says-it; once = written_once }
  where
    scan-says-it : (list store buffer : List ℕ) → scanned_code (scan_answer newest list store (length buffer)) ≡ 0
        → Says (form_of (scanned list store buffer)) list (scanned_records newest list store) (scanned list store buffer)
    scan-says-it list store buffer e =
        let c : scan_code newest list store (length buffer) ≡ 0 = sym (scan-number list store (length buffer)) ∙ e in
        rw (scanned-is list store buffer c, scan-form list store) (scan-says newest newest-scans list store (length buffer) c)

-- ---- demand 3

-- an occurrence in the restored files as they compare is one that stands in them, for a keyword list that is accepted
module _ (list store recipes : List ℕ) (accept : keyword_code list ≡ 0) (o : Occurrence) where
  abbrev flag : ℕ
  flag = flag_of list

  abbrev word : List ℕ
  word = keyword_at (keywords_of list) o.keyword

  abbrev text : List ℕ
  text = restored store (get_or (files_of recipes) o.file [])

  counted : length (folded_keywords list) ≡ length (keywords_of list)
  unfolding folded_keywords
  counted = length-map (keywords_of list) (folded flag)

  word-is : o.keyword < length (keywords_of list) → keyword_at (folded_keywords list) o.keyword ≡ folded flag word
  unfolding folded_keywords
  word-is l = get_d_map (folded flag) (keywords_of list) o.keyword [] [] l

  files-counted : length (restored_files list store recipes) ≡ length (files_of recipes)
  files-counted = length-map (files_of recipes) (λ file. folded flag (restored store file))

  text-is : o.file < length (files_of recipes) → get_or (restored_files list store recipes) o.file [] ≡ folded flag text
  text-is l = get_d_map (λ file. folded flag (restored store file)) (files_of recipes) o.file [] [] l

  nonempty : o.keyword < length (keywords_of list) → 1 ≤ length word
  nonempty l = omega (arith, keyword-bytes list accept o.keyword (omega (arith, counted)), ap length (word-is l), folded-length flag word)

  abbrev a : Bool
  a = ltb o.file (length (restored_files list store recipes))

  abbrev b : Bool
  b = ltb o.offset (length (get_or (restored_files list store recipes) o.file []))

  abbrev c : Bool
  c = ltb o.keyword (length (folded_keywords list))

  abbrev d : Bool
  d = occurs_at (keyword_at (folded_keywords list) o.keyword) (get_or (restored_files list store recipes) o.file []) o.offset

  stands-there : occurs_in (folded_keywords list) (restored_files list store recipes) o ≡ true → StandsIn list store recipes o
  stands-there e =
      let abc : (a && b && c) ≡ true = and_left (a && b && c) d e in
      let f : o.file < length (files_of recipes) =
      omega (arith, files-counted, ltb-true o.file (length (restored_files list store recipes)) (and_left a b (and_left (a && b) c abc))) in
      let k : o.keyword < length (keywords_of list) = omega (arith, counted, ltb-true o.keyword (length (folded_keywords list)) (and_right (a && b) c abc)) in
      let s : occurs_at (folded flag word) (folded flag text) o.offset ≡ true =
      sym (ap₂ (λ (w t : List ℕ). occurs_at w t o.offset) (word-is k) (text-is f)) ∙ and_right (a && b && c) d e in
      let t = (occurs-text flag word text o.offset (nonempty k)).0 s in
      record { file = f; keyword = k; stands = record { within = t.0; alike = t.1 } }

  stands-back : StandsIn list store recipes o → occurs_in (folded_keywords list) (restored_files list store recipes) o ≡ true
  stands-back s =
      let t : occurs_at (folded flag word) (folded flag text) o.offset ≡ true =
      (occurs-text flag word text o.offset (nonempty s.keyword)).1 (s.stands.within, s.stands.alike) in
      let n : length (get_or (restored_files list store recipes) o.file []) ≡ length text = ap length (text-is s.file) ∙ folded-length flag text in
      rw (
        lt-ltb o.file (length (restored_files list store recipes)) (omega (arith, files-counted, s.file)),
        lt-ltb o.offset (length (get_or (restored_files list store recipes) o.file [])) (omega (arith, n, s.stands.within, nonempty s.keyword)),
        lt-ltb o.keyword (length (folded_keywords list)) (omega (arith, counted, s.keyword)),
        word-is s.keyword,
        text-is s.file,
        t,
      )

module _ (list store recipes : List ℕ) (clients : Clients) (buffer out : List ℕ) where
  abbrev scan : Scanned
  scan = scan_answer newest list store (length buffer)

  abbrev join : Outcome
  join = join_outcome (form_of (scanned list store buffer)) (scanned list store buffer) recipes clients (length out)

  abbrev after : List ℕ
  after = join_buffer (form_of (scanned list store buffer)) (scanned list store buffer) recipes clients out

  abbrev tally : List ℕ
  tally = join_tally (form_of (scanned list store buffer)) (scanned list store buffer) recipes clients (length out)

  claim-found : scanned_code scan ≡ 0 → code_of join ≡ 0 → read_list (value_of join) after ≡ direct_search list store recipes
  claim-found s j = ((scan-and-join list store recipes clients buffer out).join s).listed j

  -- the number of the join's tests, said of the store, is that of its answer
  claim-code : scanned_code scan ≡ 0 → code_of join ≡ 0 → search_join_code newest list store recipes clients (length out) ≡ 0
  claim-code s j =
      let o = ((scan-and-join list store recipes clients buffer out).join s).outcome in
      sym (ap code_of o ∙ code-of-answer (search_join_code newest list store recipes clients (length out)) (length (direct_search list store recipes))) ∙ j

  claim-count : scanned_code scan ≡ 0 → code_of join ≡ 0 → value_of join ≡ length (direct_search list store recipes)
  claim-count s j =
      ap value_of ((scan-and-join list store recipes clients buffer out).join s).outcome
      ∙ value-of-answer (search_join_code newest list store recipes clients (length out)) (length (direct_search list store recipes)) (claim-code s j)

  claim-tallied : scanned_code scan ≡ 0 → code_of join ≡ 0 → tally ≡ tally_with clients (direct_search list store recipes)
  claim-tallied s j =
      ((scan-and-join list store recipes clients buffer out).join s).tally
      ∙ sym (buffer-done (search_join_code newest list store recipes clients (length out)) _ clients.tally (claim-code s j))

  claim-kept : code_of join ≢ 0 → tally ≡ clients.tally
  unfolding join_outcome join_tally
  claim-kept d =
      let index = scanned list store buffer in
      let code = join_code (form_of index) index recipes clients (length out) in
      sym (buffer-refused code _ clients.tally (λ z. d (code-of-answer code (length (join_list (form_of index) index recipes)) ∙ z)))

  claim-ordered : scanned_code scan ≡ 0 → code_of join ≡ 0 → in_order (read_list (value_of join) after) ≡ true
  claim-ordered s j = ap in_order (claim-found s j) ∙ (scan-and-join list store recipes clients buffer out).searches.ordered

  claim-at : Claim list store recipes clients buffer out scan join after tally
  claim-at =
      let w = scan-and-join list store recipes clients buffer out in
      record {
        both = (
          λ e. (w.scan.0 e.0, (w.join e.0).done.0 e.1),
          λ n. let s = w.scan.1 n.0 in (s, (w.join s).done.1 n.1),
        );
        exactly = λ s j o.
            let q : is_in o (read_list (value_of join) after) ≡ occurs_in (folded_keywords list) (restored_files list store recipes) o =
            ap (is_in o) (claim-found s j) ∙ w.searches.exactly o in
            let accept : keyword_code list ≡ 0 = (w.scan.0 s).0 in (
              λ e. stands-there list store recipes accept o (sym q ∙ e),
              λ e. q ∙ stands-back list store recipes accept o e,
            );
        ordered = claim-ordered;
        once = λ s j m n none l h.
            order-once (read_list (value_of join) after) (claim-ordered s j) m n none l
            (omega (arith, h, claim-count s j, ap length (claim-found s j)));
        count = claim-count;
        found = claim-found;
        tallied = claim-tallied;
        tally_kept = claim-kept;
      }

pub demand-3 : Demand3
demand-3 = record { calls = of_calls }
  where
    of_calls : (list store recipes : List ℕ) (clients : Clients) (buffer out : List ℕ) (scan : Scanned) (join : Outcome)
        (buffer' index out' tally' : List ℕ) → Calls list store recipes clients buffer out scan join buffer' index out' tally'
        → Claim list store recipes clients buffer out scan join out' tally'
    of_calls list store recipes clients buffer out scan join buffer' index out' tally' c =
        let i : index ≡ scanned list store buffer = c.handed ∙ ap₂ (λ (a : Scanned) (b : List ℕ). take (scanned_length a) b) c.scanned c.wrote in
        let j : join ≡ join_outcome (form_of (scanned list store buffer)) (scanned list store buffer) recipes clients (length out) =
        c.joined ∙ ap (λ (x : List ℕ). join_outcome (form_of x) x recipes clients (length out)) i in
        let o : out' ≡ join_buffer (form_of (scanned list store buffer)) (scanned list store buffer) recipes clients out =
        c.listed ∙ ap (λ (x : List ℕ). join_buffer (form_of x) x recipes clients out) i in
        let t : tally' ≡ join_tally (form_of (scanned list store buffer)) (scanned list store buffer) recipes clients (length out) =
        c.tallied ∙ ap (λ (x : List ℕ). join_tally (form_of x) x recipes clients (length out)) i in
        rw (c.scanned, j, o, t) (claim-at list store recipes clients buffer out)
