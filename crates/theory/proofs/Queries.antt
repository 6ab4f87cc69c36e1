-- Request #109 as a claim on a scan and a query of what it wrote. The lines are those of a direct search (QuerySearch), which read back (QueryLines),
-- and a choice is one of offsets at which the keywords stand (QueryStands), so that the earliest is `earliest-choice`. Assumes nothing.
use mathlib.Core.Path.{◌≡◌, refl, sym, ap, ap₂, ◌∙◌}
use mathlib.Core.Logic.{◌↔◌}
use mathlib.Core.Bool.{Bool, true, ◌&&◌, not}
use mathlib.Core.List.{List, [], ◌∷◌, map}
use Prim.Native.Nat.{ℕ, suc, ◌+◌, ◌*◌, ◌^◌, ◌≤◌, ◌<◌}
use native.Mathlib.Omega.{arith}
use lib.ListN.{length, take, drop, get_or}
use lib.Dec.{leb, ltb}
use borrow.Author.Tests.{leb-true, le-leb, ltb-true, ltb-false, lt-ltb, le-ltb, not-false}
use Rattle.spec.specs.Outcome.{Outcome, code_of, value_of, answer}
use Rattle.spec.specs.Scanned.{Scanned}
use Rattle.spec.specs.Bytes.{largest32, every, rising}
use Rattle.spec.specs.Keywords.{flag_of, folded, keywords_of, folded_keywords, keyword_code}
use Rattle.spec.specs.Directory.{size_at}
use Rattle.spec.specs.Store.{store_layout, store_keys}
use Rattle.spec.specs.Form.{newest, form_of}
use Rattle.spec.specs.Recipes.{files_of, recipes_code, files_code}
use Rattle.spec.specs.Join.{Occurrence}
use Rattle.spec.specs.Query.{is_choice, Line, line_size, lines_bytes, read_lines, is_query, query_outcome, query_buffer}
use Rattle.spec.specs.Scan.{scan_index, scan_code, scan_answer, scanned_code, scanned_length}
use Rattle.spec.specs.Search.{occurrences_in, restored}
use Rattle.spec.proofs.Tests.{and_left, and_right}
use Rattle.spec.proofs.Codes.{passed, passed-whole}
use Rattle.spec.proofs.FileLaws.{every-at}
use Rattle.spec.proofs.JoinIsSearch.{get_d_map}
use Rattle.spec.proofs.Choices.{three}
use Rattle.spec.proofs.ScanLaws.{ScanReads}
use Rattle.theory.specs.Demand3.{scanned}
use Rattle.theory.specs.Queries.{has_line, ChoiceLines, search_lines, search_query_code, GoodQuery, NoQueryRefusal, StandInOrder}
use Rattle.theory.specs.Queries.{Qualifies, EarliestLine, QueryCalls, QueryClaim, Queries}
use Rattle.theory.proofs.ScanThenJoin.{accepted-none-empty}
use Rattle.theory.proofs.Demand3.{code-of-answer, value-of-answer, worked-buffer, scan-number, scan-done, scan-is-read, accepts, scanned-is}
use Rattle.theory.proofs.ListRead.{few-files, short-text}
use Rattle.theory.proofs.QueryLines.{lines-of-texts, LineFits, lines-read}
use Rattle.theory.proofs.QuerySearch.{numbers-last, query-numbers, query-outcome, query-buffer}
use Rattle.theory.proofs.QueryStands.{choice-count, choice-below, choice-stands}

-- ---- refusal 21

every_of : (test : ℕ → Bool) (l : List ℕ) → ((i : ℕ) → i < length l → test (get_or l i 0) ≡ true) → every test l ≡ true
every_of test [] h = refl
every_of test (x ∷ l) h = rw (h 0 (omega arith), every_of test l (λ i u. h (suc i) (omega arith)))

query-good : (count : ℕ) (query : List ℕ) → (is_query count query ≡ true) ↔ GoodQuery count query
unfolding is_query
query-good count query = (there, back)
  where
    short : Bool
    short = leb (length query) 8

    long : Bool
    long = leb 2 (length query)

    there : is_query count query ≡ true → GoodQuery count query
    there e =
        let a : (long && short) ≡ true = and_left (long && short) (every (λ k. ltb k count) query) e in (
          leb-true 2 (length query) (and_left long short a),
          leb-true (length query) 8 (and_right long short a),
          λ i l. ltb-true (get_or query i 0) count (every-at (λ k. ltb k count) query i 0 (query-numbers count query e) l),
        )

    back : GoodQuery count query → is_query count query ≡ true
    back g =
        three (leb 2 (length query)) (leb (length query) 8) (every (λ k. ltb k count) query) (le-leb 2 (length query) g.0) (le-leb (length query) 8 g.1)
        (every_of (λ k. ltb k count) query (λ i l. lt-ltb (get_or query i 0) count (g.2 i l)))

pub query-done : (list store recipes query : List ℕ) (room : ℕ)
    → (search_query_code list store recipes query room ≡ 0) ↔ NoQueryRefusal list store recipes query room
unfolding search_query_code
query-done list store recipes query room = (there, back)
  where
    count : ℕ
    count = length (keywords_of list)

    size : ℕ
    size = line_size query * length (search_lines list store recipes query)

    there : search_query_code list store recipes query room ≡ 0 → NoQueryRefusal list store recipes query room
    there e =
        let a = passed-whole (recipes_code recipes) _ e in
        let b = passed-whole (files_code (store_keys store) (size_at store_layout store) 0 (files_of recipes)) _ a.1 in
        let c = passed (not (is_query count query)) 21 _ (omega arith) b.1 in
        let d = passed (ltb room size) 18 _ (omega arith) c.1 in
        (a.0, b.0, (query-good count query).0 (not-false (is_query count query) c.0), ltb-false room size d.0)

    back : NoQueryRefusal list store recipes query room → search_query_code list store recipes query room ≡ 0
    back n =
        rw (
          n.0,
          n.1,
          (query-good (length (keywords_of list)) query).1 n.2,
          le-ltb room (line_size query * length (search_lines list store recipes query)) n.3,
        )

-- ---- the lines of the restored files, for accepted inputs

record LinesStand (list store recipes query : List ℕ) : Type 0 where
  pub exactly : (file : ℕ) → (has_line file (search_lines list store recipes query) ≡ true) ↔ Qualifies list store recipes query file
  pub earliest : (i : ℕ) (none : Line) → i < length (search_lines list store recipes query)
      → EarliestLine list store recipes query (get_or (search_lines list store recipes query) i none)
  pub fit : (i : ℕ) (none : Line) → i < length (search_lines list store recipes query)
      → LineFits (length query) (get_or (search_lines list store recipes query) i none)
  pub ordered : rising (map (λ (l : Line). l.file) (search_lines list store recipes query)) ≡ true

module _ (list store index recipes query : List ℕ) (accept : keyword_code list ≡ 0) (reads : ScanReads newest list store index) (known : recipes_code recipes ≡ 0)
    (good : files_code (store_keys store) (size_at store_layout store) 0 (files_of recipes) ≡ 0) (asked : is_query (length (keywords_of list)) query ≡ true) where
  abbrev lengths : List ℕ
  lengths = map length (keywords_of list)

  abbrev raw : ℕ → List ℕ
  raw m = restored store (get_or (files_of recipes) m [])

  -- A file's occurrences, by a direct search.
  abbrev searched : ℕ → List Occurrence
  searched m = occurrences_in m (folded_keywords list) (folded (flag_of list) (raw m))

  numbers : every (λ k. ltb k (length (keywords_of list))) query ≡ true
  numbers = query-numbers (length (keywords_of list)) query asked

  by-choices : ChoiceLines lengths query (length (files_of recipes)) searched (search_lines list store recipes query)
  unfolding search_lines
  by-choices =
      lines-of-texts lengths query (folded_keywords list) [] (numbers-last (keywords_of list) (accepted-none-empty list accept) query numbers)
      (files_of recipes) (λ file. folded (flag_of list) (restored store file))

  stands : (m : ℕ) (offsets : List ℕ) → (is_choice lengths (searched m) 0 query offsets ≡ true)
      ↔ StandInOrder (flag_of list) (keywords_of list) (raw m) 0 query offsets
  stands m offsets = choice-stands list accept m (raw m) 0 query offsets numbers

  lines-earliest : (i : ℕ) (none : Line) → i < length (search_lines list store recipes query)
      → EarliestLine list store recipes query (get_or (search_lines list store recipes query) i none)
  lines-earliest i none u =
      let l : Line = get_or (search_lines list store recipes query) i none in
      let h = by-choices.earliest i none u in
      record {
        stand = (h.known, (stands l.file l.offsets).0 h.choice);
        least = λ offsets s. h.least offsets ((stands l.file offsets).1 s.1);
      }

  text-short : (m : ℕ) → m < length (files_of recipes) → length (folded (flag_of list) (raw m)) ≤ largest32
  text-short m l =
      rw (get_d_map (λ file. folded (flag_of list) (restored store file)) (files_of recipes) m [] [] l)
      at (short-text newest list store index recipes accept reads 0 known good m l)

  lines_fit : (i : ℕ) (none : Line) → i < length (search_lines list store recipes query)
      → LineFits (length query) (get_or (search_lines list store recipes query) i none)
  lines_fit i none u =
      let l : Line = get_or (search_lines list store recipes query) i none in
      let h = by-choices.earliest i none u in
      record {
        file = omega (arith, h.known, few-files recipes known);
        count = choice-count lengths (searched l.file) 0 query l.offsets h.choice;
        offsets =
            choice-below lengths (folded_keywords list) l.file (folded (flag_of list) (raw l.file)) (256 ^ 4) 0 query l.offsets
            (omega (arith, text-short l.file h.known)) h.choice;
      }

  lines-exactly : (file : ℕ) → (has_line file (search_lines list store recipes query) ≡ true) ↔ Qualifies list store recipes query file
  lines-exactly file =
      let c = by-choices.exactly file in (
        λ e. let h = c.0 e in record { offsets = h.offsets; stand = (h.known, (stands file h.offsets).0 h.choice) },
        λ q. c.1 (record { known = q.stand.0; offsets = q.offsets; choice = (stands file q.offsets).1 q.stand.1 }),
      )

  lines-stand : LinesStand list store recipes query
  lines-stand = record { exactly = lines-exactly; earliest = lines-earliest; fit = lines_fit; ordered = by-choices.ordered }

-- ---- a scan and a query of what it wrote

module _ (list store recipes query buffer out : List ℕ) where
  abbrev scan : Scanned
  scan = scan_answer newest list store (length buffer)

  abbrev index : List ℕ
  index = scanned list store buffer

  abbrev found : Outcome
  found = query_outcome (form_of index) index recipes query (length out)

  abbrev after : List ℕ
  after = query_buffer (form_of index) index recipes query out

  abbrev lines : List Line
  lines = search_lines list store recipes query

  abbrev code : ℕ
  code = search_query_code list store recipes query (length out)

  module _ (s : scanned_code scan ≡ 0) where
    scan-code : scan_code newest list store (length buffer) ≡ 0
    scan-code = sym (scan-number list store (length buffer)) ∙ s

    outcome : found ≡ answer code (length lines)
    outcome = query-outcome list store (length buffer) scan-code index (scanned-is list store buffer scan-code) recipes query (length out)

    number : code_of found ≡ code
    number = ap code_of outcome ∙ code-of-answer code (length lines)

    done : (code_of found ≡ 0) ↔ NoQueryRefusal list store recipes query (length out)
    done = let d = query-done list store recipes query (length out) in (λ z. d.0 (sym number ∙ z), λ n. number ∙ d.1 n)

    module _ (z : code_of found ≡ 0) where
      no-refusal : NoQueryRefusal list store recipes query (length out)
      no-refusal = done.0 z

      asked : is_query (length (keywords_of list)) query ≡ true
      asked = (query-good (length (keywords_of list)) query).1 no-refusal.2

      stand : LinesStand list store recipes query
      stand =
          lines-stand list store (scan_index newest list store) recipes query (accepts list store (length buffer) scan-code)
          (scan-is-read list store (length buffer) scan-code) no-refusal.0 no-refusal.1 asked

      claim-count : value_of found ≡ length lines
      claim-count = ap value_of outcome ∙ value-of-answer code (length lines) (sym number ∙ z)

      claim-lines : read_lines (length query) (value_of found) after ≡ lines
      claim-lines =
          ap₂ (λ (n : ℕ) (b : List ℕ). read_lines (length query) n b) claim-count
          (query-buffer list store (length buffer) scan-code index (scanned-is list store buffer scan-code) recipes query out
          ∙ worked-buffer code out (lines_bytes lines) (sym number ∙ z))
          ∙ lines-read (length query) lines (drop (0 + length (lines_bytes lines)) out)
          stand.fit

      claim-exactly : (file : ℕ) → (has_line file (read_lines (length query) (value_of found) after) ≡ true) ↔ Qualifies list store recipes query file
      claim-exactly file =
          rw claim-lines (stand.exactly file)

      claim-earliest : (i : ℕ) (none : Line) → i < value_of found
          → EarliestLine list store recipes query (get_or (read_lines (length query) (value_of found) after) i none)
      claim-earliest i none u =
          rw claim-lines (stand.earliest i none (omega (arith, u, claim-count)))

      claim-ordered : rising (map (λ (l : Line). l.file) (read_lines (length query) (value_of found) after)) ≡ true
      claim-ordered =
          rw claim-lines stand.ordered

  claim-at : QueryClaim list store recipes query buffer out scan found after
  claim-at =
      let q : scanned_code scan ≡ scan_code newest list store (length buffer) = scan-number list store (length buffer) in
      let d = scan-done list store (length buffer) in
      record {
        both = (
          λ e. (d.0 (sym q ∙ e.0), (done e.0).0 e.1),
          λ n. let s : scanned_code scan ≡ 0 = q ∙ d.1 n.0 in (s, (done s).1 n.1),
        );
        exactly = claim-exactly;
        earliest = claim-earliest;
        ordered = claim-ordered;
        count = claim-count;
        lines = claim-lines;
      }

pub queries : Queries
queries = record { calls = of_calls }
  where
    of_calls : (list store recipes query buffer out : List ℕ) (scan : Scanned) (found : Outcome) (buffer' index out' : List ℕ)
        → QueryCalls list store recipes query buffer out scan found buffer' index out' → QueryClaim list store recipes query buffer out scan found out'
    of_calls list store recipes query buffer out scan found buffer' index out' c =
        let i : index ≡ scanned list store buffer = c.handed ∙ ap₂ (λ (a : Scanned) (b : List ℕ). take (scanned_length a) b) c.scanned c.wrote in
        let j : found ≡ query_outcome (form_of (scanned list store buffer)) (scanned list store buffer) recipes query (length out) =
        c.queried ∙ ap (λ (x : List ℕ). query_outcome (form_of x) x recipes query (length out)) i in
        let o : out' ≡ query_buffer (form_of (scanned list store buffer)) (scanned list store buffer) recipes query out =
        c.reported ∙ ap (λ (x : List ℕ). query_buffer (form_of x) x recipes query out) i in
        rw (c.scanned, j, o) (claim-at list store recipes query buffer out)
