-- Theorem 5: demand 3. The scan's number is 0 exactly when its tests pass; then its buffer holds the index, which reads as the store
-- (ScanLaws), and a join of it answers as the direct search does (ScanThenJoin, theorem 2). Assumes nothing.
use mathlib.Core.Path.{◌≡◌, refl, sym, ap, ap₂, ◌∙◌}
use mathlib.Core.Logic.{◌↔◌}
use mathlib.Core.Bool.{true, ◌||◌, not}
use mathlib.Core.List.{List, ◌++◌}
use Prim.Native.Nat.{ℕ, zero, suc, ◌+◌, ◌*◌}
use native.Mathlib.Omega.{arith}
use lib.ListN.{length, take, drop}
use lib.Seq.{take_at}
use lib.Dec.{ltb}
use borrow.Author.Tests.{ltb-false, le-ltb, ne_eqb, not-false}
use Rattle.spec.specs.Outcome.{Outcome, Done, Refused, code_of, value_of, answer, unless_refused}
use Rattle.spec.specs.Bytes.{largest32, splice, written}
use Rattle.spec.specs.Keywords.{keywords_of, keyword_code}
use Rattle.spec.specs.Directory.{size_at}
use Rattle.spec.specs.Store.{store_layout, store_keys, store_code}
use Rattle.spec.specs.Form.{newest, form_of}
use Rattle.spec.specs.Recipes.{files_of, recipes_code, files_code}
use Rattle.spec.specs.Join.{Occurrence, Clients, is_key, fit64, tally_with, clients_code, list_bytes, inner_least, join_outcome, join_buffer, join_tally, read_list}
use Rattle.spec.specs.Trie.{scan_moves}
use Rattle.spec.specs.Scan.{scan_index, scannable_code, scan_code, scan_outcome, with_moves, scan_answer, scan_buffer, scanned_code, scanned_length}
use Rattle.spec.specs.Search.{direct_search, search_join_code}
use Rattle.spec.proofs.Codes.{passed, passed-whole, or_left, or_right}
use Rattle.spec.proofs.ScanLaws.{ScanReads, newest-scans, scan-reads, scan-form}
use Rattle.theory.specs.Demand3.{NoScanRefusal, NoJoinRefusal, scanned, JoinOfScan, ScanAndJoin}
use Rattle.theory.proofs.SearchList.{direct-search-list}
use Rattle.theory.proofs.ScanThenJoin.{outcome-of-scan, buffer-of-scan, tally-of-scan}
use Rattle.theory.proofs.ListRead.{list_read}

-- the number of an answer is its tests' number; where that is 0 its value is the work's
pub code-of-answer : (code value : ℕ) → code_of (answer code value) ≡ code
unfolding answer
code-of-answer zero value = refl
code-of-answer (suc code) value = rw (ne_eqb (suc code) 0 (λ z. let y : ⊥ = omega arith in absurd y))

pub value-of-answer : (code value : ℕ) → code ≡ 0 → value_of (answer code value) ≡ value
unfolding answer
value-of-answer code value e = rw e

-- moves change neither the number of an answer nor its length
code-with-moves : (o : Outcome) (moves : ℕ) → scanned_code (with_moves o moves) ≡ code_of o
code-with-moves (Done size) moves = refl
code-with-moves (Refused code) moves = refl

length-with-moves : (o : Outcome) (moves : ℕ) → scanned_length (with_moves o moves) ≡ value_of o
length-with-moves (Done size) moves = refl
length-with-moves (Refused code) moves = refl

-- what was written is read at the start of the buffer
pub written-front : (buffer bytes : List ℕ) → take (length bytes) (written buffer bytes) ≡ bytes
unfolding splice
written-front buffer bytes = take_at bytes (drop (0 + length bytes) buffer) (length bytes) refl

-- a buffer after work was done
pub worked-buffer : (code : ℕ) (out bytes : List ℕ) → code ≡ 0 → unless_refused code (written out bytes) out ≡ bytes ++ drop (0 + length bytes) out
unfolding unless_refused splice
worked-buffer code out bytes e = rw e

-- the key and the tally are not refused: 22 and 23 do not hold
pub clients-done : (n : ℕ) (clients : Clients) (found : List Occurrence)
    → (clients_code n clients found ≡ 0) ↔ ((is_key n clients.key ≡ true) × (fit64 (tally_with clients found) ≡ true))
unfolding clients_code
clients-done n clients found = (there, back)
  where
    there : clients_code n clients found ≡ 0 → (is_key n clients.key ≡ true) × (fit64 (tally_with clients found) ≡ true)
    there e =
        let a = passed (not (is_key n clients.key)) 22 _ (omega arith) e in
        let b = passed (not (fit64 (tally_with clients found))) 23 _ (omega arith) a.1 in
        (not-false (is_key n clients.key) a.0, not-false (fit64 (tally_with clients found)) b.0)

    back : (is_key n clients.key ≡ true) × (fit64 (tally_with clients found) ≡ true) → clients_code n clients found ≡ 0
    back p = rw (p.0, p.1)

-- ---- the scan

module _ (list store : List ℕ) where
  -- the number of its answer is its tests' number; where that is 0 its length is the index's
  pub scan-number : (room : ℕ) → scanned_code (scan_answer newest list store room) ≡ scan_code newest list store room
  unfolding scan_answer scan_outcome
  scan-number room =
      code-with-moves (scan_outcome newest list store room) (scan_moves list store)
      ∙ code-of-answer (scan_code newest list store room) (length (scan_index newest list store))

  pub scanned-length : (room : ℕ) → scan_code newest list store room ≡ 0
      → scanned_length (scan_answer newest list store room) ≡ length (scan_index newest list store)
  unfolding scan_answer scan_outcome
  scanned-length room e =
      length-with-moves (scan_outcome newest list store room) (scan_moves list store)
      ∙ value-of-answer (scan_code newest list store room) (length (scan_index newest list store)) e

  pub scan-done : (room : ℕ) → (scan_code newest list store room ≡ 0) ↔ NoScanRefusal list store room
  unfolding scan_code scannable_code
  scan-done room = (there, back)
    where
      there : scan_code newest list store room ≡ 0 → NoScanRefusal list store room
      there e =
          let a = passed-whole (scannable_code list store) _ e in
          let b = passed-whole (keyword_code list) _ a.0 in
          let c = passed-whole (store_code store) _ b.1 in
          let size = length (scan_index newest list store) in
          let over = ltb room size in
          let large = ltb largest32 size in
          let d = passed (over || large) 9 _ (omega arith) a.1 in (
            b.0,
            c.0,
            ltb-false room size (or_left over large d.0),
            ltb-false largest32 size (or_right over large d.0),
          )

      back : NoScanRefusal list store room → scan_code newest list store room ≡ 0
      back n =
          rw (n.0, n.1, le-ltb room (length (scan_index newest list store)) n.2, le-ltb largest32 (length (scan_index newest list store)) n.3)

  -- ---- a join of what it wrote

  module _ (room : ℕ) (e : scan_code newest list store room ≡ 0) where
    pub scan-is-read : ScanReads newest list store (scan_index newest list store)
    scan-is-read = let n : NoScanRefusal list store room = (scan-done room).0 e in scan-reads newest newest-scans list store n.0 n.1 n.3

    pub accepts : keyword_code list ≡ 0
    accepts = ((scan-done room).0 e).0

    pub join-outcome : (index recipes : List ℕ) (clients : Clients) (room₂ : ℕ) → index ≡ scan_index newest list store
        → join_outcome (form_of index) index recipes clients room₂
        ≡ answer (search_join_code newest list store recipes clients room₂) (length (direct_search list store recipes))
    join-outcome index recipes clients room₂ p =
        rw (p, scan-form list store) (outcome-of-scan newest list store (scan_index newest list store) accepts scan-is-read recipes clients room₂)

    pub join-buffer : (index recipes : List ℕ) (clients : Clients) (out : List ℕ) → index ≡ scan_index newest list store
        → join_buffer (form_of index) index recipes clients out
        ≡ unless_refused (search_join_code newest list store recipes clients (length out)) (written out (list_bytes (direct_search list store recipes))) out
    join-buffer index recipes clients out p =
        rw (p, scan-form list store) (buffer-of-scan newest list store (scan_index newest list store) accepts scan-is-read recipes clients out)

    pub join-tally : (index recipes : List ℕ) (clients : Clients) (room₂ : ℕ) → index ≡ scan_index newest list store
        → join_tally (form_of index) index recipes clients room₂
        ≡ unless_refused (search_join_code newest list store recipes clients room₂) (tally_with clients (direct_search list store recipes)) clients.tally
    join-tally index recipes clients room₂ p =
        rw (p, scan-form list store) (tally-of-scan newest list store (scan_index newest list store) accepts scan-is-read recipes clients room₂)

  pub search-done : (recipes : List ℕ) (clients : Clients) (room : ℕ)
      → (search_join_code newest list store recipes clients room ≡ 0) ↔ NoJoinRefusal list store recipes clients room
  unfolding search_join_code inner_least
  search-done recipes clients room = (there, back)
    where
      there : search_join_code newest list store recipes clients room ≡ 0 → NoJoinRefusal list store recipes clients room
      there e =
          let a = passed-whole (recipes_code recipes) _ e in
          let b = passed-whole (files_code (store_keys store) (size_at store_layout store) 0 (files_of recipes)) _ a.1 in
          let c = passed (ltb room (9 * length (direct_search list store recipes))) 18 _ (omega arith) b.1 in
          let d = passed-whole (clients_code (length (keywords_of list)) clients (direct_search list store recipes)) _ c.1 in
          let k = (clients-done (length (keywords_of list)) clients (direct_search list store recipes)).0 d.0 in
          (a.0, b.0, ltb-false room (9 * length (direct_search list store recipes)) c.0, k.0, k.1)

      back : NoJoinRefusal list store recipes clients room → search_join_code newest list store recipes clients room ≡ 0
      back n =
          rw (
            n.0,
            n.1,
            le-ltb room (9 * length (direct_search list store recipes)) n.2,
            (clients-done (length (keywords_of list)) clients (direct_search list store recipes)).1 (n.3, n.4),
          )

  -- the scan's buffer starts with the index, so that a reader goes by the newest form
  pub scanned-is : (buffer : List ℕ) → scan_code newest list store (length buffer) ≡ 0 → scanned list store buffer ≡ scan_index newest list store
  unfolding scan_buffer unless_refused
  scanned-is buffer e = rw (scanned-length (length buffer) e, e) (written-front buffer (scan_index newest list store))

  pub scanned-form : (buffer : List ℕ) → scan_code newest list store (length buffer) ≡ 0 → form_of (scanned list store buffer) ≡ newest
  scanned-form buffer e = ap form_of (scanned-is buffer e) ∙ scan-form list store

  pub join-of-scan : (room : ℕ) → scan_code newest list store room ≡ 0 → (recipes : List ℕ) (clients : Clients) (index out : List ℕ)
      → index ≡ scan_index newest list store → JoinOfScan list store recipes clients index out
  join-of-scan room e recipes clients index out p =
      let code : ℕ = search_join_code newest list store recipes clients (length out) in
      let found = direct_search list store recipes in
      let o : join_outcome (form_of index) index recipes clients (length out) ≡ answer code (length found) =
      join-outcome room e index recipes clients (length out) p in
      let q : code_of (join_outcome (form_of index) index recipes clients (length out)) ≡ code = ap code_of o ∙ code-of-answer code (length found) in
      let d : (code ≡ 0) ↔ NoJoinRefusal list store recipes clients (length out) = search-done recipes clients (length out) in
      record {
        done = (λ z. d.0 (sym q ∙ z), λ n. q ∙ d.1 n);
        outcome = o;
        bytes = join-buffer room e index recipes clients out p;
        tally = join-tally room e index recipes clients (length out) p;
        listed =
            λ z.
            let c : code ≡ 0 = sym q ∙ z in
            let v : value_of (join_outcome (form_of index) index recipes clients (length out)) ≡ length found =
            ap value_of o ∙ value-of-answer code (length found) c in
            let rest : List ℕ = drop (0 + length (list_bytes found)) out in
            let b : join_buffer (form_of index) index recipes clients out ≡ list_bytes found ++ rest =
            join-buffer room e index recipes clients out p ∙ worked-buffer code out (list_bytes found) c in
            ap₂ read_list v b
            ∙ list_read newest list store (scan_index newest list store) recipes
            (accepts room e) (scan-is-read room e) 0 (d.0 c).0 (d.0 c).1 rest;
      }

pub scan-and-join : (list store recipes : List ℕ) (clients : Clients) (buffer out : List ℕ) → ScanAndJoin list store recipes clients buffer out
scan-and-join list store recipes clients buffer out =
    let q : scanned_code (scan_answer newest list store (length buffer)) ≡ scan_code newest list store (length buffer) = scan-number list store (length buffer) in
    record {
      scan = (λ z. (scan-done list store (length buffer)).0 (sym q ∙ z), λ n. q ∙ (scan-done list store (length buffer)).1 n);
      join = λ z.
          join-of-scan list store (length buffer) (sym q ∙ z) recipes clients (scanned list store buffer) out (scanned-is list store buffer (sym q ∙ z));
      searches = direct-search-list list store recipes;
    }
