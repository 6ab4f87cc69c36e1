-- The answer of a search as the program's text. Assumes nothing.
use mathlib.Core.Path.{◌≡◌, refl, sym, ap, ap₂, ◌∙◌}
use mathlib.Core.Logic.{◌≢◌}
use mathlib.Core.Bool.{Bool, true, false, cond}
use mathlib.Core.List.{List, [], ◌∷◌, ◌++◌}
use Prim.Native.Nat.{ℕ, zero, suc, ◌+◌, ◌*◌, ◌≤◌}
use native.Mathlib.Omega.{arith}
use lib.ListN.{length, drop, length-append}
use lib.Dec.{eqb}
use borrow.Author.Tests.{ne_eqb, eqb-true, lt-ltb}
use Rattle.spec.specs.Searched.{Searched, ScanRefused, JoinRefused, Found}
use Rattle.spec.specs.Bytes.{splice}
use Rattle.spec.specs.Outcome.{first_number, whole, unless_refused}
use Rattle.spec.specs.Form.{newest}
use Rattle.spec.specs.Join.{Occurrence, one_client, list_bytes, read_list}
use Rattle.spec.specs.Scan.{scan_index, scan_code}
use Rattle.spec.specs.Search.{direct_search, search_join_code, search_code, search_outcome, search_buffer, searched_code, searched_count}
use Rattle.spec.proofs.Codes.{passed-whole}
use Rattle.spec.proofs.ListBytes.{length-list}
use Rattle.spec.proofs.ScanLaws.{newest-scans, scan-reads}
use Rattle.theory.specs.Demand3.{NoScanRefusal, NoJoinRefusal}
use Rattle.theory.specs.SearchList.{is_in}
use Rattle.theory.proofs.Demand3.{scan-done, search-done}
use Rattle.spec.proofs.ListBytes.{Fits}
use Rattle.theory.proofs.ListRead.{read-written, occurrence-fits}
use Rattle.spec.specs.Program.{list_text, refused_text, program_room, search_text}

-- ---- the answer's cases

abbrev pub is_found : Searched → Bool
is_found (ScanRefused code) = false
is_found (JoinRefused size code) = false
is_found (Found size count) = true

-- the answer, from the scan's number and the join's, the index's length and the count
abbrev outcome : ℕ → ℕ → ℕ → ℕ → Searched
outcome s j size count = cond (eqb s 0) (cond (eqb j 0) (Found size count) (JoinRefused size j)) (ScanRefused s)

code-told : (s j size count : ℕ) → searched_code (outcome s j size count) ≡ first_number (whole s ∷ whole j ∷ [])
code-told zero zero size count = refl
code-told zero (suc j) size count = rw (ne_eqb (suc j) 0 (λ z. let y : ⊥ = omega arith in absurd y), lt-ltb 0 (suc j) (omega arith)) refl
code-told (suc s) j size count = rw (ne_eqb (suc s) 0 (λ z. let y : ⊥ = omega arith in absurd y), lt-ltb 0 (suc s) (omega arith)) refl

found-told : (s j size count : ℕ) → is_found (outcome s j size count) ≡ eqb (first_number (whole s ∷ whole j ∷ [])) 0
found-told zero zero size count = refl
found-told zero (suc j) size count =
    let n : suc j ≢ 0 = λ z. let y : ⊥ = omega arith in absurd y in
    rw (ne_eqb (suc j) 0 n, lt-ltb 0 (suc j) (omega arith)) (sym (ne_eqb (suc j) 0 n))
found-told (suc s) j size count =
    let n : suc s ≢ 0 = λ z. let y : ⊥ = omega arith in absurd y in
    rw (ne_eqb (suc s) 0 n, lt-ltb 0 (suc s) (omega arith)) (sym (ne_eqb (suc s) 0 n))

count-told : (s j size count : ℕ) → s ≡ 0 → j ≡ 0 → searched_count (outcome s j size count) ≡ count
count-told s j size count a b = rw (a, b) refl

module _ (store words recipes : List ℕ) where
  abbrev code : ℕ
  code = search_code newest words store recipes one_client program_room program_room

  abbrev answered : Searched
  answered = search_outcome newest words store recipes one_client program_room program_room

  abbrev found : List Occurrence
  found = direct_search words store recipes

  -- the two buffers have 65,536 bytes each
  pub answered-as : (index list : List ℕ) (o r : Searched) → program_room ≡ length index → program_room ≡ length list → r ≡ o
      → r ≡ search_outcome newest words store recipes one_client (length index) (length list) → o ≡ answered
  answered-as index list o r a b k e = sym k ∙ e ∙ ap₂ (search_outcome newest words store recipes one_client) (sym a) (sym b)

  found-is : (o : Searched) → o ≡ answered → is_found o ≡ eqb code 0
  unfolding search_outcome search_code
  found-is o e =
      ap is_found e
      ∙ found-told (scan_code newest words store program_room) (search_join_code newest words store recipes one_client program_room)
      (length (scan_index newest words store)) (length found)

  -- ---- a refusal

  code_is : (o : Searched) → o ≡ answered → searched_code o ≡ code
  unfolding search_outcome search_code
  code_is o e =
      ap searched_code e
      ∙ code-told (scan_code newest words store program_room) (search_join_code newest words store recipes one_client program_room)
      (length (scan_index newest words store)) (length found)

  pub refused-text : (o : Searched) → o ≡ answered → is_found o ≡ false → search_text store words recipes ≡ refused_text (searched_code o)
  unfolding search_text
  refused-text o e f = let z : eqb code 0 ≡ false = sym (found-is o e) ∙ f in rw z (ap refused_text (sym (code_is o e)))

  -- ---- a list

  module _ (z : code ≡ 0) where
    parts : (scan_code newest words store program_room ≡ 0) × (search_join_code newest words store recipes one_client program_room ≡ 0)
    unfolding search_code
    parts =
        let a = passed-whole (scan_code newest words store program_room) _ z in
        (a.0, (passed-whole (search_join_code newest words store recipes one_client program_room) _ a.1).0)

    joins : NoJoinRefusal words store recipes one_client program_room
    joins = (search-done words store recipes one_client program_room).0 parts.1

    pub fits : (o : Occurrence) → is_in o found ≡ true → Fits o
    fits =
        let n : NoScanRefusal words store program_room = (scan-done words store program_room).0 parts.0 in
        occurrence-fits newest words store (scan_index newest words store) recipes n.0
        (scan-reads newest newest-scans words store n.0 n.1 n.3) 0 joins.0 joins.1

    pub few : 9 * length found ≤ program_room
    few = joins.2

    count-is : (o : Searched) → o ≡ answered → searched_count o ≡ length found
    unfolding search_outcome
    count-is o e =
        ap searched_count e
        ∙ count-told (scan_code newest words store program_room) (search_join_code newest words store recipes one_client program_room)
        (length (scan_index newest words store)) (length found)
        parts.0 parts.1

    -- the list buffer begins with the list
    buffer-is : (list : List ℕ) → program_room ≡ length list
        → search_buffer newest words store recipes one_client program_room list ≡ list_bytes found ++ drop (0 + length (list_bytes found)) list
    unfolding search_buffer unless_refused splice
    buffer-is list q =
        let e : search_code newest words store recipes one_client program_room (length list) ≡ 0 =
        ap (search_code newest words store recipes one_client program_room) (sym q) ∙ z in
        rw e refl

  module _ (list list' : List ℕ) (o : Searched) (e : o ≡ answered) (f : is_found o ≡ true) (q : program_room ≡ length list)
      (b : list' ≡ search_buffer newest words store recipes one_client program_room list) where
    passed : code ≡ 0
    passed = eqb-true code 0 (sym (found-is o e) ∙ f)

    rest : List ℕ
    rest = drop (0 + length (list_bytes found)) list

    bytes : list' ≡ list_bytes found ++ rest
    unfolding rest
    bytes = b ∙ buffer-is passed list q

    pub list-whole : 9 * searched_count o ≤ length list'
    list-whole =
        let n : length list' ≡ length (list_bytes found) + length rest = ap length bytes ∙ length-append (list_bytes found) rest in
        omega (arith, n, length-list found, count-is passed o e)

    pub list-text : search_text store words recipes ≡ list_text (read_list (searched_count o) list')
    unfolding search_text
    list-text =
        let r : read_list (searched_count o) list' ≡ found = ap₂ read_list (count-is passed o e) bytes ∙ read-written found rest (fits passed) in
        let z : eqb code 0 ≡ true = sym (found-is o e) ∙ f in
        rw z (ap list_text (sym r))
