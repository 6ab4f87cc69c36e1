-- A scan and then a join of what it wrote is the search, for code that puts the two together by their contracts (demand 3). Assumes nothing.
use mathlib.Core.Path.{◌≡◌, refl, sym, ap, ◌∙◌}
use mathlib.Core.Logic.{◌≢◌}
use mathlib.Core.Bool.{Bool, true, false, false≢true}
use mathlib.Core.List.{List, [], ◌∷◌}
use Prim.Native.Nat.{ℕ, zero, suc}
use native.Mathlib.Omega.{arith}
use lib.ListN.{length, take}
use borrow.Author.Tests.{ne_eqb, lt-ltb}
use Rattle.spec.specs.Outcome.{Outcome, Done, Refused, first_number, whole, code_of, value_of, answer, unless_refused}
use Rattle.spec.specs.Scanned.{Scanned}
use Rattle.spec.specs.Searched.{ScanRefused, JoinRefused, Found}
use Rattle.spec.specs.Form.{newest, form_of}
use Rattle.spec.specs.Join.{Clients, join_outcome, join_buffer, join_tally}
use Rattle.spec.specs.Trie.{scan_moves}
use Rattle.spec.specs.Scan.{scan_index, scan_code, scan_outcome, with_moves, scan_answer, scan_buffer, scanned_length}
use Rattle.spec.specs.Search.{direct_search, search_join_code, search_code, search_outcome, search_buffer, search_tally}
use Rattle.theory.proofs.Demand3.{code-of-answer, value-of-answer, join-outcome, join-buffer, join-tally, scanned-is}

-- ---- an answer by its cases

done-code : (code value n : ℕ) → answer code value ≡ Done n → code ≡ 0
done-code code value n e = sym (code-of-answer code value) ∙ ap code_of e

done-value : (code value n : ℕ) → answer code value ≡ Done n → value ≡ n
done-value code value n e = sym (value-of-answer code value (done-code code value n e)) ∙ ap value_of e

refused-code : (code value c : ℕ) → answer code value ≡ Refused c → code ≡ c
refused-code code value c e = sym (code-of-answer code value) ∙ ap code_of e

is_done : Outcome → Bool
is_done (Done n) = true
is_done (Refused c) = false

refused-some : (code value c : ℕ) → answer code value ≡ Refused c → code ≢ 0
unfolding answer is_done
refused-some zero value c e z = false≢true (sym (ap is_done e))
refused-some (suc code) value c e z = omega arith

-- ---- a scan's answer without its moves

outcome_of : Scanned → Outcome
outcome_of (Scanned.Done size moves) = Done size
outcome_of (Scanned.Refused code) = Refused code

without-moves : (o : Outcome) (moves : ℕ) → outcome_of (with_moves o moves) ≡ o
unfolding outcome_of
without-moves (Done size) moves = refl
without-moves (Refused code) moves = refl

scan-outcome : (list store : List ℕ) (room : ℕ) (s : Scanned) → scan_answer newest list store room ≡ s → scan_outcome newest list store room ≡ outcome_of s
unfolding scan_answer
scan-outcome list store room s e = sym (without-moves (scan_outcome newest list store room) (scan_moves list store)) ∙ ap outcome_of e

-- ---- the search

module _ (list store recipes : List ℕ) (clients : Clients) (buffer out : List ℕ) where
  pub search-scan-refused : (c : ℕ) → scan_answer newest list store (length buffer) ≡ Scanned.Refused c
      → (ScanRefused c ≡ search_outcome newest list store recipes clients (length buffer) (length out))
      × (out ≡ search_buffer newest list store recipes clients (length buffer) out)
      × (clients.tally ≡ search_tally newest list store recipes clients (length buffer) (length out))
  unfolding scan_outcome outcome_of search_outcome search_buffer search_tally search_code unless_refused
  search-scan-refused c e =
      let code : ℕ = scan_code newest list store (length buffer) in
      let o : answer code (length (scan_index newest list store)) ≡ Refused c = scan-outcome list store (length buffer) (Scanned.Refused c) e in
      let p : code ≡ c = refused-code code (length (scan_index newest list store)) c o in
      let q : code ≢ 0 = refused-some code (length (scan_index newest list store)) c o in
      (rw (ne_eqb code 0 q, p), rw (lt-ltb 0 code (omega arith), ne_eqb code 0 q), rw (lt-ltb 0 code (omega arith), ne_eqb code 0 q))

  -- the scan did its work and reported n bytes
  module _ (n moves : ℕ) (e : scan_answer newest list store (length buffer) ≡ Scanned.Done n moves) where
    scan-done : answer (scan_code newest list store (length buffer)) (length (scan_index newest list store)) ≡ Done n
    unfolding scan_outcome outcome_of
    scan-done = scan-outcome list store (length buffer) (Scanned.Done n moves) e

    pub scan-code : scan_code newest list store (length buffer) ≡ 0
    scan-code = done-code (scan_code newest list store (length buffer)) (length (scan_index newest list store)) n scan-done

    pub scan-length : length (scan_index newest list store) ≡ n
    scan-length = done-value (scan_code newest list store (length buffer)) (length (scan_index newest list store)) n scan-done

    -- its first n bytes are the index
    pub scanned-front : take n (scan_buffer newest list store buffer) ≡ scan_index newest list store
    scanned-front =
        ap (λ (s : Scanned). take (scanned_length s) (scan_buffer newest list store buffer)) (sym e)
        ∙ scanned-is list store buffer scan-code

    -- what it wrote: the first n bytes of its buffer
    abbrev index : List ℕ
    index = take n (scan_buffer newest list store buffer)

    answered : join_outcome (form_of index) index recipes clients (length out)
        ≡ answer (search_join_code newest list store recipes clients (length out)) (length (direct_search list store recipes))
    answered = join-outcome list store (length buffer) scan-code index recipes clients (length out) scanned-front

    pub search-join-refused : (c : ℕ) → join_outcome (form_of index) index recipes clients (length out) ≡ Refused c
        → JoinRefused n c ≡ search_outcome newest list store recipes clients (length buffer) (length out)
    unfolding search_outcome
    search-join-refused c f =
        let code : ℕ = search_join_code newest list store recipes clients (length out) in
        let count : ℕ = length (direct_search list store recipes) in
        let g : answer code count ≡ Refused c = sym answered ∙ f in
        let p : code ≡ c = refused-code code count c g in
        let q : code ≢ 0 = refused-some code count c g in
        rw (scan-code, ne_eqb code 0 q, p, scan-length)

    pub search-found : (m : ℕ) → join_outcome (form_of index) index recipes clients (length out) ≡ Done m
        → Found n m ≡ search_outcome newest list store recipes clients (length buffer) (length out)
    unfolding search_outcome
    search-found m f =
        let code : ℕ = search_join_code newest list store recipes clients (length out) in
        let count : ℕ = length (direct_search list store recipes) in
        let g : answer code count ≡ Done m = sym answered ∙ f in
        rw (scan-code, done-code code count m g, scan-length, done-value code count m g)

    last_code : (c : ℕ) → first_number (whole 0 ∷ whole c ∷ []) ≡ c
    last_code zero = refl
    last_code (suc c) = rw (lt-ltb 0 (suc c) (omega arith))

    -- whatever the join answers, its buffer is the search's, and so is its tally
    pub search-list : join_buffer (form_of index) index recipes clients out ≡ search_buffer newest list store recipes clients (length buffer) out
    unfolding search_buffer search_code
    search-list =
        join-buffer list store (length buffer) scan-code index recipes clients out scanned-front
        ∙ rw (scan-code, last_code (search_join_code newest list store recipes clients (length out)))

    pub search-tallied : join_tally (form_of index) index recipes clients (length out)
        ≡ search_tally newest list store recipes clients (length buffer) (length out)
    unfolding search_tally search_code
    search-tallied =
        join-tally list store (length buffer) scan-code index recipes clients (length out) scanned-front
        ∙ rw (scan-code, last_code (search_join_code newest list store recipes clients (length out)))
