-- The scan's and the join's promises give the search's: the join is handed the first n bytes of the scan's buffer, which are the index, so
-- demand 3's laws (theory, SearchLaws) turn its answer, its buffer and its tally into those of the direct search. Assumes nothing.
use mathlib.Core.Path.{◌≡◌, refl, sym, ap, ◌∙◌}
use mathlib.Core.List.{List}
use Prim.Native.Nat.{ℕ, ◌≤◌}
use native.Mathlib.Omega.{arith}
use lib.ListN.{length, take, length-take}
use Rattle.spec.specs.Outcome.{Outcome, Done, Refused}
use Rattle.spec.specs.Scanned as Scanned
use Rattle.spec.specs.Searched.{Searched, ScanRefused}
use Rattle.spec.specs.Form.{newest, form_of}
use Rattle.spec.specs.Join.{Clients, join_outcome, join_buffer, join_tally}
use Rattle.spec.specs.Scan.{scan_answer, scan_buffer}
use Rattle.spec.specs.Search.{search_outcome, search_buffer, search_tally}
use Rattle.theory.proofs.SearchLaws.{scan-length, scanned-front, search-scan-refused, search-join-refused, search-found, search-list, search-tallied}
use Rattle.search.specs.Searching.{after_join, Joins}

-- a join's answer r, known to be the definition's and to be the case o, as a search's
pub join-answered : (index recipes : List ℕ) (clients : Clients) (out out' tally : List ℕ) (o r : Outcome) → r ≡ o
    → r ≡ join_outcome (form_of index) index recipes clients (length out)
    → out' ≡ join_buffer (form_of index) index recipes clients out
    → tally ≡ join_tally (form_of index) index recipes clients (length out)
    → Joins index recipes clients out out' (after_join (length index) o) tally
join-answered index recipes clients out out' tally o r k e b t =
    record { answered = ap (after_join (length index)) (sym k ∙ e); listed = b; tallied = t }

module _ (list store recipes : List ℕ) (clients : Clients) (buffer out : List ℕ) where
  -- what a search promises: its answer, its two buffers, and the tally after it
  abbrev Searches : List ℕ → List ℕ → Searched → List ℕ → Type 0
  Searches index' out' r tally =
      (r ≡ search_outcome newest list store recipes clients (length buffer) (length out))
      × (index' ≡ scan_buffer newest list store buffer)
      × (out' ≡ search_buffer newest list store recipes clients (length buffer) out)
      × (tally ≡ search_tally newest list store recipes clients (length buffer) (length out))

  -- the scan refused
  pub not-scanned : (index' : List ℕ) (c : ℕ) → index' ≡ scan_buffer newest list store buffer → scan_answer newest list store (length buffer) ≡ Scanned.Refused c
      → Searches index' out (ScanRefused c) clients.tally
  not-scanned index' c q e =
      let r = search-scan-refused list store recipes clients buffer out c e in
      (r.0, q, r.1, r.2)

  -- the scan wrote n bytes
  module _ (n moves : ℕ) (e : scan_answer newest list store (length buffer) ≡ Scanned.Done n moves)
      (index' : List ℕ) (q : index' ≡ scan_buffer newest list store buffer) where
    pub front_length : n ≡ length (take n index')
    front_length =
        rw q
        (sym (scan-length list store recipes clients buffer out n moves e)
        ∙ sym (ap length (scanned-front list store recipes clients buffer out n moves e)))

    pub front-room : n ≤ length index'
    front-room = let h : n ≡ length (take n index') = front_length in omega (arith, length-take n index')

    -- a join of bytes, by the form that their mark names
    abbrev join_of : List ℕ → Outcome
    join_of index = join_outcome (form_of index) index recipes clients (length out)

    answer-is : (o : Outcome) → join_of (take n (scan_buffer newest list store buffer)) ≡ o
        → after_join n o ≡ search_outcome newest list store recipes clients (length buffer) (length out)
    answer-is (Done m) f = search-found list store recipes clients buffer out n moves e m f
    answer-is (Refused c) f = search-join-refused list store recipes clients buffer out n moves e c f

    answered-is : after_join (length (take n index')) (join_of (take n index')) ≡ search_outcome newest list store recipes clients (length buffer) (length out)
    answered-is =
        ap (λ (m : ℕ). after_join m (join_of (take n index'))) (sym front_length)
        ∙ ap (λ (i : List ℕ). after_join n (join_of (take n i))) q
        ∙ answer-is (join_of (take n (scan_buffer newest list store buffer))) refl

    -- and its join answered
    pub scanned-joined : (out' : List ℕ) (r : Searched) (tally : List ℕ) → Joins (take n index') recipes clients out out' r tally → Searches index' out' r tally
    scanned-joined out' r tally j = (
      j.answered ∙ answered-is,
      q,
      j.listed ∙ rw q (search-list list store recipes clients buffer out n moves e),
      j.tallied ∙ rw q (search-tallied list store recipes clients buffer out n moves e),
    )
