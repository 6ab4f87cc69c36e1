-- A body begun: the records of the keywords below k stand without their lists of offsets; with the lists of all, each at its place, it is the body.
-- By induction on k: what is left of the body is written behind them. Assumes nothing.
use mathlib.Core.Path.{◌≡◌, refl, sym, ap, ap₂, ◌∙◌}
use mathlib.Core.Logic.{⊎_elim}
use mathlib.Core.List.{List, ◌++◌}
use Prim.Native.Nat.{ℕ, zero, suc, ◌+◌, ◌-◌, ◌≤◌, ◌<◌}
use native.Mathlib.Nat.{zero-add}
use native.Mathlib.Numerals.{add-one}
use native.Mathlib.Omega.{arith}
use borrow.Rule.Slice.PartMut.{mid_of, put_mid}
use borrow.Author.Tests.{lt-ltb, le-ltb}
use lib.ListN.{length, set, replicate, length-replicate, length-set, length-append, length-take, length-drop}
use lib.Seq.{get_or-set_same, get_or-set_other, ext_get_or}
use Rattle.spec.specs.Bytes.{splice, written}
use Rattle.spec.specs.Form.{newest}
use Rattle.spec.specs.Keywords.{folded_keywords}
use Rattle.spec.specs.Scan.{scan_body}
use Rattle.spec.proofs.Tests.{le-or-lt}
use Rattle.spec.proofs.Splices.{splice-nil, splice-splice, splice-tail, length-splice}
use Rattle.spec.proofs.Tabulated.{tabulated, length-tabulated, tabulated-at}
use Rattle.keywords.specs.declared.Keywords.{Keywords}
use Rattle.keywords.specs.Parsed.{Reads}
use Rattle.records.specs.Bodies.{start_of, list_of, place_of, list_place, started_of}
use Rattle.offset_lists.specs.Patches.{patched}
use Rattle.offset_lists.specs.Runs.{cursor}
use Rattle.records.specs.declared.Started.{Started}
use Rattle.records.proofs.BodyLaws.{body_rest, rest-start, rest-step, rest-lengths, rest-none, keywords-count, keywords-few}
use Rattle.offset_lists.proofs.Patching.{patched-length, patched-behind}
use Rattle.logs.proofs.Tallying.{zeros}

pub part_room : (out : List ℕ) (at n : ℕ) → at + n ≤ length out → n ≤ length (mid_of at (length out - at) out)
part_room out at n h = simp (length-take, length-drop) (omega arith)

-- three runs, one behind the other
three : (l : List ℕ) (at : ℕ) (u v w : List ℕ) → at + length u + length v ≤ length l
    → splice (splice (splice l at u) (at + length u) v) (at + length u + length v) w ≡ splice l at (u ++ v ++ w)
three l at u v w h =
    let e : length (splice l at u) ≡ length l = length-splice l at u (omega arith) in
    let n : at + length u + length v ≡ at + length (u ++ v) = omega (arith, length-append u v) in
    ap (λ (x : List ℕ). splice x (at + length u + length v) w) (splice-splice l at u v (omega arith))
    ∙ ap (λ (x : ℕ). splice (splice l at (u ++ v)) x w) n
    ∙ splice-splice l at (u ++ v) w (omega arith)

module _ (list chunk : List ℕ) where
  -- the cursors of the keywords below k are set
  pub record Cursors (k : ℕ) (cursors : List ℕ) : Type 0 where
    pub placed : length cursors ≡ 16
    pub set_below : (j : ℕ) → j < k → cursor cursors j ≡ list_place list chunk j
    pub none : (j : ℕ) → k ≤ j → cursor cursors j ≡ 0

  pub cursors-start : Cursors 0 (replicate 16 0)
  cursors-start = record {
    placed = length-replicate {A = ℕ} 16 0;
    set_below = λ j h. let z : ⊥ = omega arith in absurd z;
    none = λ j h. zeros 16 j;
  }

module _ (list : List ℕ) (words : Keywords) (r : Reads list words) (chunk : List ℕ) where
  abbrev place : ℕ → ℕ
  place = place_of list chunk

  abbrev start : ℕ → List ℕ
  start = start_of list chunk

  abbrev lists : ℕ → List ℕ
  lists = list_of list chunk

  -- where a list goes
  abbrev behind : ℕ → ℕ
  behind k = place k + length (start k)

  known : (k : ℕ) → k < words.count → k < length (folded_keywords list)
  known k h = omega (arith, keywords-count list words r)

  pub place-start : place 0 ≡ 0
  unfolding place_of
  place-start = refl

  pub place-next : (k : ℕ) → place (k + 1) ≡ place k + length (start k) + length (lists k)
  unfolding place_of
  place-next k = rw (add-one k)

  -- what stands before a record and what is left are the body
  pub place-left : (k : ℕ) → k ≤ words.count → place k + length (body_rest list chunk k) ≡ length (scan_body newest list chunk)
  unfolding place_of
  place-left zero h = zero-add _ ∙ ap length (rest-start list chunk)
  place-left (suc k) h =
      let e : body_rest list chunk (k + 1) ≡ body_rest list chunk (suc k) = ap (body_rest list chunk) (add-one k) in
      omega (arith, place-left k (omega arith), rest-lengths list chunk k (known k (omega arith)), ap length e)

  -- a record ends inside the body
  pub place-most : (k : ℕ) → k < words.count → place k + length (start k) + length (lists k) ≤ length (scan_body newest list chunk)
  place-most k h = omega (arith, place-left (k + 1) (omega arith), place-next k)

  pub place-all : place words.count ≡ length (scan_body newest list chunk)
  place-all = omega (arith, place-left words.count (omega arith), ap length (rest-none list words r chunk words.count (omega arith)))

  -- a record starts behind those before it
  place-order : (n j : ℕ) → place (j + 1) ≤ place (j + 1 + n)
  unfolding place_of
  place-order zero j = let e : j + 1 + 0 ≡ j + 1 = omega arith in rw e (omega arith)
  place-order (suc n) j =
      let e : j + 1 + suc n ≡ j + 1 + n + 1 = omega arith in
      rw e (omega (arith, place-order n j, place-next (j + 1 + n)))

  pub place-behind : (j k : ℕ) → j < k → place j + length (start j) + length (lists j) ≤ place k
  place-behind j k h =
      let e : j + 1 + (k - (j + 1)) ≡ k = omega arith in
      omega (arith, place-next j, place-order (k - (j + 1)) j, ap place e)

  -- ---- the starts, then the lists

  module _ (before : List ℕ) (fits : length (scan_body newest list chunk) ≤ length before) where
    -- the starts of the keywords below k
    abbrev pub begun : ℕ → List ℕ
    begun k = patched k place start before

    pub begun-length : (k : ℕ) → k ≤ words.count → length (begun k) ≡ length before
    begun-length k h = patched-length k place start before (λ j i. omega (arith, place-most j (omega arith)))

    pub begun-start : before ≡ begun 0
    unfolding patched
    begun-start = refl

    pub begun-turn : (k : ℕ) (out last : List ℕ) (size : ℕ) → k < words.count → out ≡ begun k → size ≡ place k
        → last ≡ splice (mid_of size (length out - size) out) 0 (start k) → put_mid size (length out - size) out last ≡ begun (k + 1)
    unfolding patched
    begun-turn k out last size h e p w =
        splice-tail size out last (start k) (omega (arith, ap length e, begun-length k (omega arith), place-most k h)) w
        ∙ ap₂ {C = List ℕ} (λ x n. splice x n (start k)) e p ∙ rw (add-one k) refl

    filled-length : (k : ℕ) → k ≤ words.count → length (patched k behind lists (begun k)) ≡ length before
    filled-length k h =
        patched-length k behind lists (begun k) (λ j i. omega (arith, place-most j (omega arith), begun-length k h)) ∙ begun-length k h

    -- with the lists of the keywords below k and what is left behind them it is the body
    filled-left : (k : ℕ) → k ≤ words.count
        → splice (patched k behind lists (begun k)) (place k) (body_rest list chunk k) ≡ written before (scan_body newest list chunk)
    unfolding patched place_of
    filled-left zero h = ap (splice before 0) (rest-start list chunk)
    filled-left (suc k) h =
        let here : k < words.count = omega arith in
        let w : length before ≡ length (begun k) = sym (begun-length k (omega arith)) in
        let t : body_rest list chunk k ≡ start k ++ lists k ++ body_rest list chunk (suc k) = rw (← add-one k) (rest-step list chunk k (known k here)) in
        ap (λ (x : List ℕ). splice (splice x (behind k) (lists k)) (behind k + length (lists k)) (body_rest list chunk (suc k)))
        (patched-behind k behind lists (begun k) (place k) (start k) (λ j i. place-behind j k i) (omega (arith, place-most k here)))
        ∙ three (patched k behind lists (begun k)) (place k) (start k) (lists k) (body_rest list chunk (suc k))
        (omega (arith, filled-length k (omega arith), place-most k here))
        ∙ ap (splice (patched k behind lists (begun k)) (place k)) (sym t)
        ∙ filled-left k (omega arith)

    pub body-begun : patched words.count behind lists (begun words.count) ≡ written before (scan_body newest list chunk)
    body-begun =
        let n : ℕ = words.count in
        sym (splice-nil (patched n behind lists (begun n)) (place n))
        ∙ ap (splice (patched n behind lists (begun n)) (place n)) (sym (rest-none list words r chunk n (omega arith)))
        ∙ filled-left n (omega arith)

  -- ---- the cursors

  pub list-place : (k : ℕ) → k < words.count → list_place list chunk k ≡ place k + length (start k)
  unfolding list_place
  list-place k h = rw (lt-ltb k (length (folded_keywords list)) (known k h))

  pub no-list-place : (k : ℕ) → words.count ≤ k → list_place list chunk k ≡ 0
  unfolding list_place
  no-list-place k h = rw (le-ltb k (length (folded_keywords list)) (omega (arith, keywords-count list words r)))

  pub cursors-turn : (k : ℕ) (cursors : List ℕ) (end : ℕ) → k < words.count → end ≡ place k + length (start k) → Cursors list chunk k cursors
      → Cursors list chunk (k + 1) (set cursors k end)
  cursors-turn k cursors end h e c = record {
    placed = length-set cursors k end ∙ c.placed;
    set_below = λ j i. ⊎_elim
        (λ (l : k ≤ j). let z : j ≡ k = omega arith in
        rw (z, get_or-set_same cursors k end 0 (omega (arith, c.placed, keywords-few list words r))) (e ∙ sym (list-place k h)))
        (λ (l : j < k). get_or-set_other cursors k j end 0 (omega arith) ∙ c.set_below j l)
        (le-or-lt k j);
    none = λ j i. get_or-set_other cursors k j end 0 (omega arith) ∙ c.none j (omega arith);
  }

  -- where each list goes, once all are set
  pub started-is : (k size : ℕ) (cursors : List ℕ) → k ≤ words.count → words.count ≤ k → size ≡ place k → Cursors list chunk k cursors
      → record { size = size; cursors = cursors } ≡ started_of list chunk
  unfolding started_of
  started-is k size cursors l m e c =
      let z : k ≡ words.count = omega arith in
      let s : size ≡ length (scan_body newest list chunk) = e ∙ ap place z ∙ place-all in
      let f : ℕ → ℕ = list_place list chunk in
      let at : (j : ℕ) → cursor cursors j ≡ list_place list chunk j = λ j. ⊎_elim
      (λ (h : k ≤ j). c.none j h ∙ sym (no-list-place j (omega arith))) (λ (h : j < k). c.set_below j h) (le-or-lt k j) in
      let same : cursors ≡ tabulated f 0 16 = ext_get_or 0 cursors (tabulated f 0 16) (c.placed ∙ sym (length-tabulated f 0 16))
      (λ j h. at j ∙ sym (tabulated-at f 0 16 j 0 (omega (arith, c.placed)) ∙ ap f (zero-add j))) in
      λ i. record { size = s i; cursors = same i }

-- what is known of a body begun, number by number
module _ (list chunk : List ℕ) (s : Started) (e : s ≡ started_of list chunk) where
  pub started-size : s.size ≡ length (scan_body newest list chunk)
  unfolding started_of
  started-size = ap (λ (x : Started). x.size) e

  pub started-length : length s.cursors ≡ 16
  unfolding started_of
  started-length = ap (λ (x : Started). length x.cursors) e ∙ length-tabulated (list_place list chunk) 0 16

  pub started-at : (k : ℕ) → k < 16 → cursor s.cursors k ≡ list_place list chunk k
  unfolding started_of
  started-at k h = ap (λ (x : Started). cursor x.cursors k) e ∙ tabulated-at (list_place list chunk) 0 16 k 0 h ∙ ap (list_place list chunk) (zero-add k)
