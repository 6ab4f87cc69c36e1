-- Queries (request #109): the earliest choice is one, none is earlier, and there is one where there is any. It is enough that the list rises by
-- offset and that no keyword is empty: a keyword then starts behind whatever the list has before the end of the one before it. Assumes nothing.
use mathlib.Core.Path.{◌≡◌, refl, sym, ap, ◌∙◌}
use mathlib.Core.Logic.{◌⊎◌, inl, inr}
use mathlib.Core.Bool.{Bool, true, false, cond, ◌&&◌, or-true, and-false, false≢true}
use mathlib.Core.List.{List, [], ◌∷◌, ◌++◌, append_assoc, append-nil}
use Prim.Native.Nat.{ℕ, zero, suc, ◌+◌, ◌≤◌, ◌<◌}
use native.Mathlib.Nat.{add-zero, zero-add}
use native.Mathlib.Omega.{arith}
use lib.ListN.{length, get_or}
use lib.Dec.{eqb, leb, ltb}
use borrow.Author.Tests.{eqb-true, leb-true, ltb-true, le-leb, lt-ltb, ne_eqb}
use Rattle.spec.specs.Bytes.{each, keep, occurs_at}
use Rattle.spec.specs.Records.{ChunkRecords}
use Rattle.spec.specs.Join.{Occurrence, keyword_at, occurrences_at, listed, join_from, join_file}
use Rattle.spec.specs.Search.{occurrences_in}
use Rattle.spec.specs.Query.{starts_at, is_choice, not_later, earliest, rises, lasting, EarliestChoice}
use Rattle.spec.proofs.Tests.{bool_cases, and_left, and_right, eqb_same, le-or-lt}
use Rattle.spec.proofs.Each.{each-match}

-- ---- tests

both : (a b : Bool) → a ≡ true → b ≡ true → (a && b) ≡ true
both a b e f = rw (e, f)

pub three : (a b c : Bool) → a ≡ true → b ≡ true → c ≡ true → (a && b && c) ≡ true
three a b c e f g = rw (e, f, g)

-- ---- the list

module _ (list : List Occurrence) (h : Occurrence) where
  -- what starts behind the first occurrence is in the rest
  starts-behind : (k o : ℕ) → h.offset < o → starts_at (h ∷ list) k o ≡ true → starts_at list k o ≡ true
  starts-behind k o l e = rw (ne_eqb h.offset o (λ q. let z : ⊥ = omega arith in absurd z), and-false) at e

  -- what is in the rest is in the list
  starts_more : (k o : ℕ) → starts_at list k o ≡ true → starts_at (h ∷ list) k o ≡ true
  starts_more k o e = rw (e, or-true)

  starts-here : starts_at (h ∷ list) h.keyword h.offset ≡ true
  starts-here = rw (eqb_same, eqb_same)

-- nothing starts before the bound of a rising list
rises-bound : (list : List Occurrence) (b k o : ℕ) → rises b list ≡ true → starts_at list k o ≡ true → b ≤ o
rises-bound [] b k o r e = absurd (false≢true e)
rises-bound (h ∷ list) b k o r e = go (bool_cases (eqb h.keyword k && eqb h.offset o)) (rises-bound list h.offset k o)
  where
    first : b ≤ h.offset
    first = leb-true b h.offset (and_left (leb b h.offset) (rises h.offset list) r)

    go : ((eqb h.keyword k && eqb h.offset o) ≡ true) ⊎ ((eqb h.keyword k && eqb h.offset o) ≡ false)
        → (rises h.offset list ≡ true → starts_at list k o ≡ true → h.offset ≤ o) → b ≤ o
    go (inl t) ih = omega (arith, first, eqb-true h.offset o (and_right (eqb h.keyword k) (eqb h.offset o) t))
    go (inr t) ih =
        let later : starts_at list k o ≡ true = rw t at e in
        omega (arith, first, ih (and_right (leb b h.offset) (rises h.offset list) r) later)

rises-from : (list : List Occurrence) (b c : ℕ) → b ≤ c → rises c list ≡ true → rises b list ≡ true
rises-from [] b c l r = refl
rises-from (h ∷ list) b c l r =
    both (leb b h.offset) (rises h.offset list)
    (le-leb b h.offset (omega (arith, leb-true c h.offset (and_left (leb c h.offset) (rises h.offset list) r))))
    (and_right (leb c h.offset) (rises h.offset list) r)

-- ---- choices

module _ (lengths : List ℕ) where
  -- the three parts of a choice
  abbrev pub rest : List Occurrence → ℕ → ℕ → List ℕ → List ℕ → Bool
  rest list k o query offsets = is_choice lengths list (o + get_or lengths k 0) query offsets

  pub choice-bound : (list : List Occurrence) (from k o : ℕ) (query offsets : List ℕ) → is_choice lengths list from (k ∷ query) (o ∷ offsets) ≡ true → from ≤ o
  choice-bound list from k o query offsets e =
      leb-true from o (and_left (leb from o) (starts_at list k o) (and_left (leb from o && starts_at list k o) (rest list k o query offsets) e))

  pub choice-starts : (list : List Occurrence) (from k o : ℕ) (query offsets : List ℕ) → is_choice lengths list from (k ∷ query) (o ∷ offsets) ≡ true
      → starts_at list k o ≡ true
  choice-starts list from k o query offsets e =
      and_right (leb from o) (starts_at list k o) (and_left (leb from o && starts_at list k o) (rest list k o query offsets) e)

  pub choice-rest : (list : List Occurrence) (from k o : ℕ) (query offsets : List ℕ) → is_choice lengths list from (k ∷ query) (o ∷ offsets) ≡ true
      → rest list k o query offsets ≡ true
  choice-rest list from k o query offsets e = and_right (leb from o && starts_at list k o) (rest list k o query offsets) e

  -- a choice may start earlier
  choice-earlier : (list : List Occurrence) (from from' : ℕ) (query offsets : List ℕ) → from' ≤ from → is_choice lengths list from query offsets ≡ true
      → is_choice lengths list from' query offsets ≡ true
  choice-earlier list from from' [] [] l e = refl
  choice-earlier list from from' [] (o ∷ offsets) l e = e
  choice-earlier list from from' (k ∷ query) [] l e = e
  choice-earlier list from from' (k ∷ query) (o ∷ offsets) l e =
      three (leb from' o) (starts_at list k o) (rest list k o query offsets)
      (le-leb from' o (omega (arith, choice-bound list from k o query offsets e)))
      (choice-starts list from k o query offsets e) (choice-rest list from k o query offsets e)

  module _ (list : List Occurrence) (h : Occurrence) where
    -- a choice behind the first occurrence is one in the rest
    choice-behind : (from : ℕ) (query offsets : List ℕ) → h.offset < from → is_choice lengths (h ∷ list) from query offsets ≡ true
        → is_choice lengths list from query offsets ≡ true
    choice-behind from [] [] l e = refl
    choice-behind from [] (o ∷ offsets) l e = e
    choice-behind from (k ∷ query) [] l e = e
    choice-behind from (k ∷ query) (o ∷ offsets) l e =
        let b : from ≤ o = choice-bound (h ∷ list) from k o query offsets e in
        three (leb from o) (starts_at list k o) (rest list k o query offsets) (le-leb from o b)
        (starts-behind list h k o (omega arith) (choice-starts (h ∷ list) from k o query offsets e))
        (choice-behind (o + get_or lengths k 0) query offsets (omega arith) (choice-rest (h ∷ list) from k o query offsets e))

    -- a choice in the rest is one in the list
    choice-more : (from : ℕ) (query offsets : List ℕ) → is_choice lengths list from query offsets ≡ true → is_choice lengths (h ∷ list) from query offsets ≡ true
    choice-more from [] [] e = refl
    choice-more from [] (o ∷ offsets) e = e
    choice-more from (k ∷ query) [] e = e
    choice-more from (k ∷ query) (o ∷ offsets) e =
        three (leb from o) (starts_at (h ∷ list) k o) (rest (h ∷ list) k o query offsets)
        (le-leb from o (choice-bound list from k o query offsets e))
        (starts_more list h k o (choice-starts list from k o query offsets e))
        (choice-more (o + get_or lengths k 0) query offsets (choice-rest list from k o query offsets e))

  -- ---- the earliest

  -- an occurrence may be taken for keyword k
  abbrev serves : ℕ → ℕ → Occurrence → Bool
  serves from k h = eqb h.keyword k && leb from h.offset

  -- what it is where that is known
  abbrev goes : ℕ → ℕ → List ℕ → Occurrence → List Occurrence → Bool → List ℕ
  goes from k query h list taken =
      cond taken (h.offset ∷ earliest lengths (h.offset + get_or lengths k 0) query list) (earliest lengths from (k ∷ query) list)

  -- where the earliest is whole it is a choice
  abbrev Whole : List Occurrence → ℕ → List ℕ → Type 0
  Whole list from query =
      length (earliest lengths from query list) ≡ length query → is_choice lengths list from query (earliest lengths from query list) ≡ true

  pub earliest-whole : (list : List Occurrence) (from : ℕ) (query : List ℕ) → Whole list from query
  unfolding earliest
  earliest-whole list from [] e = refl
  earliest-whole [] from (k ∷ query) e = let z : ⊥ = omega arith in absurd z
  earliest-whole (h ∷ list) from (k ∷ query) e =
      go (bool_cases (serves from k h)) (earliest-whole list (h.offset + get_or lengths k 0) query) (earliest-whole list from (k ∷ query))
    where
      go : (serves from k h ≡ true) ⊎ (serves from k h ≡ false) → Whole list (h.offset + get_or lengths k 0) query → Whole list from (k ∷ query)
          → is_choice lengths (h ∷ list) from (k ∷ query) (earliest lengths from (k ∷ query) (h ∷ list)) ≡ true
      go (inl t) ih _ =
          let q : h.keyword ≡ k = eqb-true h.keyword k (and_left (eqb h.keyword k) (leb from h.offset) t) in
          let n : suc (length (earliest lengths (h.offset + get_or lengths k 0) query list)) ≡ suc (length query) =
          sym (ap (λ (b : Bool). length (goes from k query h list b)) t) ∙ e in
          rw t
          (three (leb from h.offset) (starts_at (h ∷ list) k h.offset) _
          (and_right (eqb h.keyword k) (leb from h.offset) t)
          (ap (λ (j : ℕ). starts_at (h ∷ list) j h.offset) (sym q) ∙ starts-here list h)
          (choice-more list h (h.offset + get_or lengths k 0) query (earliest lengths (h.offset + get_or lengths k 0) query list)
          (ih (omega arith))))
      go (inr t) _ ih =
          let n : length (earliest lengths from (k ∷ query) list) ≡ length (k ∷ query) =
          sym (ap (λ (b : Bool). length (goes from k query h list b)) t) ∙ e in
          rw t (choice-more list h from (k ∷ query) (earliest lengths from (k ∷ query) list) (ih n))

  -- where there is a choice the earliest is whole, and not later
  abbrev First : List Occurrence → ℕ → List ℕ → List ℕ → Type 0
  First list from query offsets =
      (length (earliest lengths from query list) ≡ length query) × (not_later (earliest lengths from query list) offsets ≡ true)

  not-later : (a b : ℕ) (xs ys : List ℕ) → a ≤ b → not_later xs ys ≡ true → not_later (a ∷ xs) (b ∷ ys) ≡ true
  not-later a b xs ys l e = go (le-or-lt b a)
    where
      go : (b ≤ a) ⊎ (a < b) → not_later (a ∷ xs) (b ∷ ys) ≡ true
      go (inl m) = let q : a ≡ b = omega arith in rw (q, eqb_same b, e, or-true)
      go (inr m) = rw (lt-ltb a b m)

  abbrev Finds : List Occurrence → ℕ → ℕ → List ℕ → List ℕ → Type 0
  Finds list b from query offsets =
      rises b list ≡ true → lasting lengths query ≡ true → is_choice lengths list from query offsets ≡ true → First list from query offsets

  pub earliest-first : (list : List Occurrence) (b from : ℕ) (query offsets : List ℕ) → Finds list b from query offsets
  unfolding earliest
  earliest-first list b from [] offsets r p e = (refl, refl)
  earliest-first list b from (k ∷ query) [] r p e = absurd (false≢true e)
  earliest-first [] b from (k ∷ query) (o ∷ offsets) r p e = absurd (false≢true (choice-starts [] from k o query offsets e))
  earliest-first (h ∷ list) b from (k ∷ query) (o ∷ offsets) r p e =
      go (bool_cases (serves from k h)) (earliest-first list h.offset (h.offset + get_or lengths k 0) query offsets)
      (earliest-first list h.offset from (k ∷ query) (o ∷ offsets))
    where
      r' : rises h.offset list ≡ true
      r' = and_right (leb b h.offset) (rises h.offset list) r

      long : 0 < get_or lengths k 0
      long = ltb-true 0 (get_or lengths k 0) (and_left (ltb 0 (get_or lengths k 0)) (lasting lengths query) p)

      starts : starts_at (h ∷ list) k o ≡ true
      starts = choice-starts (h ∷ list) from k o query offsets e

      near : h.offset ≤ o
      near =
          rises-bound (h ∷ list) h.offset k o
          (both (leb h.offset h.offset) (rises h.offset list) (le-leb h.offset h.offset (omega arith)) r') starts

      after : rest list k o query offsets ≡ true
      after = choice-behind list h (o + get_or lengths k 0) query offsets (omega (arith, near, long)) (choice-rest (h ∷ list) from k o query offsets e)

      other : serves from k h ≡ false → starts_at list k o ≡ true
      other t = go₂ (bool_cases (eqb h.keyword k && eqb h.offset o))
        where
          go₂ : ((eqb h.keyword k && eqb h.offset o) ≡ true) ⊎ ((eqb h.keyword k && eqb h.offset o) ≡ false) → starts_at list k o ≡ true
          go₂ (inl u) =
              let q : h.offset ≡ o = eqb-true h.offset o (and_right (eqb h.keyword k) (eqb h.offset o) u) in
              let m : serves from k h ≡ true = both (eqb h.keyword k) (leb from h.offset) (and_left (eqb h.keyword k) (eqb h.offset o) u)
              (le-leb from h.offset (omega (arith, choice-bound (h ∷ list) from k o query offsets e))) in
              absurd (false≢true (sym t ∙ m))
          go₂ (inr u) = rw u at starts

      go : (serves from k h ≡ true) ⊎ (serves from k h ≡ false) → Finds list h.offset (h.offset + get_or lengths k 0) query offsets
          → Finds list h.offset from (k ∷ query) (o ∷ offsets)
          → First (h ∷ list) from (k ∷ query) (o ∷ offsets)
      go (inl t) ih _ =
          let f : First list (h.offset + get_or lengths k 0) query offsets =
          ih r' (and_right (ltb 0 (get_or lengths k 0)) (lasting lengths query) p)
          (choice-earlier list (o + get_or lengths k 0) (h.offset + get_or lengths k 0) query offsets (omega (arith, near)) after) in
          rw t (ap suc f.0, not-later h.offset o (earliest lengths (h.offset + get_or lengths k 0) query list) offsets near f.1)
      go (inr t) _ ih =
          rw t
          (ih r' p
          (three (leb from o) (starts_at list k o) (rest list k o query offsets)
          (le-leb from o (choice-bound (h ∷ list) from k o query offsets e)) (other t) after))

  pub earliest-choice : (list : List Occurrence) (query : List ℕ) → rises 0 list ≡ true → lasting lengths query ≡ true → EarliestChoice lengths query list
  earliest-choice list query r p =
      record {
        found = λ offsets e. (earliest-first list 0 0 query offsets r p e).0;
        chosen = earliest-whole list 0 query;
        least = λ offsets e. (earliest-first list 0 0 query offsets r p e).1;
      }

-- ---- a file's list rises

keep-rises : (t : Bool) (o : Occurrence) (rest : List Occurrence) (b : ℕ) → b ≤ o.offset → rises o.offset rest ≡ true → rises b (keep t o ++ rest) ≡ true
keep-rises true o rest b l r = both (leb b o.offset) (rises o.offset rest) (le-leb b o.offset l) r
keep-rises false o rest b l r = rises-from rest b o.offset l r

occurrences_at-rises : (file : ℕ) (test : ℕ → Bool) (offset a n b : ℕ) (rest : List Occurrence) → b ≤ offset → rises offset rest ≡ true
    → rises b (each (λ k. keep (test k) (record { file = file; offset = offset; keyword = k })) a n ++ rest) ≡ true
occurrences_at-rises file test offset a zero b rest l r = rises-from rest b offset l r
occurrences_at-rises file test offset a (suc n) b rest l r =
    rw (append_assoc)
    (keep-rises (test a) (record { file = file; offset = offset; keyword = a }) _ b l
    (occurrences_at-rises file test offset (suc a) n offset rest (omega arith) r))

module _ (file count base : ℕ) (test : ℕ → ℕ → Bool) where
  each-rises : (a n : ℕ) (rest : List Occurrence) → rises (base + (a + n)) rest ≡ true
      → rises (base + a) (each (λ at. occurrences_at file count (test at) (base + at)) a n ++ rest) ≡ true
  unfolding occurrences_at
  each-rises a zero rest r = rises-from rest (base + a) (base + (a + 0)) (omega arith) r
  each-rises a (suc n) rest r =
      let e : base + (suc a + n) ≡ base + (a + suc n) = omega arith in
      let more : List Occurrence = each (λ at. occurrences_at file count (test at) (base + at)) (suc a) n ++ rest in
      rw (append_assoc)
      (occurrences_at-rises file (test a) (base + a) 0 count (base + a) more (omega arith)
      (rises-from more (base + a) (base + suc a) (omega arith) (each-rises (suc a) n rest (ap (λ (m : ℕ). rises m rest) e ∙ r))))

join-rises : (file : ℕ) (keywords : List (List ℕ)) (base : ℕ) (chunks : List ChunkRecords) → rises base (join_from file keywords base chunks) ≡ true
unfolding join_from
join-rises file keywords base [] = refl
join-rises file keywords base (here ∷ rest) =
    ap (λ (m : ℕ). rises m (join_from file keywords base (here ∷ rest))) (sym (add-zero base))
    ∙ each-rises file (length keywords) base (listed keywords here rest) 0 here.size (join_from file keywords (base + here.size) rest)
    (rw zero-add (join-rises file keywords (base + here.size) rest))

pub file-earliest : (lengths query : List ℕ) (file : ℕ) (keywords : List (List ℕ)) (chunks : List ChunkRecords) → lasting lengths query ≡ true
    → EarliestChoice lengths query (join_file file keywords chunks)
file-earliest lengths query file keywords chunks p = earliest-choice lengths (join_file file keywords chunks) query (join-rises file keywords 0 chunks) p

-- so does that of a direct search
pub search-rises : (file : ℕ) (keywords : List (List ℕ)) (text : List ℕ) → rises 0 (occurrences_in file keywords text) ≡ true
unfolding occurrences_in
search-rises file keywords text =
    ap (rises 0) (each-match _ _ 0 0 (length text) (λ p l. rw (zero-add, zero-add)) ∙ sym (append-nil _))
    ∙ each-rises file (length keywords) 0 (λ at k. occurs_at (keyword_at keywords k) text at) 0 (length text) [] refl

pub text-earliest : (lengths query : List ℕ) (file : ℕ) (keywords : List (List ℕ)) (text : List ℕ) → lasting lengths query ≡ true
    → EarliestChoice lengths query (occurrences_in file keywords text)
text-earliest lengths query file keywords text p = earliest-choice lengths (occurrences_in file keywords text) query (search-rises file keywords text) p
