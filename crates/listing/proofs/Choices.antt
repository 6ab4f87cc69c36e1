-- A choice carried along a list of occurrences: along two lists it is carried along one after the other, a complete one stays, and from nothing it
-- becomes the earliest choice. Assumes nothing.
use mathlib.Core.Path.{◌≡◌, refl, sym, ap, ◌∙◌, subst}
use mathlib.Core.Logic.{◌⊎◌, inl, inr}
use mathlib.Core.Bool.{Bool, true, false, ◌&&◌}
use mathlib.Core.List.{List, [], ◌∷◌, ◌++◌, append-nil, append_assoc}
use Prim.Native.Nat.{ℕ, suc, ◌+◌, ◌≤◌, ◌<◌}
use native.Mathlib.Numerals.{add-one}
use native.Mathlib.Omega.{arith}
use lib.ListN.{length, get_or, set, take, drop, length-append, length-set, drop_of_length-le}
use lib.Seq.{drop-cons, take-suc-set}
use lib.Dec.{eqb, leb}
use borrow.Author.Tests.{lt-ltb, le-ltb, le-leb, lt-leb, eq-eqb, ne_eqb, eqb-true}
use Rattle.spec.specs.Join.{Occurrence}
use Rattle.spec.specs.Query.{earliest}
use Rattle.spec.proofs.Tests.{bool_cases, le-or-lt, and_left}
use Rattle.listing.specs.declared.Choice.{Choice}
use Rattle.listing.specs.Choosing.{advanced, chosen_from, no_choice, Chosen}

-- the occurrence is one that the choice may take next, where there is a next
abbrev fits : List ℕ → Choice → Occurrence → Bool
fits query c o = eqb o.keyword (get_or query c.step 0) && leb c.from o.offset

-- the choice with it
abbrev extended : List ℕ → Choice → Occurrence → Choice
extended lengths c o = record { step = c.step + 1; from = o.offset + get_or lengths o.keyword 0; offsets = set c.offsets c.step o.offset }

module _ (lengths query : List ℕ) where
  pub chosen-append : (xs ys : List Occurrence) (c : Choice)
      → chosen_from lengths query (xs ++ ys) c ≡ chosen_from lengths query ys (chosen_from lengths query xs c)
  unfolding chosen_from
  chosen-append [] ys c = refl
  chosen-append (o ∷ xs) ys c = chosen-append xs ys (advanced lengths query c o)

  pub chosen_none : (c : Choice) → chosen_from lengths query [] c ≡ c
  unfolding chosen_from
  chosen_none c = refl

  pub chosen-cons : (o : Occurrence) (xs : List Occurrence) (c : Choice)
      → chosen_from lengths query (o ∷ xs) c ≡ chosen_from lengths query xs (advanced lengths query c o)
  unfolding chosen_from
  chosen-cons o xs c = refl

  -- one occurrence: none is asked for, it does not fit, it is taken
  pub advanced-done : (c : Choice) (o : Occurrence) → length query ≤ c.step → advanced lengths query c o ≡ c
  unfolding advanced
  advanced-done c o h = rw (le-ltb c.step (length query) h)

  pub advanced-skip : (c : Choice) (o : Occurrence) → c.step < length query → fits query c o ≡ false → advanced lengths query c o ≡ c
  unfolding advanced
  advanced-skip c o h t = rw (lt-ltb c.step (length query) h, t)

  pub advanced-take : (c : Choice) (o : Occurrence) → c.step < length query → fits query c o ≡ true → advanced lengths query c o ≡ extended lengths c o
  unfolding advanced
  advanced-take c o h t = rw (lt-ltb c.step (length query) h, t)

  -- the same, by the tests of the code
  pub advanced-other : (c : Choice) (o : Occurrence) → c.step < length query → (o.keyword ≡ get_or query c.step 0 → ⊥) → advanced lengths query c o ≡ c
  advanced-other c o h k = advanced-skip c o h (rw (ne_eqb o.keyword (get_or query c.step 0) k))

  pub advanced-early : (c : Choice) (o : Occurrence) → c.step < length query → o.keyword ≡ get_or query c.step 0 → o.offset < c.from
      → advanced lengths query c o ≡ c
  advanced-early c o h k l = advanced-skip c o h (rw (eq-eqb o.keyword (get_or query c.step 0) k, lt-leb c.from o.offset l))

  pub advanced-next : (c : Choice) (o : Occurrence) → c.step < length query → o.keyword ≡ get_or query c.step 0 → c.from ≤ o.offset
      → advanced lengths query c o ≡ extended lengths c o
  advanced-next c o h k l = advanced-take c o h (rw (eq-eqb o.keyword (get_or query c.step 0) k, le-leb c.from o.offset l))

  pub chosen-done : (xs : List Occurrence) (c : Choice) → length query ≤ c.step → chosen_from lengths query xs c ≡ c
  chosen-done [] c h = chosen_none c
  chosen-done (o ∷ xs) c h = chosen-cons o xs c ∙ ap (chosen_from lengths query xs) (advanced-done c o h) ∙ chosen-done xs c h

-- ---- the earliest choice

earliest-none : (lengths : List ℕ) (from : ℕ) (query : List ℕ) → earliest lengths from query [] ≡ []
unfolding earliest
earliest-none lengths from [] = refl
earliest-none lengths from (k ∷ query) = refl

earliest-done : (lengths : List ℕ) (from : ℕ) (query : List ℕ) (list : List Occurrence) → query ≡ [] → earliest lengths from query list ≡ []
unfolding earliest
earliest-done lengths from query list e = rw e refl

module _ (lengths lengths' query : List ℕ) (same : (k : ℕ) → get_or lengths k 0 ≡ get_or lengths' k 0) (few : length query ≤ 8) where
  -- what a choice still takes from the list
  abbrev coming : Choice → List Occurrence → List ℕ
  coming c list = earliest lengths' c.from (drop c.step query) list

  coming-skip : (c : Choice) (o : Occurrence) (list : List Occurrence) → c.step < length query → fits query c o ≡ false → coming c (o ∷ list) ≡ coming c list
  unfolding earliest
  coming-skip c o list h t = rw (drop-cons query c.step 0 h, t)

  coming-first : (c : Choice) (o : Occurrence) (list : List Occurrence) → c.step < length query → fits query c o ≡ true
      → coming c (o ∷ list) ≡ (o.offset ∷ []) ++ earliest lengths' (o.offset + get_or lengths' (get_or query c.step 0) 0) (drop (suc c.step) query) list
  unfolding earliest
  coming-first c o list h t = rw (drop-cons query c.step 0 h, t)

  coming-take : (c : Choice) (o : Occurrence) (list : List Occurrence) → c.step < length query → fits query c o ≡ true
      → coming c (o ∷ list) ≡ (o.offset ∷ []) ++ coming (extended lengths c o) list
  coming-take c o list h t =
      let k : o.keyword ≡ get_or query c.step 0 =
      eqb-true o.keyword (get_or query c.step 0) (and_left (eqb o.keyword (get_or query c.step 0)) (leb c.from o.offset) t) in
      let e : get_or lengths' (get_or query c.step 0) 0 ≡ get_or lengths o.keyword 0 = ap (λ (j : ℕ). get_or lengths' j 0) (sym k) ∙ sym (same o.keyword) in
      let m : suc c.step ≡ c.step + 1 = omega arith in
      coming-first c o list h t
      ∙ ap (λ (n : ℕ). (o.offset ∷ []) ++ earliest lengths' (o.offset + n) (drop (suc c.step) query) list) e
      ∙ ap (λ (n : ℕ). (o.offset ∷ []) ++ earliest lengths' (o.offset + get_or lengths o.keyword 0) (drop n query) list) m

  chosen_more : (c : Choice) (o : Occurrence) (chosen : List ℕ) → c.step < length query → Chosen c chosen
      → Chosen (extended lengths c o) (chosen ++ (o.offset ∷ []))
  chosen_more c o chosen h g =
      record {
        many = omega (arith, g.many, length-append chosen (o.offset ∷ []));
        same = ap (λ (n : ℕ). take n (set c.offsets c.step o.offset)) (add-one c.step)
            ∙ take-suc-set c.offsets c.step o.offset (omega (arith, g.long))
            ∙ ap (λ (l : List ℕ). l ++ (o.offset ∷ [])) g.same;
        long = length-set c.offsets c.step o.offset ∙ g.long;
      }

  -- one occurrence of the list
  step : (o : Occurrence) (list : List Occurrence) (c : Choice) (chosen : List ℕ) → c.step ≤ length query → Chosen c chosen
      → ((c' : Choice) (chosen' : List ℕ) → c'.step ≤ length query → Chosen c' chosen' → Chosen (chosen_from lengths query list c') (chosen' ++ coming c' list))
      → (length query ≤ c.step) ⊎ (c.step < length query) → (fits query c o ≡ true) ⊎ (fits query c o ≡ false)
      → Chosen (chosen_from lengths query (o ∷ list) c) (chosen ++ coming c (o ∷ list))
  step o list c chosen h g on (inl d) t =
      let e : coming c (o ∷ list) ≡ coming c list =
      earliest-done lengths' c.from (drop c.step query) (o ∷ list) (drop_of_length-le query d)
      ∙ sym (earliest-done lengths' c.from (drop c.step query) list (drop_of_length-le query d)) in
      rw (chosen-cons lengths query o list c, advanced-done lengths query c o d, e) (on c chosen h g)
  step o list c chosen h g on (inr l) (inr t) =
      rw (chosen-cons lengths query o list c, advanced-skip lengths query c o l t, coming-skip c o list l t) (on c chosen h g)
  step o list c chosen h g on (inr l) (inl t) =
      let c' : Choice = extended lengths c o in
      let r : Chosen (chosen_from lengths query list c') ((chosen ++ (o.offset ∷ [])) ++ coming c' list) =
      on c' (chosen ++ (o.offset ∷ [])) (omega arith) (chosen_more c o chosen l g) in
      let e : (chosen ++ (o.offset ∷ [])) ++ coming c' list ≡ chosen ++ coming c (o ∷ list) =
      append_assoc chosen (o.offset ∷ []) (coming c' list) ∙ ap (λ (m : List ℕ). chosen ++ m) (sym (coming-take c o list l t)) in
      rw (chosen-cons lengths query o list c, advanced-take lengths query c o l t) (subst (λ (m : List ℕ). Chosen (chosen_from lengths query list c') m) e r)

  -- the choice so far, and what it still takes
  pub chosen_on : (list : List Occurrence) (c : Choice) (chosen : List ℕ) → c.step ≤ length query → Chosen c chosen
      → Chosen (chosen_from lengths query list c) (chosen ++ coming c list)
  chosen_on [] c chosen h g =
      let e : chosen ≡ chosen ++ coming c [] =
      sym (append-nil chosen) ∙ ap (λ (l : List ℕ). chosen ++ l) (sym (earliest-none lengths' c.from (drop c.step query))) in
      rw (chosen_none lengths query c) (subst (λ (l : List ℕ). Chosen c l) e g)
  chosen_on (o ∷ list) c chosen h g = step o list c chosen h g (chosen_on list) (le-or-lt (length query) c.step) (bool_cases (fits query c o))

  pub chosen-earliest : (list : List Occurrence) → Chosen (chosen_from lengths query list no_choice) (earliest lengths' 0 query list)
  unfolding no_choice
  chosen-earliest list = chosen_on list no_choice [] (omega arith) (record { many = refl; same = refl; long = refl })
