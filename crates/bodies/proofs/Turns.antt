-- The body check, a turn for each keyword: what the bytes from the place on say of the rest of the keywords is what the body says of all.
use mathlib.Core.Path.{◌≡◌, refl, sym, ap, ◌∙◌}
use mathlib.Core.Logic.{◌⊎◌, inl, inr}
use mathlib.Core.Bool.{Bool, true, false, ◌&&◌, not, cond, false≢true}
use mathlib.Core.List.{List, [], ◌∷◌}
use Prim.Native.Nat.{ℕ, suc, ◌+◌, ◌-◌, ◌≤◌, ◌<◌}
use native.Mathlib.Numerals.{add-one}
use native.Mathlib.Omega.{arith}
use lib.Dec.{eqb}
use Rattle.std.specs.Prelude.{Some, None}
use Rattle.std.proofs.lemmas.Option.{none-some, cond_some}
use lib.ListN.{length, take, drop, get_or, length-drop, drop_of_length-le}
use lib.Seq.{drop-cons, drop-drop, get_or-take, take_all, length-take-le}
use Rattle.spec.specs.Bytes.{begins}
use Rattle.spec.specs.declared.Format.{Format}
use Rattle.spec.specs.Form.{Form, form_in}
use Rattle.spec.specs.Records.{record_size, set_is_next, record_is_next, record_taken, set_taken, behind_keyword, good_body}
use Rattle.body_sets.specs.Sets.{set_good}
use Rattle.bodies.specs.Steps.{good_from, record_good, record_good_next, set_good_next}
use Rattle.spec.proofs.Tests.{le-or-lt, bool_cases, and_left, and_right, eqb_same, eqb-ne}
use Rattle.spec.proofs.RecordLaws.{eq_of}
use Rattle.bodies.specs.Check.{good_size, record_part, set_part, Lengths, KeywordLengths}
use Rattle.bodies.proofs.StepLaws.{good-is-from, good-end, taken_here, taken_none, set_here, set-none, good-step, good-absent}
use Rattle.bodies.proofs.KindChecks.{fields-good}
use Rattle.bodies.proofs.RecordChecks.{tiny-of, full-of, size-zero}
use Rattle.body_sets.proofs.SetChecks.{set-head, six}

-- the part that starts at `at` is all behind it
pub behind : (body : List ℕ) (at : ℕ) → take (length body - at) (drop at body) ≡ drop at body
behind body at = take_all (length body - at) (drop at body) (omega (arith, length-drop at body))

-- ---- the next number

pub begins-head : (bytes : List ℕ) (k : ℕ) → begins (k ∷ []) bytes ≡ true → (1 ≤ length bytes) × (get_or bytes 0 0 ≡ k)
begins-head [] k e = absurd (false≢true e)
begins-head (b ∷ bytes) k e = (omega arith, sym (eq_of k b (and_left (eqb k b) true e)))

-- a good record lies within the bytes
size-within : (format : Format) (n size : ℕ) (bytes : List ℕ) → Lengths format n size → 1 ≤ length bytes
    → record_good (form_in format) n (get_or bytes 0 0) size bytes ≡ true → record_size (form_in format) bytes ≤ length bytes
size-within format n size bytes l start e = go (le-or-lt 1 (get_or bytes 1 0))
  where
    go : (1 ≤ get_or bytes 1 0) ⊎ (get_or bytes 1 0 < 1) → record_size (form_in format) bytes ≤ length bytes
    go (inl k) = (full-of (form_in format) (fields-good format l.fields) n size bytes l.positive l.fit k start e).long
    go (inr k) =
        let z : get_or bytes 1 0 ≡ 0 = omega arith in
        omega (arith, size-zero (form_in format) bytes z, (tiny-of (form_in format) n size bytes start z e).long)

-- ---- a part: what is taken, or None

part-none : (b : Bool) (taken : ℕ) → None ≡ cond b (Some taken) None → b ≡ false
part-none true taken e = absurd (none-some taken e)
part-none false taken e = refl

module _ (format : Format) (n k size : ℕ) (bytes : List ℕ) where
  abbrev f : Form
  f = form_in format

  -- a set is next, and no record
  pub record-absent : set_is_next f k bytes ≡ true → Some 0 ≡ record_part format n k size bytes
  unfolding record_part record_good_next record_taken
  record-absent q = rw q

  pub record-next : begins (k ∷ []) bytes ≡ true → set_is_next f k bytes ≡ false → record_is_next f k bytes ≡ true
  record-next h q = rw (q, h)

  -- what the record check says of the bytes, where a record is next
  module _ (next : record_is_next f k bytes ≡ true) where
    record-head : (1 ≤ length bytes) × (get_or bytes 0 0 ≡ k)
    record-head = begins-head bytes k (and_right (not (set_is_next f k bytes)) (begins (k ∷ []) bytes) next)

    good-is : record_good_next f n k size bytes ≡ record_good f n (get_or bytes 0 0) size bytes
    unfolding record_good_next
    good-is = rw next (ap (λ (x : ℕ). record_good f n x size bytes) (sym record-head.1))

    pub record-here : good_size format n size bytes ≡ record_part format n k size bytes
    unfolding good_size record_part
    record-here = rw (good-is, taken_here f k bytes next)

  -- a good record lies within the bytes
  record-within : Lengths format n size → record_good_next f n k size bytes ≡ true → record_taken f k bytes ≤ length bytes
  record-within l e = go (bool_cases (record_is_next f k bytes))
    where
      go : (record_is_next f k bytes ≡ true) ⊎ (record_is_next f k bytes ≡ false) → record_taken f k bytes ≤ length bytes
      go (inl q) =
          omega (arith, taken_here f k bytes q, size-within format n size bytes l (record-head q).0 (sym (good-is q) ∙ e))
      go (inr q) = omega (arith, taken_none f k bytes q)

  pub set-absent : set_is_next f k bytes ≡ false → Some 0 ≡ set_part format n k size bytes
  unfolding set_part set_good_next set_taken
  set-absent q = rw q

  module _ (here : set_is_next f k bytes ≡ true) where
    set_is : set_good_next f n k size bytes ≡ set_good n (get_or bytes 0 0) size bytes
    unfolding set_good_next
    set_is = rw here (ap (λ (x : ℕ). set_good n x size bytes) (sym (set-head f k bytes here).1))

    pub set-bad : set_good n (get_or bytes 0 0) size bytes ≡ false → None ≡ set_part format n k size bytes
    unfolding set_part
    set-bad e = rw (set_is ∙ e)

    pub set-taken : set_good n (get_or bytes 0 0) size bytes ≡ true → Some 6 ≡ set_part format n k size bytes
    unfolding set_part
    set-taken e = rw (set_is ∙ e, set_here f k bytes here)

  -- a good set lies within the bytes
  set-within : set_good_next f n k size bytes ≡ true → set_taken f k bytes ≤ length bytes
  set-within e = go (bool_cases (set_is_next f k bytes))
    where
      go : (set_is_next f k bytes ≡ true) ⊎ (set_is_next f k bytes ≡ false) → set_taken f k bytes ≤ length bytes
      go (inl q) =
          let start : 1 ≤ length bytes = omega (arith, (set-head f k bytes q).0) in
          omega (arith, set_here f k bytes q, (six n size bytes (sym (set_is q) ∙ e) start).0)
      go (inr q) = omega (arith, set-none f k bytes q)

-- ---- a turn

behind-both : (f : Form) (k : ℕ) (bytes : List ℕ)
    → behind_keyword f k bytes ≡ drop (set_taken f k (drop (record_taken f k bytes) bytes)) (drop (record_taken f k bytes) bytes)
unfolding behind_keyword
behind-both f k bytes = refl

module _ (format : Format) (lengths body : List ℕ) (count size : ℕ) (ready : KeywordLengths format count size lengths) where
  -- what is left of the check, from keyword k and the place `at` on
  abbrev pub left : ℕ → ℕ → Bool
  left k at = good_from (form_in format) k (drop k (take count lengths)) size (drop at body)

  pub left-all : left 0 0 ≡ good_body (form_in format) (take count lengths) size body
  left-all = sym (good-is-from (form_in format) (take count lengths) size body)

  module _ (k at : ℕ) (h : k < length (take count lengths)) where
    below : k < count
    below = omega (arith, length-take-le count lengths ready.room)

    abbrev n : ℕ
    n = get_or (take count lengths) k 0

    abbrev form : Form
    form = form_in format

    abbrev rest : List ℕ
    rest = drop at body

    here : drop k (take count lengths) ≡ n ∷ drop (k + 1) (take count lengths)
    here = drop-cons (take count lengths) k 0 h ∙ rw add-one

    pub turn-length : Lengths format n size
    turn-length =
        let e = get_or-take count lengths k 0 below in
        record { fields = ready.fields; positive = rw e (ready.each k below).0; short = rw e (ready.each k below).1; fit = ready.fit }

    pub turn-absent : begins (k ∷ []) rest ≡ false → left (k + 1) at ≡ left k at
    turn-absent e =
        sym (rw (here, add-one)
        (good-absent form (fields-good format ready.fields) k n (drop (suc k) (take count lengths)) size rest turn-length.positive ready.fit e))

    -- behind the record
    abbrev after : List ℕ
    after = drop (record_taken form k rest) rest

    step : left k at
        ≡ (record_good_next form n k size rest
        && (set_good_next form n k size after && good_from form (k + 1) (drop (k + 1) (take count lengths)) size (behind_keyword form k rest)))
    step =
        rw (here, add-one)
        (good-step form (fields-good format ready.fields) k n (drop (suc k) (take count lengths)) size rest turn-length.positive ready.fit)

    -- what the record's part says
    pub turn-bad : None ≡ record_part format n k size rest → false ≡ left k at
    unfolding record_part
    turn-bad q = sym (step ∙ rw (part-none (record_good_next form n k size rest) (record_taken form k rest) q))

    module _ (first : ℕ) (q : Some first ≡ record_part format n k size rest) where
      fine : (record_good_next form n k size rest ≡ true) × (record_taken form k rest ≡ first)
      unfolding record_part
      fine = cond_some (record_good_next form n k size rest) (record_taken form k rest) first (sym q)

      abbrev place : ℕ
      place = at + first

      pub turn-within : at ≤ length body → place ≤ length body
      turn-within l = omega (arith, fine.1, length-drop at body, record-within format n k size rest turn-length fine.0)

      after_is : after ≡ drop place body
      after_is = drop-drop (record_taken form k rest) at body ∙ ap (λ (x : ℕ). drop (at + x) body) fine.1

      -- what the set's part says
      pub turn-set-bad : None ≡ set_part format n k size (drop place body) → false ≡ left k at
      unfolding set_part
      turn-set-bad r =
          let b : set_good_next form n k size after ≡ false =
          ap (set_good_next form n k size) after_is
          ∙ part-none (set_good_next form n k size (drop place body)) (set_taken form k (drop place body)) r
          in
          sym (step ∙ rw (fine.0, b))

      module _ (second : ℕ) (r : Some second ≡ set_part format n k size (drop place body)) where
        set-fine : (set_good_next form n k size (drop place body) ≡ true) × (set_taken form k (drop place body) ≡ second)
        unfolding set_part
        set-fine = cond_some (set_good_next form n k size (drop place body)) (set_taken form k (drop place body)) second (sym r)

        pub turn_end : at ≤ length body → place + second ≤ length body
        turn_end l = omega (arith, set-fine.1, turn-within l, length-drop place body, set-within format n k size (drop place body) set-fine.0)

        pub turn-good : left (k + 1) (place + second) ≡ left k at
        turn-good =
            let b : set_good_next form n k size after ≡ true = ap (set_good_next form n k size) after_is ∙ set-fine.0 in
            let c : behind_keyword form k rest ≡ drop (place + second) body =
            behind-both form k rest
            ∙ ap (λ (l : List ℕ). drop (set_taken form k l) l) after_is
            ∙ drop-drop (set_taken form k (drop place body)) place body
            ∙ ap (λ (x : ℕ). drop (place + x) body) set-fine.1
            in
            sym (step ∙ rw (fine.0, b, c))

  pub left_end : (k at : ℕ) → length (take count lengths) ≤ k → at ≤ length body → eqb at (length body) ≡ left k at
  left_end k at h l =
      let d : drop k (take count lengths) ≡ [] = drop_of_length-le (take count lengths) h in
      sym
      (ap (λ (l : List ℕ). good_from (form_in format) k l size (drop at body)) d
      ∙ good-end (form_in format) k size (drop at body)
      ∙ ap (λ (x : ℕ). eqb x 0) (length-drop at body)
      ∙ go (le-or-lt (length body) at))
    where
      go : (length body ≤ at) ⊎ (at < length body) → eqb (length body - at) 0 ≡ eqb at (length body)
      go (inl m) =
          let e : length body - at ≡ 0 = omega arith in
          let q : at ≡ length body = omega arith in
          rw e (sym (ap (λ (x : ℕ). eqb x (length body)) q ∙ eqb_same (length body)))
      go (inr m) = eqb-ne (length body - at) 0 (omega arith) ∙ sym (eqb-ne at (length body) (omega arith))
