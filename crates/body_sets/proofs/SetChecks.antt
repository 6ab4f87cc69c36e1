-- The check of a set: whether it is next by the tests of its first two bytes, and whether it is good by the tests of all six. Assumes nothing.
use mathlib.Core.Path.{◌≡◌, refl, sym, ap, ◌∙◌}
use mathlib.Core.Logic.{◌≢◌, ◌⊎◌, inl, inr}
use mathlib.Core.Bool.{Bool, true, false, ◌&&◌, and-true, and-false, false≢true}
use mathlib.Core.List.{List, [], ◌∷◌}
use Prim.Native.Nat.{ℕ, suc, ◌+◌, ◌-◌, ◌*◌, ◌/◌, ◌%◌, ◌^◌, ◌≤◌, ◌<◌, min}
use native.Mathlib.Nat.{div-lt_iff_lt-mul, div-eq_of_lt, mod-lt}
use native.Mathlib.Numerals.{add-one}
use native.Mathlib.Omega.{arith}
use borrow.Author.Tests.{lt-ltb, ltb-true}
use lib.Dec.{eqb, ltb}
use lib.Pow.{pow_pos}
use lib.ListN.{length, take, drop, get_or, length-drop, length-take}
use lib.Seq.{drop-cons}
use Rattle.spec.specs.Bytes.{AllBytes, le_value, le_bytes, field_at, same, begins}
use Rattle.spec.specs.declared.Format.{Format}
use Rattle.spec.specs.Form.{Form, form3, form_in}
use Rattle.spec.specs.Records.{set_bytes, set_in_range, set_is_next}
use Rattle.spec.proofs.Tests.{le-or-lt, false_of, and_left, and_right, eqb-ne}
use Rattle.spec.proofs.Begins.{begins-short}
use Rattle.spec.proofs.Same.{same-eq, same_of}
use Rattle.spec.proofs.Fields.{length-le_bytes}
use Rattle.spec.proofs.FieldLists.{le_bytes-take}
use Rattle.spec.proofs.RecordLaws.{bool-ext, eq_of, set-empty, set-some, set-even, set_below}
use Rattle.body_sets.specs.Sets.{set_good}

-- ---- whether a set is next

module _ (format : Format) (body : List ℕ) (at k : ℕ) where
  pub no-sets : format.sets ≡ false → false ≡ set_is_next (form_in format) k (drop at body)
  no-sets e = ap (λ (b : Bool). b && begins (k ∷ 4 ∷ []) (drop at body)) (sym e)

  module _ (within : at ≤ length body) where
    pub too_short : length body - at < 2 → false ≡ set_is_next (form_in format) k (drop at body)
    too_short h = rw (begins-short (k ∷ 4 ∷ []) (drop at body) (rw length-drop (omega arith))) (sym (and-false format.sets))

    module _ (long : 2 ≤ length body - at) where
      two : begins (k ∷ 4 ∷ []) (drop at body) ≡ (eqb k (get_or body at 0) && eqb 4 (get_or body (at + 1) 0))
      two =
          let u : at < length body = omega arith in
          let v : suc at < length body = omega arith in
          rw (drop-cons body at 0 u, drop-cons body (suc at) 0 v, and-true, add-one)

      pub other-number : k ≢ get_or body at 0 → false ≡ set_is_next (form_in format) k (drop at body)
      other-number d = rw (two, eqb-ne k (get_or body at 0) d) (sym (and-false format.sets))

-- the first two bytes of a set
pub set-head : (f : Form) (k : ℕ) (bytes : List ℕ) → set_is_next f k bytes ≡ true → (2 ≤ length bytes) × (get_or bytes 0 0 ≡ k) × (get_or bytes 1 0 ≡ 4)
set-head f k bytes here = go bytes (and_right f.sets (begins (k ∷ 4 ∷ []) bytes) here)
  where
    go : (l : List ℕ) → begins (k ∷ 4 ∷ []) l ≡ true → (2 ≤ length l) × (get_or l 0 0 ≡ k) × (get_or l 1 0 ≡ 4)
    go [] e = absurd (false≢true e)
    go (x ∷ []) e = absurd (false≢true (sym (and-false (eqb k x)) ∙ e))
    go (x ∷ y ∷ l) e =
        (omega arith, sym (eq_of k x (and_left (eqb k x) _ e)), sym (eq_of 4 y (and_left (eqb 4 y) true (and_right (eqb k x) (eqb 4 y && true) e))))

-- ---- whether it is good

module _ (n size : ℕ) (bytes : List ℕ) where
  abbrev set : ℕ
  set = field_at bytes 2 4

  abbrev number : ℕ
  number = get_or bytes 0 0

  good-parts : set_good n number size bytes ≡ (same (set_bytes number set) (take 6 bytes) && set_in_range form3 n size set)
  unfolding set_good
  good-parts = refl

  module _ (good : set_good n number size bytes ≡ true) where
    good-range : set_in_range form3 n size set ≡ true
    good-range = and_right (same (set_bytes number set) (take 6 bytes)) (set_in_range form3 n size set) (sym good-parts ∙ good)

    good-same : set_bytes number set ≡ take 6 bytes
    good-same =
        same-eq (set_bytes number set) (take 6 bytes)
        (and_left (same (set_bytes number set) (take 6 bytes)) (set_in_range form3 n size set) (sym good-parts ∙ good))

    -- a good set has six bytes, and a start
    pub six : 1 ≤ length bytes → (6 ≤ length bytes) × (0 < set)
    six h = go (le-or-lt set 0)
      where
        go : (set ≤ 0) ⊎ (0 < set) → (6 ≤ length bytes) × (0 < set)
        go (inl z) =
            let y : 0 ≡ min 6 (length bytes) = ap length (sym (set-empty number set (omega arith)) ∙ good-same) ∙ length-take 6 bytes in
            let x : ⊥ = omega arith in absurd x
        go (inr z) =
            let y : suc (suc (length (le_bytes 4 set))) ≡ min 6 (length bytes) = ap length (sym (set-some number set z) ∙ good-same) ∙ length-take 6 bytes in
            (omega (arith, length-le_bytes 4 set), z)

  refused : (set_good n number size bytes ≡ true → ⊥) → false ≡ set_good n number size bytes
  refused h = sym (false_of (set_good n number size bytes) h)

  pub set-short : 1 ≤ length bytes → length bytes < 6 → false ≡ set_good n number size bytes
  set-short h l = refused (λ e. omega (arith, (six e h).0))

  pub set-nil : 1 ≤ length bytes → set ≡ 0 → false ≡ set_good n number size bytes
  set-nil h z = refused (λ e. omega (arith, (six e h).1))

  pub set-odd : set % 2 ≡ 1 → false ≡ set_good n number size bytes
  set-odd h = refused (λ e. omega (arith, set-even form3 n size set (good-range e)))

  -- a chunk that is as long as the keyword lies nowhere inside it
  pub set_long : set ≢ 0 → n ≤ size → false ≡ set_good n number size bytes
  set_long d h =
      refused (λ e.
      let z : n - size ≡ 0 = omega arith in
      let l : set < 2 ^ 0 = rw z at (set_below form3 n size set (good-range e)) in
      d (omega arith))

  -- the six bytes are the set's
  set-written : 6 ≤ length bytes → AllBytes bytes → get_or bytes 1 0 ≡ 4 → 0 < set → set_bytes number set ≡ take 6 bytes
  set-written h b e z = set-some number set z ∙ go bytes h b e
    where
      go : (l : List ℕ) → 6 ≤ length l → AllBytes l → get_or l 1 0 ≡ 4 → get_or l 0 0 ∷ 4 ∷ le_bytes 4 (field_at l 2 4) ≡ take 6 l
      go [] h b e = let x : ⊥ = omega arith in absurd x
      go (x ∷ []) h b e = let x : ⊥ = omega arith in absurd x
      go (x ∷ y ∷ l) h b e =
          let t : le_bytes 4 (le_value (take 4 l)) ≡ take 4 l = le_bytes-take 4 l (λ i. b (suc (suc i))) (omega arith) in
          ap {B = List ℕ} (λ v. x ∷ 4 ∷ v) t ∙ ap {B = List ℕ} (λ v. x ∷ v ∷ take 4 l) (sym e)

  small : eqb (set / 2 ^ (n - size)) 0 ≡ ltb set (2 ^ (n - size))
  small = bool-ext (eqb (set / 2 ^ (n - size)) 0) (ltb set (2 ^ (n - size))) there back
    where
      there : eqb (set / 2 ^ (n - size)) 0 ≡ true → ltb set (2 ^ (n - size)) ≡ true
      there e =
          let z : set / 2 ^ (n - size) ≡ 0 = eq_of (set / 2 ^ (n - size)) 0 e in
          let l : set < 1 * 2 ^ (n - size) = (div-lt_iff_lt-mul (pow_pos (n - size))).0 (omega arith) in
          lt-ltb set (2 ^ (n - size)) (omega arith)

      back : ltb set (2 ^ (n - size)) ≡ true → eqb (set / 2 ^ (n - size)) 0 ≡ true
      back e = rw (div-eq_of_lt (ltb-true set (2 ^ (n - size)) e))

  pub set_rest : 6 ≤ length bytes → AllBytes bytes → get_or bytes 1 0 ≡ 4 → set ≢ 0 → set % 2 ≢ 1
      → eqb (set / 2 ^ (n - size)) 0 ≡ set_good n number size bytes
  unfolding set_in_range
  set_rest h b e z o =
      let below : set % 2 < 2 = mod-lt set (omega arith) in
      let even : set % 2 ≡ 0 = omega arith in
      let some : 0 < set = omega arith in
      small ∙ sym (good-parts ∙ rw (same_of (set_bytes number set) (take 6 bytes) (set-written h b e some), even, and-true))
