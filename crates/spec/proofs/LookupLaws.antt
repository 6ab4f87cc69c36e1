-- Laws of a lookup, for stores and indexes alike: its number by the tests that led there, where the slice is, and answers read back. Assumes nothing.
use mathlib.Core.Path.{◌≡◌, sym, ap, ◌∙◌}
use mathlib.Core.Logic.{◌≢◌, ⊎_elim}
use mathlib.Core.Bool.{true, false, not}
use mathlib.Core.List.{List}
use Prim.Native.Nat.{ℕ, ◌<◌}
use native.Mathlib.Omega.{arith}
use borrow.Author.Tests.{eq-eqb, ne_eqb, eqb-true, eqb-false, lt-ltb, le-ltb, ltb-true, not-false}
use lib.Dec.{eqb}
use lib.ListN.{length}
use Rattle.spec.specs.Outcome.{Done, Refused, answer}
use Rattle.spec.specs.Bytes.{contains, position_of}
use Rattle.spec.specs.Directory.{Layout, offset_at, length_at}
use Rattle.spec.specs.Lookup.{lookup_code, lookup_start, lookup_length}
use Rattle.spec.proofs.Codes.{passed, passed-whole, refused-whole, answer-done, answer-refused}
use Rattle.spec.proofs.EntryLaws.{contains-position, position-le}
use Rattle.spec.proofs.Tests.{bool_cases}

-- ---- answers, by what they say and back

pub refuses : (n code value : ℕ) → n ≡ code → n ≢ 0 → Refused n ≡ answer code value
refuses n code value e d = ap Refused e ∙ answer-refused code value (λ z. d (e ∙ z))

pub finds : (k code value : ℕ) → 0 ≡ code → k ≡ value → Done k ≡ answer code value
finds k code value e q = ap Done q ∙ answer-done code value (sym e)

pub done-code : (k code value : ℕ) → Done k ≡ answer code value → (code ≡ 0) × (k ≡ value)
done-code k code value e =
    ⊎_elim
    (λ t. let z = eqb-true code 0 t in (z, let q : Done k ≡ Done value = e ∙ sym (answer-done code value z) in cc))
    (λ f. absurd (let q : Done k ≡ Refused code = e ∙ sym (answer-refused code value (eqb-false code 0 f)) in let z : ◌≡◌ {A = ℕ} 0 1 = cc in omega arith))
    (bool_cases (eqb code 0))

pub refused-number : (n code value : ℕ) → Refused n ≡ answer code value → (n ≡ code) × (code ≢ 0)
refused-number n code value e =
    ⊎_elim
    (λ t. absurd (let q : Refused n ≡ Done value = e ∙ sym (answer-done code value (eqb-true code 0 t)) in let z : ◌≡◌ {A = ℕ} 0 1 = cc in omega arith))
    (λ f. (let q : Refused n ≡ Refused code = e ∙ sym (answer-refused code value (eqb-false code 0 f)) in cc, eqb-false code 0 f))
    (bool_cases (eqb code 0))

-- ---- the number, by the number of the check of the bytes

module _ (code : ℕ) (keys : List (List ℕ)) (key : List ℕ) where
  pub lookup-refused : (n : ℕ) → n ≡ code → n ≢ 0 → n ≡ lookup_code code keys key
  lookup-refused n e d = e ∙ refused-whole code _ (λ z. d (e ∙ z))

  pub lookup-length : code ≡ 0 → length key ≢ 20 → 19 ≡ lookup_code code keys key
  lookup-length z d = rw (z, ne_eqb (length key) 20 d)

  -- k is the key's position among c keys
  module _ (z : code ≡ 0) (l : length key ≡ 20) (c : ℕ) (e : c ≡ length keys) (k : ℕ) (q : k ≡ position_of key keys) where
    pub lookup-none : k ≡ c → 15 ≡ lookup_code code keys key
    lookup-none n =
        let f : contains key keys ≡ false = contains-position key keys ∙ le-ltb (position_of key keys) (length keys) (omega arith) in
        rw (z, eq-eqb (length key) 20 l, f)

    pub lookup-found : k ≢ c → 0 ≡ lookup_code code keys key
    lookup-found n =
        let t : contains key keys ≡ true = contains-position key keys ∙ lt-ltb (position_of key keys) (length keys) (omega (arith, position-le key keys)) in
        rw (z, eq-eqb (length key) 20 l, t)

  -- a key that is found: the bytes passed their check, and its position is an entry's
  pub lookup-passed : lookup_code code keys key ≡ 0 → (code ≡ 0) × (length key ≡ 20) × (position_of key keys < length keys)
  lookup-passed z =
      let a = passed-whole code _ z in
      let b = passed (not (eqb (length key) 20)) 19 _ (omega arith) a.1 in
      let c = passed (not (contains key keys)) 15 _ (omega arith) b.1 in (
        a.0,
        eqb-true (length key) 20 (not-false (eqb (length key) 20) b.0),
        ltb-true (position_of key keys) (length keys) (sym (contains-position key keys) ∙ not-false (contains key keys) c.0),
      )

  -- ---- where the slice is

  module _ (layout : Layout) (bytes : List ℕ) where
    pub start-found : (k : ℕ) → lookup_code code keys key ≡ 0 → k ≡ position_of key keys → offset_at layout bytes k ≡ lookup_start code layout bytes keys key
    start-found k z q = rw (eq-eqb (lookup_code code keys key) 0 z) (ap (offset_at layout bytes) q)

    pub length_found : (k : ℕ) → lookup_code code keys key ≡ 0 → k ≡ position_of key keys → length_at layout bytes k ≡ lookup_length code layout bytes keys key
    length_found k z q = rw (eq-eqb (lookup_code code keys key) 0 z) (ap (length_at layout bytes) q)

    pub start-refused : lookup_code code keys key ≢ 0 → 0 ≡ lookup_start code layout bytes keys key
    start-refused d = rw (ne_eqb (lookup_code code keys key) 0 d)

    pub length-refused : lookup_code code keys key ≢ 0 → 0 ≡ lookup_length code layout bytes keys key
    length-refused d = rw (ne_eqb (lookup_code code keys key) 0 d)
