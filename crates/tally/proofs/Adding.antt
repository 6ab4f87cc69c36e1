-- Laws for adding counts to a tally: a client's sum keyword by keyword, and the code of the whole. Assumes nothing.
use mathlib.Core.Path.{◌≡◌, refl, sym, ap, ◌∙◌}
use mathlib.Core.Bool.{true, false, not, cond}
use mathlib.Core.List.{List}
use Prim.Native.Nat.{ℕ, ◌+◌, ◌≤◌}
use native.Mathlib.Nat.{zero-add}
use native.Mathlib.Numerals.{add-one}
use native.Mathlib.Omega.{arith}
use lib.Dec.{eqb}
use lib.ListN.{get_or}
use Rattle.spec.specs.Join.{sums, is_key, fit64}
use Rattle.spec.proofs.Sums.{sum_up, sum-last}
use Rattle.spec.proofs.Codes.{refused, all-passed, next-test, buffer-done, buffer-refused}
use Rattle.tally.specs.Tallying.{client_sum, client_sums, add_code, added_to}

-- ---- a client's sum, keyword by keyword

-- keyword k's part of a client's sum, and the sum of the parts below k
abbrev part : List ℕ → List ℕ → ℕ → ℕ → ℕ
part key counts client k = cond (eqb (get_or key k 0) client) (get_or counts k 0) 0

abbrev pub below : List ℕ → List ℕ → ℕ → ℕ → ℕ
below key counts client k = sum_up (part key counts client) 0 k

pub below_next : (key counts : List ℕ) (client k : ℕ) → below key counts client (k + 1) ≡ below key counts client k + part key counts client k
below_next key counts client k =
    ap (below key counts client) (add-one k) ∙ sum-last (part key counts client) 0 k
    ∙ ap (λ (j : ℕ). below key counts client k + part key counts client j) (zero-add k)

pub sum-end : (key counts : List ℕ) (client k keywords sum : ℕ) → k ≤ keywords → keywords ≤ k → sum ≡ below key counts client k
    → sum ≡ client_sum key counts keywords client
unfolding client_sum
sum-end key counts client k keywords sum l m inv = let e : k ≡ keywords = omega arith in inv ∙ ap (below key counts client) e

-- ---- the whole: its code, and the tally after it

module _ (key counts : List ℕ) (n : ℕ) (tally : List ℕ) where
  abbrev Added : ℕ → List ℕ → Type 0
  Added code after = (code ≡ add_code key counts n tally) × (after ≡ added_to key counts n tally)

  pub add-wrong-key : is_key n key ≡ false → Added 22 tally
  unfolding add_code added_to
  add-wrong-key e =
      let r : 22 ≡ add_code key counts n tally = refused (not (is_key n key)) 22 _ (ap not e) in
      (r, buffer-refused (add_code key counts n tally) _ tally (λ z. omega (arith, r)))

  module _ (more : List ℕ) (good : is_key n key ≡ true) (made : more ≡ client_sums key counts n) where
    pub add-too-large : fit64 (sums tally more) ≡ false → Added 23 tally
    unfolding add_code added_to
    add-too-large e =
        let f : fit64 (sums tally (client_sums key counts n)) ≡ false = ap (λ (l : List ℕ). fit64 (sums tally l)) (sym made) ∙ e in
        let r : 23 ≡ add_code key counts n tally =
        refused (not (fit64 (sums tally (client_sums key counts n)))) 23 0 (ap not f) ∙ sym (next-test (not (is_key n key)) 22 _ (ap not good)) in
        (r, buffer-refused (add_code key counts n tally) _ tally (λ z. omega (arith, r)))

    pub add_done : fit64 (sums tally more) ≡ true → Added 0 (sums tally more)
    unfolding add_code added_to
    add_done e =
        let f : fit64 (sums tally (client_sums key counts n)) ≡ true = ap (λ (l : List ℕ). fit64 (sums tally l)) (sym made) ∙ e in
        let r : add_code key counts n tally ≡ 0 =
        all-passed (not (is_key n key)) 22 _ (ap not good) (all-passed (not (fit64 (sums tally (client_sums key counts n)))) 23 0 (ap not f) refl) in
        (sym r, ap (λ (l : List ℕ). sums tally l) made ∙ buffer-done (add_code key counts n tally) (sums tally (client_sums key counts n)) tally r)
