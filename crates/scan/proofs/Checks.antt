-- The refusals of a scan before 9: the two checks, one after the other. Assumes nothing.
use mathlib.Core.Path.{◌≡◌, sym, ◌∙◌}
use mathlib.Core.Logic.{◌≢◌}
use mathlib.Core.List.{List, [], ◌∷◌}
use Prim.Native.Nat.{ℕ}
use Rattle.spec.specs.Store.{store_code}
use Rattle.spec.specs.Outcome.{first_number, whole}
use Rattle.spec.specs.Keywords.{keyword_code}
use Rattle.spec.specs.Scan.{scannable_code}
use Rattle.spec.proofs.Codes.{refused-whole, next-whole, last-whole, passed-whole}

pub list-refused : (list store : List ℕ) (code : ℕ) → code ≡ keyword_code list → code ≢ 0 → code ≡ scannable_code list store
unfolding scannable_code
list-refused list store code e h = e ∙ refused-whole (keyword_code list) _ (λ z. h (e ∙ z))

pub store-asked : (list store : List ℕ) (code : ℕ) → 0 ≡ keyword_code list → code ≡ store_code store → code ≡ scannable_code list store
unfolding scannable_code
store-asked list store code z e = e ∙ sym (next-whole (keyword_code list) _ (sym z) ∙ last-whole (store_code store))

pub record Passed (list store : List ℕ) : Type 0 where
  pub accepted : keyword_code list ≡ 0
  pub checked : store_code store ≡ 0

pub passed-both : (list store : List ℕ) → scannable_code list store ≡ 0 → Passed list store
unfolding scannable_code
passed-both list store e =
    let p = passed-whole (keyword_code list) (first_number (whole (store_code store) ∷ [])) e in
    record { accepted = p.0; checked = sym (last-whole (store_code store)) ∙ p.1 }
