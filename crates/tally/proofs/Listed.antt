-- What `tally::add` makes of the counts of a list, keyword by keyword, is what the list says of its clients: for a join, whose keyword numbers are all
-- below the number of keywords. A client's count is the sum of the counts of its keywords (`grouped`). Assumes nothing.
use mathlib.Core.Path.{◌≡◌, sym, ap, ap₂, ◌∙◌}
use mathlib.Core.Bool.{true, not, cond}
use mathlib.Core.List.{List, [], ◌∷◌}
use Prim.Native.Nat.{ℕ, ◌≤◌}
use native.Mathlib.Nat.{zero-add}
use native.Mathlib.Omega.{arith}
use lib.Dec.{eqb, ltb}
use lib.ListN.{get_or}
use Rattle.spec.specs.Bytes.{every}
use Rattle.spec.specs.Outcome.{first_number, unless_refused, key_wrong, count_too_large}
use Rattle.spec.specs.Join.{Occurrence, count_by, counts_by, client_counts, sums, is_key, fit64, tally_with, clients_code}
use Rattle.spec.proofs.Sums.{sum_same}
use Rattle.spec.proofs.Clients.{grouped, count_at}
use Rattle.spec.proofs.Tabulated.{tabulated-same}
use Rattle.tally.specs.Tallying.{client_sum, client_sums, add_code, added_to}

module _ (key : List ℕ) (list : List Occurrence) (n : ℕ) (few : n ≤ 16) (numbered : every (λ o. ltb o.keyword n) list ≡ true) where
  -- the counts by keyword number
  abbrev counts : List ℕ
  counts = counts_by (λ k. k) 16 list

  sum-counts : (client : ℕ) → client_sum key counts n client ≡ count_by (λ k. get_or key k 0) client list
  unfolding client_sum
  sum-counts client =
      sum_same _ (λ k. cond (eqb (get_or key k 0) client) (count_by (λ j. j) k list) 0) 0 n
      (λ k u v. ap (λ (x : ℕ). cond (eqb (get_or key k 0) client) x 0) (count_at (λ j. j) 16 list k (omega (arith, zero-add n))))
      ∙ sym (grouped (λ k. get_or key k 0) client n list numbered)

  pub sums-are-counts : client_sums key counts n ≡ client_counts key list
  unfolding client_sums counts_by
  sums-are-counts = tabulated-same (client_sum key counts n) (λ client. count_by (λ k. get_or key k 0) client list) 4 (λ client l. sum-counts client)

  module _ (tally : List ℕ) where
    pub add-code-is : add_code key counts n tally ≡ clients_code n (record { key = key; tally = tally }) list
    unfolding add_code clients_code tally_with
    add-code-is = ap (λ (l : List ℕ). first_number ((not (is_key n key), key_wrong) ∷ (not (fit64 (sums tally l)), count_too_large) ∷ [])) sums-are-counts

    pub added_is : added_to key counts n tally
        ≡ unless_refused (clients_code n (record { key = key; tally = tally }) list) (tally_with (record { key = key; tally = tally }) list) tally
    unfolding added_to tally_with
    added_is = ap₂ (λ (code : ℕ) (after : List ℕ). unless_refused code after tally) add-code-is (ap (λ (l : List ℕ). sums tally l) sums-are-counts)
