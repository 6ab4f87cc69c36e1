-- Each keyword's number of occurrences at a place is added to its count, one keyword after the other. Assumes nothing.
use mathlib.Core.Path.{◌≡◌, refl, sym, ap, ◌∙◌}
use mathlib.Core.Logic.{⊎_elim}
use mathlib.Core.List.{List}
use Prim.Native.Nat.{ℕ, zero, suc, ◌+◌, ◌≤◌, ◌<◌}
use native.Mathlib.Nat.{zero-add, add-zero}
use native.Mathlib.Omega.{arith}
use lib.ListN.{length, get_or, get_or-eq_default}
use lib.Seq.{ext_get_or}
use Rattle.spec.specs.Join.{sums}
use Rattle.spec.proofs.Tests.{le-or-lt}
use Rattle.spec.proofs.Sums.{sum_up}
use Rattle.spec.proofs.Clients.{length-sums, sums_at}
use Rattle.spec.proofs.Tabulated.{length-tabulated, tabulated-at}
use Rattle.listing.specs.Streams.{stream_of, numbers, numbers_of, total}

module _ (streams : List (List ℕ)) (count : ℕ) where
  pub numbers-at : (k : ℕ) → k < count → get_or (numbers_of streams count) k 0 ≡ numbers (stream_of streams k)
  numbers-at k h = tabulated-at (λ j. numbers (stream_of streams j)) 0 count k 0 h ∙ ap (λ (j : ℕ). numbers (stream_of streams j)) (zero-add k)

  pub numbers-past : (k : ℕ) → count ≤ k → get_or (numbers_of streams count) k 0 ≡ 0
  numbers-past k h = get_or-eq_default (numbers_of streams count) 0 (omega (arith, length-tabulated (λ j. numbers (stream_of streams j)) 0 count))

-- The counts of the keywords below k are done.
pub record CountingPlace (streams : List (List ℕ)) (counts₀ counts : List ℕ) (k : ℕ) : Type 0 where
  pub long : length counts ≡ length counts₀
  pub done : (j : ℕ) → j < k → get_or counts j 0 ≡ get_or counts₀ j 0 + numbers (stream_of streams j)
  pub same : (j : ℕ) → k ≤ j → get_or counts j 0 ≡ get_or counts₀ j 0

module _ (streams : List (List ℕ)) (counts₀ : List ℕ) where
  module _ (counts : List ℕ) (k : ℕ) (at : CountingPlace streams counts₀ counts k) where
    pub place_end : (count : ℕ) → k ≡ count → counts ≡ sums counts₀ (numbers_of streams count)
    place_end count e =
        ext_get_or 0 counts (sums counts₀ (numbers_of streams count)) (at.long ∙ sym (length-sums counts₀ (numbers_of streams count))) (λ j u.
        ⊎_elim
        (λ l. at.same j (omega arith) ∙ sym (add-zero (get_or counts₀ j 0)) ∙ ap (λ (x : ℕ). get_or counts₀ j 0 + x) (sym (numbers-past streams count j l)))
        (λ l. at.done j (omega arith) ∙ ap (λ (x : ℕ). get_or counts₀ j 0 + x) (sym (numbers-at streams count j l)))
        (le-or-lt count j)
        ∙ sym (sums_at counts₀ (numbers_of streams count) j (omega (arith, at.long))))

-- ---- a place without occurrences

sum-zero : (f : ℕ → ℕ) (a n : ℕ) → sum_up f a n ≡ 0 → (k : ℕ) → a ≤ k → k < a + n → f k ≡ 0
sum-zero f a zero e k l h = let z : ⊥ = omega arith in absurd z
sum-zero f a (suc n) e k l h =
    ⊎_elim (λ u. sum-zero f (suc a) n (omega (arith, e)) k u (omega arith)) (λ u. let q : k ≡ a = omega arith in omega (arith, e, ap f q)) (le-or-lt (suc a) k)

pub place_none : (streams : List (List ℕ)) (count : ℕ) (counts : List ℕ) → total streams count ≡ 0 → counts ≡ sums counts (numbers_of streams count)
place_none streams count counts e =
    place_end streams counts counts count
    (record {
      long = refl;
      done = λ j h. sym (add-zero (get_or counts j 0))
          ∙ ap (λ (x : ℕ). get_or counts j 0 + x) (sym (sum-zero (λ k. numbers (stream_of streams k)) 0 count e j (omega arith) (omega arith)));
      same = λ j h. refl;
    })
    count refl
