-- Two tallies joined, keyword by keyword: 16 numbers, changed from the front on. Assumes nothing.
use Rattle.std.proofs.Common.{◌≡◌, ℕ, ◌+◌, ◌≤◌, ◌<◌, List, length, get_or, cond}
use lib.Dec.{eqb}
use Rattle.logs.specs.Tallies.{tally_both}
use Rattle.logs.specs.declared.Tally.{Tally}
use Rattle.logs.proofs.Tallying.{sixteen}

-- the numbers below k are f's, the others are as before
pub record Front (f : ℕ → ℕ) (l₀ l : List ℕ) (k : ℕ) : Type 0 where
  pub size : length l ≡ 16
  pub done : (j : ℕ) → j < k → get_or l j 0 ≡ f j
  pub left : (j : ℕ) → k ≤ j → get_or l j 0 ≡ get_or l₀ j 0

-- ---- counts and first offsets

abbrev pub sum : (counts more : List ℕ) → ℕ → ℕ
sum counts more k = get_or counts k 0 + get_or more k 0

abbrev pub first : (counts firsts more : List ℕ) → ℕ → ℕ
first counts firsts more k = cond (eqb (get_or counts k 0) 0) (get_or more k 0) (get_or firsts k 0)

pub joined : (before more : Tally) (counts firsts : List ℕ) → Front (sum before.counts more.counts) before.counts counts 16
    → Front (first before.counts before.firsts more.firsts) before.firsts firsts 16
    → record { counts = counts; firsts = firsts } ≡ tally_both before more
unfolding tally_both
joined before more counts firsts c f =
    let p = sixteen (sum before.counts more.counts) counts c.size c.done in
    let q = sixteen (first before.counts before.firsts more.firsts) firsts f.size f.done in
    λ i. record { counts = p i; firsts = q i }
