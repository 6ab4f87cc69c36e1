-- Sets of keywords as the code goes through them: the lowest member, then those above it. Assumes nothing.
use mathlib.Core.Path.{◌≡◌, refl, sym, ap, ◌∙◌}
use mathlib.Core.Logic.{⊎_elim}
use mathlib.Core.Bool.{true, false, cond, ◌&&◌, and-false, true≢false}
use mathlib.Core.List.{List}
use Prim.Native.Nat.{ℕ, zero, suc, ◌+◌, ◌-◌, ◌/◌, ◌%◌, ◌^◌, ◌≤◌, ◌<◌}
use native.Mathlib.Nat.{lt_of_lt_of_le, div-one}
use native.Mathlib.Omega.{arith}
use lib.ListN.{length, get_or, set}
use lib.Seq.{get_or-set_same, get_or-set_other}
use lib.Dec.{eqb, ltb}
use lib.Pow.{pow_mono, shr_le, shr-shr}
use lib.Count.{count_trailing_zeros, under}
use borrow.Author.Tests.{lt-ltb, le-ltb}
use Rattle.spec.specs.Bytes.{in_set}
use Rattle.spec.proofs.Tests.{le-or-lt}
use Rattle.spec.proofs.Sets.{none_above, none-empty}

-- ---- the lowest member

has-half : (x s : ℕ) → in_set (x / 2) s ≡ in_set x (suc s)
unfolding in_set
has-half x s = let q : x / 2 / 2 ^ s ≡ x / 2 ^ (1 + s) = shr-shr x 1 s in let n : 1 + s ≡ suc s = omega arith in rw (q, n)

has-shift : (x from s : ℕ) → in_set (x / 2 ^ from) s ≡ in_set x (from + s)
unfolding in_set
has-shift x from s = rw (shr-shr x from s)

record Lowest (x z : ℕ) : Type 0 where
  here : in_set x z ≡ true
  below : (j : ℕ) → j < z → in_set x j ≡ false

lowest : (d x : ℕ) → 0 < x → x < 2 ^ d → Lowest x (count_trailing_zeros d x)
unfolding count_trailing_zeros in_set
lowest zero x p h = let z : ⊥ = omega arith in absurd z
lowest (suc d) x p h = go (x % 2) refl (λ q. lowest d (x / 2) q (omega arith))
  where
    go : (r : ℕ) → x % 2 ≡ r → (0 < x / 2 → Lowest (x / 2) (count_trailing_zeros d (x / 2))) → Lowest x (under r (count_trailing_zeros d (x / 2)))
    go zero e ih =
        let l = ih (omega arith) in
        record { here = sym (has-half x (count_trailing_zeros d (x / 2))) ∙ l.here; below = λ j m. first j m l.below }
      where
        first : (j : ℕ) → j < suc (count_trailing_zeros d (x / 2)) → ((i : ℕ) → i < count_trailing_zeros d (x / 2) → in_set (x / 2) i ≡ false) → in_set x j ≡ false
        first zero m b = rw (div-one, e)
        first (suc j) m b = sym (has-half x j) ∙ b j (omega arith)
    go (suc r) e ih = record { here = rw (div-one, e) (one r (omega arith)); below = λ j m. let z : ⊥ = omega arith in absurd z }
      where
        one : (r : ℕ) → suc r < 2 → eqb (suc r) 1 ≡ true
        one zero l = refl
        one (suc r) l = let z : ⊥ = omega arith in absurd z

-- ---- going through a set: members below `from` are done, `rest` is the set from there on

module _ (members : ℕ) where
  -- the next member, and the set above it
  pub record Next (from k rest : ℕ) : Type 0 where
    pub low : from ≤ k
    pub known : k < 16
    pub here : in_set members k ≡ true
    pub between : (j : ℕ) → from ≤ j → j < k → in_set members j ≡ false
    pub above : rest ≡ members / 2 ^ (k + 1)

  pub next-member : (from rest : ℕ) → members < 65536 → rest ≡ members / 2 ^ from → 0 < rest
      → Next from (from + count_trailing_zeros 32 rest) (rest / 2 ^ count_trailing_zeros 32 rest / 2)
  next-member from rest few e p =
      let z : ℕ = count_trailing_zeros 32 rest in
      let l : Lowest rest z = lowest 32 rest p (omega (arith, small)) in
      let h : in_set members (from + z) ≡ true = sym (has-shift members from z) ∙ ap (λ (x : ℕ). in_set x z) (sym e) ∙ l.here in
      record {
        low = omega arith;
        known = ⊎_elim (λ g. absurd (true≢false (sym h ∙ none_above members (from + z) (lt_of_lt_of_le few (pow_mono g))))) (λ g. g) (le-or-lt 16 (from + z));
        here = h;
        between = λ j a b. let n : from + (j - from) ≡ j = omega arith in
            ap (in_set members) (sym n) ∙ sym (has-shift members from (j - from)) ∙ ap (λ (x : ℕ). in_set x (j - from)) (sym e) ∙ l.below (j - from)
            (omega arith);
        above = ap (λ (x : ℕ). x / 2 ^ z / 2) e ∙ ap (λ (x : ℕ). x / 2) (shr-shr members from z) ∙ shr-shr members (from + z) 1;
      }
    where
      small : rest ≤ members
      small = rw e (shr_le members from)

  -- none is left
  pub no_member : (from j : ℕ) → 0 ≡ members / 2 ^ from → from ≤ j → in_set members j ≡ false
  no_member from j e h =
      let n : from + (j - from) ≡ j = omega arith in
      ap (in_set members) (sym n) ∙ sym (has-shift members from (j - from)) ∙ ap (λ (x : ℕ). in_set x (j - from)) (sym e) ∙ none-empty (j - from)

  -- ---- a number for each keyword, changed for the members

  module _ (f : ℕ → ℕ → ℕ) where
    -- what a change leaves of each number, for the members below `from`
    abbrev pub Changed : ℕ → List ℕ → List ℕ → Type 0
    Changed from l₀ l = (j : ℕ) → get_or l j 0 ≡ cond (ltb j from && in_set members j) (f j (get_or l₀ j 0)) (get_or l₀ j 0)

    pub changed-start : (l : List ℕ) → Changed 0 l l
    changed-start l j = rw (le-ltb j 0 (omega arith))

    -- a number that is not reached yet is as it was
    pub changed-not : (from j : ℕ) (l₀ l : List ℕ) → Changed from l₀ l → from ≤ j → get_or l j 0 ≡ get_or l₀ j 0
    changed-not from j l₀ l c h = c j ∙ rw (le-ltb j from h)

    pub changed-turn : (from k rest x : ℕ) (l₀ l : List ℕ) → Next from k rest → k < length l → x ≡ f k (get_or l₀ k 0) → Changed from l₀ l
        → Changed (k + 1) l₀ (set l k x)
    changed-turn from k rest x l₀ l n h e c j = ⊎_elim below (λ g. ⊎_elim same beyond (le-or-lt j k) g) (le-or-lt (suc j) k)
      where
        below : suc j ≤ k → get_or (set l k x) j 0 ≡ cond (ltb j (k + 1) && in_set members j) (f j (get_or l₀ j 0)) (get_or l₀ j 0)
        below g = get_or-set_other l k j x 0 (omega arith) ∙ c j ∙ ⊎_elim
            (λ (q : from ≤ j). rw (n.between j q g, and-false, and-false))
            (λ (q : j < from). rw (lt-ltb j from q, lt-ltb j (k + 1) (omega arith)))
            (le-or-lt from j)

        same : j ≤ k → k < suc j → get_or (set l k x) j 0 ≡ cond (ltb j (k + 1) && in_set members j) (f j (get_or l₀ j 0)) (get_or l₀ j 0)
        same a b =
            let q : j ≡ k = omega arith in
            rw (q, get_or-set_same l k x 0 h, lt-ltb k (k + 1) (omega arith), n.here) e

        beyond : k < j → k < suc j → get_or (set l k x) j 0 ≡ cond (ltb j (k + 1) && in_set members j) (f j (get_or l₀ j 0)) (get_or l₀ j 0)
        beyond a b = get_or-set_other l k j x 0 (omega arith) ∙ changed-not from j l₀ l c (omega (arith, n.low)) ∙ rw (le-ltb j (k + 1) (omega arith))

    pub changed-end : (from : ℕ) (l₀ l : List ℕ) → 0 ≡ members / 2 ^ from → Changed from l₀ l
        → (j : ℕ) → get_or l j 0 ≡ cond (in_set members j) (f j (get_or l₀ j 0)) (get_or l₀ j 0)
    changed-end from l₀ l e c j = c j ∙ ⊎_elim
        (λ (q : from ≤ j). rw (no_member from j e q, and-false))
        (λ (q : j < from). rw (lt-ltb j from q))
        (le-or-lt from j)
