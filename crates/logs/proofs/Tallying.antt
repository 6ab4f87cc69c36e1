-- Laws of the tally: an entry more at the front of a log counts its members once more, and theirs is the first offset; the tally of two logs is told
-- from theirs. Assumes nothing.
use mathlib.Core.Path.{◌≡◌, refl, sym, ap, ap₂, ◌∙◌}
use mathlib.Core.Bool.{Bool, true, false, cond}
use mathlib.Core.List.{List, [], ◌∷◌, ◌++◌}
use Prim.Native.Nat.{ℕ, zero, suc, ◌+◌, ◌-◌, ◌≤◌, ◌<◌}
use native.Mathlib.Nat.{zero-add}
use native.Mathlib.Omega.{arith}
use lib.ListN.{length, get_or, replicate, length-replicate, length-append, get_or-eq_default}
use lib.Seq.{ext_get_or}
use lib.Dec.{eqb}
use Rattle.spec.specs.Bytes.{keep, in_set}
use Rattle.spec.proofs.Tests.{eqb-ne, le-or-lt}
use Rattle.spec.proofs.Tabulated.{tabulated, length-tabulated, tabulated-at, tabulated-same}
use mathlib.Core.Logic.{⊎_elim}
use Rattle.logs.specs.Log.{set_at, place_in, logged_offsets}
use Rattle.logs.specs.Tallies.{OneMore, Kept, tally_of, tally_both, CanJoin}
use Rattle.logs.proofs.LogLaws.{logged-append}
use Rattle.logs.specs.declared.Tally.{Tally}

module _ (ends : List ℕ) (k n : ℕ) where
  abbrev said : List ℕ → List ℕ
  said log = logged_offsets ends k n log

  -- an entry says one offset at most
  pub said-most : (log : List ℕ) → length (said log) ≤ length log
  unfolding logged_offsets
  said-most [] = omega arith
  said-most (e ∷ log) = go (in_set (set_at ends e) k) (said-most log)
    where
      go : (b : Bool) → length (said log) ≤ length log → length (keep b (place_in e + 1 - n) ++ said log) ≤ suc (length log)
      go true h = omega arith
      go false h = omega arith

  count-more : (e : ℕ) (log : List ℕ) (x y : ℕ) → y ≡ cond (in_set (set_at ends e) k) (x + 1) x → x ≡ length (said log) → y ≡ length (said (e ∷ log))
  unfolding logged_offsets
  count-more e log x y h c = h ∙ go (in_set (set_at ends e) k)
    where
      go : (b : Bool) → cond b (x + 1) x ≡ length (keep b (place_in e + 1 - n) ++ said log)
      go true = omega arith
      go false = c

  first_more : (e : ℕ) (log : List ℕ) (x y : ℕ) → y ≡ cond (in_set (set_at ends e) k) (place_in e + 1 - n) x → x ≡ get_or (said log) 0 0
      → y ≡ get_or (said (e ∷ log)) 0 0
  unfolding logged_offsets
  first_more e log x y h c = h ∙ go (in_set (set_at ends e) k)
    where
      go : (b : Bool) → cond b (place_in e + 1 - n) x ≡ get_or (keep b (place_in e + 1 - n) ++ said log) 0 0
      go true = refl
      go false = c

pub zeros : (n k : ℕ) → ◌≡◌ {A = ℕ} (get_or (replicate n 0) k 0) 0
zeros zero k = refl
zeros (suc n) zero = refl
zeros (suc n) (suc k) = zeros n k

-- How many offsets a log says of each keyword, and the first (0 where there is none).
pub record Tallied (ends len log : List ℕ) (tally : Tally) : Type 0 where
  pub counted : length tally.counts ≡ 16
  pub kept : length tally.firsts ≡ 16
  pub count : (k : ℕ) → get_or tally.counts k 0 ≡ length (logged_offsets ends k (get_or len k 0) log)
  pub first : (k : ℕ) → get_or tally.firsts k 0 ≡ get_or (logged_offsets ends k (get_or len k 0) log) 0 0

-- 16 numbers are told one by one
pub sixteen : (f : ℕ → ℕ) (l : List ℕ) → length l ≡ 16 → ((k : ℕ) → k < 16 → get_or l k 0 ≡ f k) → l ≡ tabulated f 0 16
sixteen f l n h = ext_get_or 0 l (tabulated f 0 16) (n ∙ sym (length-tabulated f 0 16))
    (λ k i. h k (omega arith) ∙ sym (tabulated-at f 0 16 k 0 (omega arith) ∙ ap f (zero-add k)))

pub sixteenth : (f : ℕ → ℕ) (k : ℕ) → k < 16 → get_or (tabulated f 0 16) k 0 ≡ f k
sixteenth f k h = tabulated-at f 0 16 k 0 h ∙ ap f (zero-add k)

module _ (ends len : List ℕ) where
  abbrev pub tally : List ℕ → List ℕ → Tally
  tally counts firsts = record { counts = counts; firsts = firsts }

  -- of no entry nothing is counted
  pub tally-none : Tallied ends len [] (tally (replicate 16 0) (replicate 16 0))
  unfolding logged_offsets
  tally-none = record {
    counted = length-replicate {A = ℕ} 16 0;
    kept = length-replicate {A = ℕ} 16 0;
    count = λ k. zeros 16 k;
    first = λ k. zeros 16 k;
  }

  -- the entry before those counted
  pub tally-more : (e : ℕ) (log counts firsts counts' firsts' : List ℕ) → length counts' ≡ length counts → length firsts' ≡ length firsts
      → OneMore (set_at ends e) counts counts' → Kept (set_at ends e) (place_in e + 1) len firsts firsts'
      → Tallied ends len log (tally counts firsts) → Tallied ends len (e ∷ log) (tally counts' firsts')
  tally-more e log counts firsts counts' firsts' p q o f t = record {
    counted = p ∙ t.counted;
    kept = q ∙ t.kept;
    count = λ k. count-more ends k (get_or len k 0) e log (get_or counts k 0) (get_or counts' k 0) (o k) (t.count k);
    first = λ k. first_more ends k (get_or len k 0) e log (get_or firsts k 0) (get_or firsts' k 0) (f k) (t.first k);
  }

  -- a count is at most the number of entries
  pub count_most : (log : List ℕ) (t : Tally) → Tallied ends len log t → (k : ℕ) → get_or t.counts k 0 ≤ length log
  count_most log t r k = omega (arith, r.count k, said-most ends k (get_or len k 0) log)

  pub tallied-is : (log : List ℕ) (t : Tally) → Tallied ends len log t → t ≡ tally_of ends len log
  unfolding tally_of
  tallied-is log t r =
      let c = sixteen (λ k. length (logged_offsets ends k (get_or len k 0) log)) t.counts r.counted (λ k h. r.count k) in
      let f = sixteen (λ k. get_or (logged_offsets ends k (get_or len k 0) log) 0 0) t.firsts r.kept (λ k h. r.first k) in
      λ i. record { counts = c i; firsts = f i }

  -- ---- the tally, number by number

  module _ (log : List ℕ) (t : Tally) (e : t ≡ tally_of ends len log) where
    pub tally-counts : length t.counts ≡ 16
    unfolding tally_of
    tally-counts = ap (λ (x : Tally). length x.counts) e ∙ length-tabulated (λ k. length (logged_offsets ends k (get_or len k 0) log)) 0 16

    pub tally-firsts : length t.firsts ≡ 16
    unfolding tally_of
    tally-firsts = ap (λ (x : Tally). length x.firsts) e ∙ length-tabulated (λ k. get_or (logged_offsets ends k (get_or len k 0) log) 0 0) 0 16

    pub tally-count : (k : ℕ) → k < 16 → get_or t.counts k 0 ≡ length (logged_offsets ends k (get_or len k 0) log)
    unfolding tally_of
    tally-count k h = ap (λ (x : Tally). get_or x.counts k 0) e ∙ sixteenth (λ j. length (logged_offsets ends j (get_or len j 0) log)) k h

    pub tally-first : (k : ℕ) → k < 16 → get_or t.firsts k 0 ≡ get_or (logged_offsets ends k (get_or len k 0) log) 0 0
    unfolding tally_of
    tally-first k h = ap (λ (x : Tally). get_or x.firsts k 0) e ∙ sixteenth (λ j. get_or (logged_offsets ends j (get_or len j 0) log) 0 0) k h

    -- a count is at most the number of entries
    pub tally-most : (k : ℕ) → get_or t.counts k 0 ≤ length log
    tally-most k = ⊎_elim
        (λ (h : 16 ≤ k). omega (arith, get_or-eq_default t.counts 0 {n = k} (omega (arith, tally-counts))))
        (λ (h : k < 16). omega (arith, tally-count k h, said-most ends k (get_or len k 0) log))
        (le-or-lt 16 k)

  -- ---- two logs, one after the other

  first-append : (x y : List ℕ) → cond (eqb (length x) 0) (get_or y 0 0) (get_or x 0 0) ≡ get_or (x ++ y) 0 0
  first-append [] y = refl
  first-append (e ∷ x) y = rw (eqb-ne (suc (length x)) 0 (omega arith))

  pub tally-join : (x y : List ℕ) (a b : Tally) → a ≡ tally_of ends len x → b ≡ tally_of ends len y → tally_both a b ≡ tally_of ends len (x ++ y)
  unfolding tally_both tally_of
  tally-join x y a b p q = λ i. record { counts = counts i; firsts = firsts i }
    where
      said_in : List ℕ → ℕ → List ℕ
      said_in log k = logged_offsets ends k (get_or len k 0) log

      counts : tabulated (λ k. get_or a.counts k 0 + get_or b.counts k 0) 0 16 ≡ tabulated (λ k. length (said_in (x ++ y) k)) 0 16
      counts = tabulated-same (λ k. get_or a.counts k 0 + get_or b.counts k 0) (λ k. length (said_in (x ++ y) k)) 16 (λ k h. omega (
        arith,
        tally-count x a p k h,
        tally-count y b q k h,
        ap length (logged-append ends k (get_or len k 0) x y),
        length-append (said_in x k) (said_in y k),
      ))

      firsts : tabulated (λ k. cond (eqb (get_or a.counts k 0) 0) (get_or b.firsts k 0) (get_or a.firsts k 0)) 0 16
          ≡ tabulated (λ k. get_or (said_in (x ++ y) k) 0 0) 0 16
      firsts = tabulated-same (λ k. cond (eqb (get_or a.counts k 0) 0) (get_or b.firsts k 0) (get_or a.firsts k 0))
          (λ k. get_or (said_in (x ++ y) k) 0 0) 16 (λ k h.
          ap (λ (n : ℕ). cond (eqb n 0) (get_or b.firsts k 0) (get_or a.firsts k 0)) (tally-count x a p k h)
          ∙ ap₂ {C = ℕ} (λ u v. cond (eqb (length (said_in x k)) 0) u v) (tally-first y b q k h) (tally-first x a p k h)
          ∙ first-append (said_in x k) (said_in y k)
          ∙ ap (λ (l : List ℕ). get_or l 0 0) (sym (logged-append ends k (get_or len k 0) x y)))

  -- and can be told so
  pub tally-joins : (x y : List ℕ) (a b : Tally) → a ≡ tally_of ends len x → b ≡ tally_of ends len y → length x + length y < 18446744073709551616 → CanJoin a b
  tally-joins x y a b p q h = record {
    counted = tally-counts x a p;
    kept = tally-firsts x a p;
    counted-more = tally-counts y b q;
    kept_more = tally-firsts y b q;
    room = λ k. omega (arith, tally-most x a p k, tally-most y b q k);
  }
