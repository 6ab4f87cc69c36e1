-- Arrays that a loop fills from the front: up to j the elements are those of `full`, behind it they are d. The rows, the tables and the
-- array of tables are all such arrays. Assumes nothing.
use mathlib.Core.Path.{◌≡◌, sym, ◌∙◌}
use mathlib.Core.Logic.{◌⊎◌, inl, inr}
use mathlib.Core.List.{List}
use Prim.Native.Nat.{ℕ, ◌+◌, ◌≤◌, ◌<◌}
use native.Mathlib.Nat.{eq-or-lt_of_le}
use native.Mathlib.Omega.{arith}
use lib.ListN.{length, get_or, set, replicate, length-set, length-replicate, get_or-replicate}
use lib.Seq.{ext_get_or, get_or-set_same, get_or-set_other}
use Rattle.spec.proofs.Tests.{le-or-lt}

pub record Filled {A : Type 0} (full : List A) (d : A) (n : ℕ) (xs : List A) (j : ℕ) : Type 0 where
  pub wide : length xs ≡ n
  pub done : (k : ℕ) → k < j → get_or xs k d ≡ get_or full k d
  pub rest : (k : ℕ) → j ≤ k → k < n → get_or xs k d ≡ d

module _ {A : Type 0} (full : List A) (d : A) (n : ℕ) where
  pub filled_none : Filled full d n (replicate n d) 0
  filled_none =
      record {
        wide = length-replicate n d;
        done = λ k h. let z : ⊥ = omega arith in absurd z;
        rest = λ k _ h. get_or-replicate n k d d h;
      }

  pub filled_more : (xs : List A) (j : ℕ) (v : A) → Filled full d n xs j → j < n → v ≡ get_or full j d → Filled full d n (set xs j v) (j + 1)
  filled_more xs j v f h e =
      record {
        wide = length-set xs j v ∙ f.wide;
        done = λ k l. go k (eq-or-lt_of_le {n = k} {m = j} (omega arith));
        rest = λ k l m. get_or-set_other xs j k v d (λ z. omega arith) ∙ f.rest k (omega arith) m;
      }
    where
      go : (k : ℕ) → (k ≡ j) ⊎ (k < j) → get_or (set xs j v) k d ≡ get_or full k d
      go k (inl z) = rw z (get_or-set_same xs j v d (omega (arith, f.wide)) ∙ e)
      go k (inr l) = get_or-set_other xs j k v d (λ z. omega arith) ∙ f.done k l

  -- where `full` is d too behind what was filled
  pub filled-all : (xs : List A) (j : ℕ) → Filled full d n xs j → length full ≡ n → ((k : ℕ) → j ≤ k → k < n → get_or full k d ≡ d) → xs ≡ full
  filled-all xs j f w z = ext_get_or d xs full (f.wide ∙ sym w) (λ k h. go k (omega (arith, f.wide)) (le-or-lt j k))
    where
      go : (k : ℕ) → k < n → (j ≤ k) ⊎ (k < j) → get_or xs k d ≡ get_or full k d
      go k h (inl l) = f.rest k l h ∙ sym (z k l h)
      go k h (inr l) = f.done k l
