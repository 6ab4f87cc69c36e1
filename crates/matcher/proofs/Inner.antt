-- The set of inner starts, one start after the other. Assumes nothing.
use mathlib.Core.Path.{◌≡◌, refl, sym, ap, ap₂, ◌∙◌}
use mathlib.Core.Bool.{Bool, ◌&&◌}
use mathlib.Core.Logic.{◌⊎◌, inl, inr}
use mathlib.Core.List.{List}
use Prim.Native.Nat.{ℕ, zero, suc, ◌+◌, ◌-◌, ◌≤◌, ◌<◌}
use native.Mathlib.Nat.{add-sub_cancel_left}
use native.Mathlib.Omega.{arith}
use lib.Dec.{leb}
use lib.ListN.{length, take, drop}
use Rattle.spec.specs.Bytes.{occurs_at, set_of}
use Rattle.spec.specs.Keywords.{folded}
use Rattle.spec.specs.Records.{lies_at, inner_of}
use Rattle.spec.proofs.Tests.{leb-true, le-or-lt}
use Rattle.spec.proofs.Folding.{folded-take, folded-drop, folded-length}

module _ (flag : ℕ) (keyword chunk : List ℕ) where
  -- the test of a start, as the definition asks it
  abbrev pub inside : ℕ → Bool
  inside p = leb 1 p && lies_at (folded flag keyword) (folded flag chunk) p

  -- a set of the starts below 1 is empty
  none_below : (n : ℕ) → n ≤ 1 → set_of inside n ≡ 0
  none_below zero h = refl
  none_below (suc zero) h = refl
  none_below (suc (suc n)) h = let z : ⊥ = omega arith in absurd z

  inner-is : inner_of (folded flag keyword) (folded flag chunk) ≡ set_of inside (length keyword - length chunk)
  unfolding inner_of
  inner-is = ap (set_of inside) (ap₂ (λ (x y : ℕ). x - y) (folded-length flag keyword) (folded-length flag chunk))

  -- a chunk of more than n - 2 bytes lies nowhere inside
  pub inside-end : (p set : ℕ) → p ≤ length keyword - length chunk + 1 → (1 ≤ length keyword - length chunk → p ≡ length keyword - length chunk)
      → set ≡ set_of inside p → set ≡ inner_of (folded flag keyword) (folded flag chunk)
  inside-end p set few ends q = q ∙ go (le-or-lt 1 (length keyword - length chunk)) ∙ sym inner-is
    where
      go : (1 ≤ length keyword - length chunk) ⊎ (length keyword - length chunk < 1) → set_of inside p ≡ set_of inside (length keyword - length chunk)
      go (inl h) = ap (set_of inside) (ends h)
      go (inr h) = none_below p (omega arith) ∙ sym (none_below (length keyword - length chunk) (omega arith))

  -- the part of the keyword that the code compares
  pub inside-part : (p : ℕ) → 1 ≤ p → (r : Bool) → r ≡ occurs_at (folded flag (take (p + length chunk - p) (drop p keyword))) (folded flag chunk) 0
      → r ≡ inside p
  inside-part p h r e = e ∙ rw (add-sub_cancel_left, folded-take, folded-drop, leb-true 1 p h, folded-length)
