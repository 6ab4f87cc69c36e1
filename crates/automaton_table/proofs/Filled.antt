-- Arrays filled from the front: what is left, written from i on, gives the whole. Assumes nothing.
use mathlib.Core.Path.{◌≡◌, sym, ap, ◌∙◌}
use mathlib.Core.List.{List, ◌∷◌}
use Prim.Native.Nat.{ℕ, suc, ◌+◌, ◌-◌, ◌≤◌, ◌<◌}
use native.Mathlib.Numerals.{add-one}
use native.Mathlib.Omega.{arith}
use lib.ListN.{length, set}
use Rattle.spec.specs.Bytes.{splice}
use Rattle.spec.proofs.Splices.{splice-nil, splice-cons}
use Rattle.spec.proofs.Tabulated.{tabulated}

module _ (f : ℕ → ℕ) (n : ℕ) (whole : List ℕ) where
  pub fill_on : (l : List ℕ) (i x : ℕ) → i < n → i < length l → x ≡ f i → splice l i (tabulated f i (n - i)) ≡ whole
      → splice (set l i x) (i + 1) (tabulated f (i + 1) (n - (i + 1))) ≡ whole
  fill_on l i x h m e w =
      let b : n - i ≡ suc (n - (i + 1)) = omega arith in
      let q : f i ∷ tabulated f (i + 1) (n - (i + 1)) ≡ tabulated f i (n - i) = rw (b, add-one) in
      splice-cons l i x (tabulated f (i + 1) (n - (i + 1))) m ∙ rw e (ap (splice l i) q ∙ w)

  pub fill_end : (l : List ℕ) (i : ℕ) → n ≤ i → splice l i (tabulated f i (n - i)) ≡ whole → l ≡ whole
  fill_end l i h w = let z : n - i ≡ 0 = omega arith in sym (splice-nil l i) ∙ rw z at w

pub fill_start : (f : ℕ → ℕ) (l : List ℕ) (n m : ℕ) → n ≡ m → splice l 0 (tabulated f 0 (n - 0)) ≡ splice l 0 (tabulated f 0 m)
fill_start f l n m e = let z : n - 0 ≡ m = omega arith in rw z
