-- Bytes written one run after the other: what is written and what is still to come are the whole. The encoder does not matter: a turn
-- writes some first bytes of those that are to come. Assumes nothing.
use mathlib.Core.Path.{◌≡◌, refl, sym, ap, ap₂, ◌∙◌}
use mathlib.Core.List.{List, [], ◌++◌}
use Prim.Native.Nat.{ℕ, ◌+◌, ◌≤◌}
use native.Mathlib.Omega.{arith}
use lib.ListN.{length, length-append}
use Rattle.spec.specs.Bytes.{splice}
use Rattle.spec.proofs.Splices.{splice-nil, splice-splice, length-splice}

-- `whole` is to lie in the buffer from `place` on, and `rest` of it is still to come at p
pub record Going (out₀ out : List ℕ) (place p : ℕ) (whole rest : List ℕ) : Type 0 where
  pub same : length out ≡ length out₀
  pub bytes : splice out p rest ≡ splice out₀ place whole
  pub count : p + length rest ≡ place + length whole

pub going_start : (out : List ℕ) (place : ℕ) (whole : List ℕ) → Going out out place place whole whole
going_start out place whole = record { same = refl; bytes = refl; count = refl }

module _ (out₀ out : List ℕ) (place p : ℕ) (whole rest : List ℕ) (g : Going out₀ out place p whole rest) where
  -- there is room for a run
  pub going-room : (v rest' : List ℕ) → place + length whole ≤ length out₀ → rest ≡ v ++ rest' → p + length v ≤ length out
  going-room v rest' room e = let m : length rest ≡ length v + length rest' = ap length e ∙ length-append v rest' in omega (arith, g.count, g.same)

  -- a run is written
  pub going_on : (out' v rest' : List ℕ) (p' : ℕ) → place + length whole ≤ length out₀ → rest ≡ v ++ rest' → p' ≡ p + length v → out' ≡ splice out p v
      → Going out₀ out' place p' whole rest'
  going_on out' v rest' p' room e n w =
      let m : length rest ≡ length v + length rest' = ap length e ∙ length-append v rest' in
      let r : p + length v ≤ length out = going-room v rest' room e in
      record {
        same = ap length w ∙ length-splice out p v r ∙ g.same;
        bytes = ap₂ (λ (o : List ℕ) (k : ℕ). splice o k rest') w n ∙ splice-splice out p v rest' (omega arith) ∙ ap (splice out p) (sym e) ∙ g.bytes;
        count = omega (arith, g.count);
      }

  -- nothing is left
  pub going_end : rest ≡ [] → out ≡ splice out₀ place whole
  going_end e = sym (splice-nil out p) ∙ ap (splice out p) (sym e) ∙ g.bytes

  pub going-place : rest ≡ [] → p ≡ place + length whole
  going-place e = let n : length rest ≡ 0 = ap length e in omega (arith, g.count)
