-- Two regions of one buffer, written in turns: the directory in front and the bodies behind it. The idea: a run that ends before another
-- begins can be written before it or after it. Assumes nothing.
use mathlib.Core.Path.{◌≡◌, ap, ◌∙◌}
use mathlib.Core.List.{List, ◌++◌}
use Prim.Native.Nat.{ℕ, ◌+◌, ◌-◌, ◌≤◌}
use lib.ListN.{length}
use borrow.Rule.Slice.PartMut.{mid_of, put_mid}
use Rattle.spec.specs.Bytes.{splice}
use Rattle.spec.proofs.Splices.{splice-tail, splice-regions}

-- A turn: a body b is written at `at`, then its entry e at d; the rest of the directory and of the bodies is left.
pub two-regions : (out last out₂ whole : List ℕ) (d at : ℕ) (e dr b br : List ℕ) → d + length (e ++ dr) ≤ at → at + length b ≤ length out
    → last ≡ splice (mid_of at (length out - at) out) 0 b → out₂ ≡ splice (put_mid at (length out - at) out last) d e
    → splice (splice out d (e ++ dr)) at (b ++ br) ≡ whole → splice (splice out₂ (d + length e) dr) (at + length b) br ≡ whole
two-regions out last out₂ whole d at e dr b br h m p q w =
    let x : out₂ ≡ splice (splice out at b) d e = q ∙ ap (λ (l : List ℕ). splice l d e) (splice-tail at out last b m p) in
    ap (λ (l : List ℕ). splice (splice l (d + length e) dr) (at + length b) br) x ∙ splice-regions out d at e dr b br h m ∙ w
