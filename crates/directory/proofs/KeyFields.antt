-- Bytes compared field by field: equal fields of equal widths have equal bytes. Assumes nothing.
use mathlib.Core.Path.{◌≡◌, sym, ap, ap₂, ◌∙◌}
use mathlib.Core.List.{List, ◌++◌}
use mathlib.Core.Bool.{false}
use Prim.Native.Nat.{ℕ, ◌+◌, ◌≤◌, ◌<◌}
use native.Mathlib.Omega.{arith}
use lib.ListN.{length, take, drop, length-drop}
use lib.Seq.{take-add}
use Rattle.spec.specs.Bytes.{field_at, le_bytes, same, AllBytes}
use Rattle.spec.proofs.FieldLists.{bytes_drop, le_bytes-take, field_lt}
use Rattle.spec.proofs.Same.{same_not}

module _ (a b : List ℕ) (p : AllBytes a) (q : AllBytes b) (at w : ℕ) (h : at + w ≤ length a) (l : at + w ≤ length b) where
  -- one more field
  pub equal-more : take at a ≡ take at b → field_at a at w ≡ field_at b at w → take (at + w) a ≡ take (at + w) b
  equal-more e f =
      let one : take w (drop at a) ≡ take w (drop at b) =
      sym (le_bytes-take w (drop at a) (bytes_drop at a p) (omega (arith, length-drop at a)))
      ∙ ap (le_bytes w) f
      ∙ le_bytes-take w (drop at b) (bytes_drop at b q) (omega (arith, length-drop at b))
      in take-add at w a ∙ ap₂ {C = List ℕ} (λ x y. x ++ y) e one ∙ sym (take-add at w b)

-- a field that differs
pub other-field : (a b : List ℕ) (at w : ℕ) → (field_at a at w ≡ field_at b at w → ⊥) → false ≡ same a b
other-field a b at w d = sym (same_not a b (λ e. d (ap (λ (l : List ℕ). field_at l at w) e)))

-- what was read as a field of 4 bytes is below 2^32
pub read-lt : (bytes : List ℕ) (at r : ℕ) → AllBytes bytes → r ≡ field_at bytes at 4 → r < 4294967296
read-lt bytes at r b e = rw e (field_lt bytes at 4 b)
