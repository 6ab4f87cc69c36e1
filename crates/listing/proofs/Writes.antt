-- The bytes of an occurrence, field by field. Assumes nothing.
use mathlib.Core.Path.{◌≡◌, sym, ap}
use mathlib.Core.List.{List, ◌++◌}
use Prim.Native.Nat.{ℕ, ◌+◌, ◌≤◌}
use native.Mathlib.Omega.{arith}
use lib.ListN.{length, length-append}
use Rattle.spec.specs.Bytes.{le_bytes, splice}
use Rattle.spec.specs.Join.{occurrence_bytes}
use Rattle.spec.proofs.Fields.{length-le_bytes}
use Rattle.spec.proofs.Splices.{splice-then}

-- three fields make an occurrence
pub three-fields : (l l₁ l₂ l₃ : List ℕ) (at file offset keyword : ℕ) → at + 9 ≤ length l → l₁ ≡ splice l at (le_bytes 4 file)
    → l₂ ≡ splice l₁ (at + 4) (le_bytes 4 offset)
    → l₃ ≡ splice l₂ (at + 8) (le_bytes 1 keyword) → l₃ ≡ splice l at (occurrence_bytes (record { file = file; offset = offset; keyword = keyword }))
unfolding occurrence_bytes
three-fields l l₁ l₂ l₃ at file offset keyword h p q r =
    let n₁ : length (le_bytes 4 file) ≡ 4 = length-le_bytes 4 file in
    let n₂ : length (le_bytes 4 file ++ le_bytes 4 offset) ≡ 8 = simp (length-append, length-le_bytes) in
    let two : l₂ ≡ splice l at (le_bytes 4 file ++ le_bytes 4 offset) =
    splice-then l at (le_bytes 4 file) (le_bytes 4 offset) (omega arith) p (ap (λ (k : ℕ). at + k) (sym n₁)) q in
    splice-then l at (le_bytes 4 file ++ le_bytes 4 offset) (le_bytes 1 keyword) (omega arith) two (ap (λ (k : ℕ). at + k) (sym n₂)) r
