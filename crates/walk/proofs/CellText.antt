-- A cell of the tables is the paper's: its members are the starts of the keyword in its first i bytes followed by its last j. Assumes nothing.
use mathlib.Core.Path.{◌≡◌, sym, ap, ◌∙◌}
use mathlib.Core.List.{List, append-nil}
use Prim.Native.Nat.{ℕ, ◌+◌, ◌-◌, ◌≤◌, ◌<◌}
use native.Mathlib.Nat.{zero-add}
use native.Mathlib.Omega.{arith}
use lib.ListN.{length, take, drop, length-append, length-drop}
use lib.Seq.{length-take-le}
use Rattle.spec.specs.Bytes.{each, keep}
use Rattle.spec.specs.Records.{offsets_of}
use Rattle.spec.specs.Table.{border_text, cell_of, in_cell}
use Rattle.spec.proofs.Each.{each_append, each-match, each_none}
use Rattle.spec.proofs.Stream.{cell-beyond}
use Rattle.tables.specs.Tabled.{cell_set}
use Rattle.listing.specs.Streams.{bits}
use Rattle.listing.proofs.Digits.{bits-set}

module _ (w : List ℕ) (i j : ℕ) (hi : i ≤ length w) (hj : j < length w) where
  border_text-length : length (border_text w i j) ≡ i + j
  border_text-length = omega (arith, length-append (take i w) (drop (length w - j) w), length-take-le i w hi, length-drop (length w - j) w)

  -- no start of a cell lies behind its first i bytes
  starts : cell_of w i j ≡ each (λ s. keep (in_cell w i j s) s) 0 i
  unfolding cell_of offsets_of in_cell
  starts =
      ap (each (λ s. keep (in_cell w i j s) s) 0) border_text-length
      ∙ each_append (λ s. keep (in_cell w i j s) s) 0 i j
      ∙ rw (each_none (λ s. keep (in_cell w i j s) s) (0 + i) j (λ s u v. rw (cell-beyond w i j s hj (omega arith))), append-nil)

  pub cell-text : i ≤ 32 → bits 32 0 (cell_set w i j) ≡ cell_of w i j
  unfolding cell_set
  cell-text h = bits-set (in_cell w i j) i 32 0 h ∙ each-match _ _ 0 0 i (λ s u. rw (zero-add, zero-add)) ∙ sym starts
