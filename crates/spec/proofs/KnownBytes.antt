-- Reading bytes that are known from some place on: what stands there first, and what follows it. Assumes nothing.
use mathlib.Core.Path.{◌≡◌, sym, ap, ◌∙◌}
use mathlib.Core.List.{List, ◌++◌}
use Prim.Native.Nat.{ℕ, ◌+◌, ◌^◌, ◌<◌}
use lib.ListN.{length, drop}
use lib.Seq.{take_at, drop_at, drop-drop}
use Rattle.spec.specs.Bytes.{part, field_at, le_value, le_bytes}
use Rattle.spec.proofs.Fields.{length-le_bytes, le_value-le_bytes}

module _ (bytes : List ℕ) (at : ℕ) where
  pub part-here : (p rest : List ℕ) (n : ℕ) → length p ≡ n → drop at bytes ≡ p ++ rest → part bytes at n ≡ p
  part-here p rest n l e = rw e (take_at p rest n l)

  pub behind-part : (p rest : List ℕ) (n : ℕ) → length p ≡ n → drop at bytes ≡ p ++ rest → drop (at + n) bytes ≡ rest
  behind-part p rest n l e = sym (drop-drop n at bytes) ∙ rw e (drop_at p rest n l)

  pub field-here : (width n : ℕ) (rest : List ℕ) → n < 256 ^ width → drop at bytes ≡ le_bytes width n ++ rest → field_at bytes at width ≡ n
  field-here width n rest l e = ap le_value (part-here (le_bytes width n) rest width (length-le_bytes width n) e) ∙ le_value-le_bytes width n l

  pub behind-field : (width n : ℕ) (rest : List ℕ) → drop at bytes ≡ le_bytes width n ++ rest → drop (at + width) bytes ≡ rest
  behind-field width n rest e = behind-part (le_bytes width n) rest width (length-le_bytes width n) e
