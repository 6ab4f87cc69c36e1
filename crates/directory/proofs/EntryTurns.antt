-- One turn of the check of a directory's entries, over plain numbers: what is left to check from entry k on, `n` entries, is `r`. Assumes nothing.
use mathlib.Core.Path.{◌≡◌, refl, sym, ap, ◌∙◌}
use mathlib.Core.Bool.{Bool, true, false, not, cond}
use mathlib.Core.List.{List, [], ◌∷◌}
use Prim.Native.Nat.{ℕ, suc, ◌+◌, ◌-◌, ◌≤◌, ◌<◌}
use native.Mathlib.Numerals.{add-one}
use native.Mathlib.Omega.{arith}
use lib.Dec.{eqb}
use lib.ListN.{length}
use Rattle.spec.specs.Outcome.{first_number}
use Rattle.spec.specs.Directory.{Layout, size_at, offset_at, length_at, entries_code}
use Rattle.spec.proofs.EntryLaws.{entries-more, entries_none, entries-long, entries-gap, entries-past}

module _ (layout : Layout) (bytes : List ℕ) (most code count k at r : ℕ) (q : entries_code layout bytes most code (count - k) k at ≡ r) where
  -- an entry is left
  here : k < count → entries_code layout bytes most code (suc (count - (k + 1))) k at ≡ r
  here h = let e : suc (count - (k + 1)) ≡ count - k = omega arith in ap (λ (n : ℕ). entries_code layout bytes most code n k at) e ∙ q

  pub turn-none : k < count → size_at layout bytes k ≡ 0 → code ≡ r
  turn-none h z = sym (entries_none layout bytes most code (count - (k + 1)) k at z) ∙ here h

  pub turn-long : k < count → most < size_at layout bytes k → code ≡ r
  turn-long h z = sym (entries-long layout bytes most code (count - (k + 1)) k at z) ∙ here h

  pub turn_gap : k < count → (size_at layout bytes k ≡ 0 → ⊥) → size_at layout bytes k ≤ most → (offset_at layout bytes k ≡ at → ⊥) → code ≡ r
  turn_gap h z l d = sym (entries-gap layout bytes most code (count - (k + 1)) k at (omega arith) l d) ∙ here h

  turn : k < count → (size_at layout bytes k ≡ 0 → ⊥) → size_at layout bytes k ≤ most → offset_at layout bytes k ≡ at
      → entries_code layout bytes most code (count - (k + 1)) (suc k) (at + length_at layout bytes k) ≡ r
  turn h z l o = sym (entries-more layout bytes most code (count - (k + 1)) k at (omega arith) l o) ∙ here h

  pub turn-past : k < count → (size_at layout bytes k ≡ 0 → ⊥) → size_at layout bytes k ≤ most → offset_at layout bytes k ≡ at
      → length bytes < at + length_at layout bytes k → code ≡ r
  turn-past h z l o p =
      sym (entries-past layout bytes most code (count - (k + 1)) (suc k) (at + length_at layout bytes k) p) ∙ turn h z l o

  pub turn_more : k < count → (size_at layout bytes k ≡ 0 → ⊥) → size_at layout bytes k ≤ most → offset_at layout bytes k ≡ at → (x : ℕ)
      → x ≡ length_at layout bytes k
      → entries_code layout bytes most code (count - (k + 1)) (k + 1) (at + x) ≡ r
  turn_more h z l o x e = rw (e, add-one) (rw add-one at (turn h z l o))

-- behind the last entry: the end is the bytes', or it is wrong
pub ended : (layout : Layout) (bytes : List ℕ) (most code k at : ℕ) → cond (eqb at (length bytes)) 0 code ≡ entries_code layout bytes most code 0 k at
ended layout bytes most code k at = go (eqb at (length bytes))
  where
    go : (b : Bool) → cond b 0 code ≡ first_number ((not b, code) ∷ [])
    go true = refl
    go false = refl
