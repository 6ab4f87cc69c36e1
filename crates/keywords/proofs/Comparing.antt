-- Keywords that compare alike: two byte by byte, one keyword against the later ones, each against its later ones. Assumes nothing.
use mathlib.Core.Path.{◌≡◌, refl, ap}
use mathlib.Core.Bool.{Bool, ◌&&◌}
use mathlib.Core.List.{List, [], ◌∷◌}
use Prim.Native.Nat.{ℕ, zero, suc, ◌+◌, ◌-◌, ◌≤◌}
use native.Mathlib.Nat.{add-sub_cancel_left}
use native.Mathlib.Numerals.{add-one}
use native.Mathlib.Omega.{arith}
use lib.Dec.{eqb}
use lib.ListN.{length, take, drop, get_or, drop_of_length-le}
use lib.Seq.{drop-cons}
use Rattle.std.specs.List.{list_all, list_any, range_with_len, zip}
use Rattle.spec.specs.Bytes.{same, contains, twice}
use Rattle.spec.specs.Keywords.{fold_byte, folded, flag_of, folded_keywords}
use Rattle.spec.proofs.KeywordLaws.{folded-keyword}
use Rattle.keywords.specs.Parsed.{Placed}

-- ---- two keywords

pub same-zip : (flag : ℕ) (a b : List ℕ) → length a ≡ length b
    → list_all (λ (p : ℕ × ℕ). eqb (fold_byte flag p.0) (fold_byte flag p.1)) (zip a b) ≡ same (folded flag a) (folded flag b)
unfolding folded
same-zip flag [] [] e = refl
same-zip flag [] (y ∷ b) e = let z : ⊥ = omega arith in absurd z
same-zip flag (x ∷ a) [] e = let z : ⊥ = omega arith in absurd z
same-zip flag (x ∷ a) (y ∷ b) e = ap (λ (r : Bool). eqb (fold_byte flag x) (fold_byte flag y) && r) (same-zip flag a b (omega arith))

-- ---- keywords by number

-- keyword k as the code's part of the list
pub part-folded : (list : List ℕ) (flag k at n : ℕ) → flag ≡ flag_of list → Placed list k at n
    → folded flag (take (at + n - at) (drop at list)) ≡ get_or (folded_keywords list) k []
part-folded list flag k at n e p = rw (add-sub_cancel_left, p.bytes, e, folded-keyword)

-- the n keywords from i on are all that are left
module _ (l : List (List ℕ)) where
  pub contains-any : (key : List ℕ) (i n : ℕ) → i + n ≡ length l → list_any (λ k. same key (get_or l k [])) (range_with_len i n) ≡ contains key (drop i l)
  contains-any key i zero h = let e : length l ≤ i = omega arith in rw drop_of_length-le
  contains-any key i (suc n) h = rw (drop-cons l i [] (omega arith), contains-any key (i + 1) n (omega arith), add-one)

  pub twice-any : (i n : ℕ) → i + n ≡ length l → list_any (λ k. contains (get_or l k []) (drop (k + 1) l)) (range_with_len i n) ≡ twice (drop i l)
  twice-any i zero h = let e : length l ≤ i = omega arith in rw drop_of_length-le
  twice-any i (suc n) h = rw (drop-cons l i [] (omega arith), twice-any (i + 1) n (omega arith), add-one)
