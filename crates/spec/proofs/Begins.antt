-- Laws of `begins`. The law of a cut has no side condition and carries nearly every argument about cuts. Assumes nothing.
use mathlib.Core.Path.{◌≡◌, refl, sym, ap₂}
use mathlib.Core.Bool.{true, false, ◌&&◌, and_assoc, and-true, and-false, false≢true}
use mathlib.Core.List.{List, [], ◌∷◌, ◌++◌}
use Prim.Native.Nat.{ℕ, ◌≤◌, ◌<◌}
use native.Mathlib.Nat.{le_of_suc-le-suc, not-suc-le-zero}
use lib.ListN.{length, take, drop, drop_of_length-le}
use lib.Seq.{take_all}
use lib.Dec.{eqb, eqb→eq}
use Rattle.spec.specs.Bytes.{begins}
use Rattle.spec.proofs.Tests.{T_of, and_left, and_right}

pub begins-append : (w x y : List ℕ) → begins w (x ++ y) ≡ (begins (take (length x) w) x && begins (drop (length x) w) y)
begins-append w [] y = refl
begins-append [] (a ∷ x) y = refl
begins-append (b ∷ w) (a ∷ x) y = rw (begins-append w x y, and_assoc)

-- a keyword no longer than the first part has nothing to do with the second
pub begins-front : (w x y : List ℕ) → length w ≤ length x → begins w (x ++ y) ≡ begins w x
begins-front w x y h = rw (begins-append, take_all, drop_of_length-le, and-true)

pub begins-short : (w x : List ℕ) → length x < length w → begins w x ≡ false
begins-short [] x h = absurd (not-suc-le-zero h)
begins-short (b ∷ w) [] h = refl
begins-short (b ∷ w) (a ∷ x) h = rw (begins-short w x (le_of_suc-le-suc h), and-false)

-- what begins with a keyword is that keyword and the rest
pub begins-split : (w x : List ℕ) → begins w x ≡ true → x ≡ w ++ drop (length w) x
begins-split [] x e = refl
begins-split (b ∷ w) [] e = absurd (false≢true e)
begins-split (b ∷ w) (a ∷ x) e =
    ap₂ {C = List ℕ} (λ h t. h ∷ t) (sym (eqb→eq b a (T_of (eqb b a) (and_left (eqb b a) (begins w x) e))))
    (begins-split w x (and_right (eqb b a) (begins w x) e))
