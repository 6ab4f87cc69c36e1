-- Document 01, "Words": a keyword stands at an offset when its bytes from there all lie within the text, and each compares alike with the keyword's
-- byte in its place. That is `occurs_at` on what is folded. Assumes nothing.
use mathlib.Core.Path.{◌≡◌, refl, sym, ap, ◌∙◌}
use mathlib.Core.Logic.{◌↔◌}
use mathlib.Core.Bool.{Bool, true, ◌&&◌, false≢true}
use mathlib.Core.List.{List, [], ◌∷◌}
use Prim.Native.Nat.{ℕ, zero, suc, ◌+◌, ◌-◌, ◌≤◌, ◌<◌}
use native.Mathlib.Nat.{not-suc-le-zero}
use native.Mathlib.Omega.{arith}
use lib.ListN.{length, get_or, drop, length-drop}
use lib.Seq.{get_or-drop}
use lib.Dec.{eqb}
use borrow.Author.Tests.{eqb-true}
use Rattle.spec.specs.Bytes.{begins, occurs_at}
use Rattle.spec.specs.Keywords.{fold_byte, folded}
use Rattle.spec.proofs.Tests.{and_left, and_right, eqb_same}
use Rattle.spec.proofs.JoinIsSearch.{get_d_map}
use Rattle.spec.proofs.Folding.{folded-length}

both : (a b : Bool) → a ≡ true → b ≡ true → (a && b) ≡ true
both a b e f = rw (e, f)

begins-long : (w x : List ℕ) → begins w x ≡ true → length w ≤ length x
begins-long [] x e = omega arith
begins-long (k ∷ w) [] e = absurd (false≢true e)
begins-long (k ∷ w) (t ∷ x) e = omega (arith, begins-long w x (and_right (eqb k t) (begins w x) e))

begins-at : (w x : List ℕ) → begins w x ≡ true → (i : ℕ) → i < length w → get_or x i 0 ≡ get_or w i 0
begins-at [] x e i h = absurd (not-suc-le-zero h)
begins-at (k ∷ w) [] e i h = absurd (false≢true e)
begins-at (k ∷ w) (t ∷ x) e zero h = sym (eqb-true k t (and_left (eqb k t) (begins w x) e))
begins-at (k ∷ w) (t ∷ x) e (suc i) h = begins-at w x (and_right (eqb k t) (begins w x) e) i (omega arith)

begins-of : (w x : List ℕ) → length w ≤ length x → ((i : ℕ) → i < length w → get_or x i 0 ≡ get_or w i 0) → begins w x ≡ true
begins-of [] x l h = refl
begins-of (k ∷ w) [] l h = absurd (not-suc-le-zero l)
begins-of (k ∷ w) (t ∷ x) l h =
    let e : t ≡ k = h 0 (omega arith) in
    both (eqb k t) (begins w x) (ap (eqb k) e ∙ eqb_same k) (begins-of w x (omega arith) (λ i m. h (suc i) (omega arith)))

-- Each byte compares alike with the keyword's in its place.
abbrev pub Alike : ℕ → List ℕ → List ℕ → ℕ → Type 0
Alike flag keyword text at = (i : ℕ) → i < length keyword → fold_byte flag (get_or text (at + i) 0) ≡ fold_byte flag (get_or keyword i 0)

module _ (flag : ℕ) (keyword text : List ℕ) (at : ℕ) (nonempty : 1 ≤ length keyword) where
  folded-at : (l : List ℕ) (i : ℕ) → i < length l → get_or (folded flag l) i 0 ≡ fold_byte flag (get_or l i 0)
  unfolding folded
  folded-at l i h = get_d_map (fold_byte flag) l i 0 0 h

  pub occurs-text : (occurs_at (folded flag keyword) (folded flag text) at ≡ true) ↔ ((at + length keyword ≤ length text) × Alike flag keyword text at)
  occurs-text = (there, back)
    where
      m : length (folded flag keyword) ≡ length keyword
      m = folded-length flag keyword

      n : length (drop at (folded flag text)) ≡ length text - at
      n = length-drop at (folded flag text) ∙ ap (λ (k : ℕ). k - at) (folded-length flag text)

      there : occurs_at (folded flag keyword) (folded flag text) at ≡ true → (at + length keyword ≤ length text) × Alike flag keyword text at
      there e =
          let l : length (folded flag keyword) ≤ length (drop at (folded flag text)) = begins-long (folded flag keyword) (drop at (folded flag text)) e in
          let r : at + length keyword ≤ length text = omega (arith, m, n) in (
            r,
            λ i h.
                sym (folded-at text (at + i) (omega arith)) ∙ sym (get_or-drop at (folded flag text) i 0)
                ∙ begins-at (folded flag keyword) (drop at (folded flag text)) e i (omega (arith, m)) ∙ folded-at keyword i h,
          )

      back : (at + length keyword ≤ length text) × Alike flag keyword text at → occurs_at (folded flag keyword) (folded flag text) at ≡ true
      back p =
          let r : at + length keyword ≤ length text = p.0 in
          begins-of (folded flag keyword) (drop at (folded flag text)) (omega (arith, m, n))
          (λ i h.
          let g : i < length keyword = omega (arith, m) in
          get_or-drop at (folded flag text) i 0 ∙ folded-at text (at + i) (omega arith) ∙ p.1 i g ∙ sym (folded-at keyword i g))
