-- Laws of folding, and of a comparison that folds byte by byte. Assumes nothing.
use mathlib.Core.Path.{◌≡◌, refl, sym, ap, ◌∙◌}
use mathlib.Core.Logic.{◌≢◌, ⊎_elim}
use mathlib.Core.Bool.{Bool, true, false, ◌&&◌, not, and-false, false≢true}
use mathlib.Core.List.{List, [], ◌∷◌, ◌++◌, map}
use Prim.Native.Nat.{ℕ, zero, suc, ◌+◌, ◌-◌, ◌≤◌, ◌<◌}
use native.Mathlib.Omega.{arith}
use borrow.Author.Tests.{eq-eqb, ne_eqb}
use lib.ListN.{length, take, drop, get_or, length-map, length-drop, drop_of_length-le}
use lib.Seq.{drop-cons, take_all}
use lib.Dec.{eqb}
use Rattle.spec.specs.Bytes.{begins, occurs_at, largest, same}
use Rattle.spec.specs.Keywords.{is_upper, fold_byte, folded, folded_all}
use Rattle.spec.specs.Records.{reach, ends_with, starts_with, prefix_of, suffix_of}
use Rattle.spec.proofs.Tests.{eqb-ne, eqb_same, leb-true, leb-false, le-or-lt}
use Rattle.spec.proofs.Begins.{begins-short}
use Rattle.spec.proofs.Same.{same-lengths, same_turn, same_end}

pub fold-other : (flag b : ℕ) → flag ≢ 1 → b ≡ fold_byte flag b
unfolding fold_byte
fold-other flag b h = rw (eqb-ne flag 1 h)

pub fold-plain : (flag b : ℕ) → is_upper b ≡ false → b ≡ fold_byte flag b
unfolding fold_byte
fold-plain flag b h = rw (h, and-false)

pub fold-upper : (flag b : ℕ) → flag ≡ 1 → is_upper b ≡ true → b + 0x20 ≡ fold_byte flag b
unfolding fold_byte
fold-upper flag b e h = rw (e, h)

-- ---- capitals: 41 to 5A, C0 to DE, and not D7

pub upper-low : (b : ℕ) → b < 0x41 → false ≡ is_upper b
unfolding is_upper
upper-low b h = rw (leb-false 0x41 b h, leb-false 0xC0 b (omega arith))

pub upper-ascii : (b : ℕ) → 0x41 ≤ b → b ≤ 0x5A → true ≡ is_upper b
unfolding is_upper
upper-ascii b l h = rw (leb-true 0x41 b l, leb-true b 0x5A h)

pub upper-between : (b : ℕ) → 0x5A < b → b < 0xC0 → false ≡ is_upper b
unfolding is_upper
upper-between b l h = rw (leb-false b 0x5A l, and-false, leb-false 0xC0 b h)

pub upper-high : (b : ℕ) → 0xDE < b → false ≡ is_upper b
unfolding is_upper
upper-high b h = rw (leb-false b 0x5A (omega arith), and-false, leb-false b 0xDE h, and-false)

pub upper-accented : (b : ℕ) → 0xC0 ≤ b → b ≤ 0xDE → not (eqb b 0xD7) ≡ is_upper b
unfolding is_upper
upper-accented b l h = rw (leb-false b 0x5A (omega arith), and-false, leb-true 0xC0 b l, leb-true b 0xDE h)

-- the byte 20 higher is a byte
pub upper-most : (b : ℕ) → is_upper b ≡ true → b ≤ 0xDE
upper-most b e = ⊎_elim (λ h. h) (λ h. absurd (false≢true (upper-high b h ∙ e))) (le-or-lt b 0xDE)

module _ (flag : ℕ) where
  pub folded-length : (l : List ℕ) → length (folded flag l) ≡ length l
  unfolding folded
  folded-length l = length-map l (fold_byte flag)

  pub folded-get : (l : List ℕ) (k : ℕ) → k < length l → get_or (folded flag l) k 0 ≡ fold_byte flag (get_or l k 0)
  unfolding folded
  folded-get [] k h = let z : ⊥ = omega arith in absurd z
  folded-get (x ∷ l) zero h = refl
  folded-get (x ∷ l) (suc k) h = folded-get l k (omega arith)

  pub folded-take : (i : ℕ) (l : List ℕ) → folded flag (take i l) ≡ take i (folded flag l)
  unfolding folded
  folded-take zero l = refl
  folded-take (suc i) [] = refl
  folded-take (suc i) (x ∷ l) = ap {B = List ℕ} (λ r. fold_byte flag x ∷ r) (folded-take i l)

  pub folded-drop : (i : ℕ) (l : List ℕ) → folded flag (drop i l) ≡ drop i (folded flag l)
  unfolding folded
  folded-drop zero l = refl
  folded-drop (suc i) [] = refl
  folded-drop (suc i) (x ∷ l) = folded-drop i l

  pub folded-append : (a b : List ℕ) → folded flag (a ++ b) ≡ folded flag a ++ folded flag b
  unfolding folded
  folded-append [] b = refl
  folded-append (x ∷ a) b = ap {B = List ℕ} (λ l. fold_byte flag x ∷ l) (folded-append a b)

  pub lengths-folded : (ls : List (List ℕ)) → map length (folded_all flag ls) ≡ map length ls
  lengths-folded [] = refl
  lengths-folded (l ∷ ls) = rw (folded-length, lengths-folded ls)

  -- ---- one byte of a comparison: `rest k` is what is left to compare at the keyword's byte k

  abbrev pub rest : List ℕ → List ℕ → ℕ → ℕ → Bool
  rest w d at k = begins (drop k (folded flag w)) (drop (at + k) (folded flag d))

  rest-cons : (w d : List ℕ) (at k : ℕ) → k < length w → at + k < length d
      → rest w d at k ≡ (eqb (fold_byte flag (get_or w k 0)) (fold_byte flag (get_or d (at + k) 0)) && rest w d at (k + 1))
  rest-cons w d at k hw hd =
      let n : at + (k + 1) ≡ suc (at + k) = omega arith in
      let m : k + 1 ≡ suc k = omega arith in
      let a : k < length (folded flag w) = rw folded-length hw in
      let b : at + k < length (folded flag d) = rw folded-length hd in
      rw (n, m, drop-cons (folded flag w) k 0 a, drop-cons (folded flag d) (at + k) 0 b, folded-get w k hw, folded-get d (at + k) hd)

  pub rest-same : (w d : List ℕ) (at k : ℕ) → k < length w → at + k < length d → fold_byte flag (get_or w k 0) ≡ fold_byte flag (get_or d (at + k) 0)
      → rest w d at k ≡ rest w d at (k + 1)
  rest-same w d at k hw hd e = rest-cons w d at k hw hd ∙ rw (e, eqb_same)

  pub rest-differs : (w d : List ℕ) (at k : ℕ) → k < length w → at + k < length d → fold_byte flag (get_or w k 0) ≢ fold_byte flag (get_or d (at + k) 0)
      → rest w d at k ≡ false
  rest-differs w d at k hw hd e = rest-cons w d at k hw hd ∙ rw (eqb-ne _ _ e)

  pub rest-done : (w d : List ℕ) (at k : ℕ) → length w ≤ k → rest w d at k ≡ true
  rest-done w d at k h = let l : length (folded flag w) ≤ k = rw folded-length h in rw (drop_of_length-le (folded flag w) l)

  pub occurs_at-out : (w d : List ℕ) (at : ℕ) → length d - at < length w → occurs_at (folded flag w) (folded flag d) at ≡ false
  occurs_at-out w d at h = begins-short (folded flag w) (drop at (folded flag d)) (rw (length-drop, folded-length, folded-length) h)

-- ---- prefix and suffix, by tests that are `occurs_at` of a part of the keyword

module _ (flag : ℕ) (keyword chunk : List ℕ) where
  reach-folded : reach (length (folded flag keyword)) (length (folded flag chunk)) ≡ reach (length keyword) (length chunk)
  reach-folded = rw (folded-length, folded-length)

  pub prefix-down : prefix_of (folded flag keyword) (folded flag chunk) ≡ largest (ends_with (folded flag keyword) (folded flag chunk)) (reach (length keyword) (length chunk))
  unfolding prefix_of
  prefix-down = rw reach-folded

  pub suffix-down : suffix_of (folded flag keyword) (folded flag chunk) ≡ largest (starts_with (folded flag keyword) (folded flag chunk)) (reach (length keyword) (length chunk))
  unfolding suffix_of
  suffix-down = rw reach-folded

  pub ends-part : (i : ℕ) → occurs_at (folded flag (take i keyword)) (folded flag chunk) (length chunk - i) ≡ ends_with (folded flag keyword) (folded flag chunk) i
  ends-part i = rw (folded-take, folded-length)

  -- the part of the code, `&keyword[from..]`, is `take (n - from) (drop from keyword)`
  pub starts-part : (j : ℕ) → occurs_at (folded flag (take (length keyword - (length keyword - j)) (drop (length keyword - j) keyword))) (folded flag chunk) 0 ≡ starts_with (folded flag keyword) (folded flag chunk) j
  starts-part j =
      let l : length (drop (length keyword - j) keyword) ≤ length keyword - (length keyword - j) = omega (arith, length-drop (length keyword - j) keyword) in
      rw (take_all, folded-drop, folded-length)

-- ---- two lists that compare alike, byte by byte

module _ (flag : ℕ) (a b : List ℕ) where
  -- what is left to compare at byte i
  abbrev pub left : ℕ → Bool
  left i = same (drop i (folded flag a)) (drop i (folded flag b))

  pub alike-lengths : (length a ≡ length b → ⊥) → false ≡ same (folded flag a) (folded flag b)
  alike-lengths n = same-lengths (folded flag a) (folded flag b) (λ e. n (sym (folded-length flag a) ∙ e ∙ folded-length flag b))

  turn : (i : ℕ) → i < length a → i < length b → left i ≡ (eqb (fold_byte flag (get_or a i 0)) (fold_byte flag (get_or b i 0)) && left (i + 1))
  turn i h l =
      same_turn (folded flag a) (folded flag b) i (rw folded-length h) (rw folded-length l)
      ∙ rw (folded-get flag a i h, folded-get flag b i l)

  pub alike-on : (i x y : ℕ) → i < length a → i < length b → x ≡ fold_byte flag (get_or a i 0) → y ≡ fold_byte flag (get_or b i 0) → x ≡ y → left (i + 1) ≡ left i
  alike-on i x y h l p q e = sym (turn i h l ∙ rw (← p, ← q, eq-eqb x y e))

  pub alike-not : (i x y : ℕ) → i < length a → i < length b → x ≡ fold_byte flag (get_or a i 0) → y ≡ fold_byte flag (get_or b i 0) → (x ≡ y → ⊥) → false ≡ left i
  alike-not i x y h l p q e = sym (turn i h l ∙ rw (← p, ← q, ne_eqb x y e))

  pub alike_end : (i : ℕ) → length a ≤ i → length b ≤ i → true ≡ left i
  alike_end i h l = same_end (folded flag a) (folded flag b) i (rw folded-length h) (rw folded-length l)
