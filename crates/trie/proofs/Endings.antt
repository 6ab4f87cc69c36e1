-- Laws of endings: what ends a list, what ends its tail, and where an occurrence ends. Prefixes are told by endings. Assumes nothing.
use mathlib.Core.Path.{◌≡◌, refl, sym, ap, ◌∙◌}
use mathlib.Core.Logic.{◌≢◌, ◌⊎◌, inl, inr}
use mathlib.Core.Bool.{Bool, true, false, ◌&&◌, true≢false}
use mathlib.Core.List.{List, [], ◌∷◌, ◌++◌}
use Prim.Native.Nat.{ℕ, zero, suc, ◌-◌, ◌≤◌, ◌<◌, min}
use native.Mathlib.Nat.{le_refl, le-suc_iff}
use native.Mathlib.Omega.{arith}
use lib.ListN.{length, take, drop, length-drop, take-append-drop}
use lib.Seq.{length-take-le, drop-append-le}
use lib.Dec.{leb}
use Rattle.spec.specs.Bytes.{same, begins, occurs_at, largest}
use Rattle.spec.specs.Form.{Form}
use Rattle.spec.specs.Records.{reach, ends_with, prefix_of, record_of}
use Rattle.spec.proofs.Tests.{le-or-lt, leb-true, leb-false}
use Rattle.spec.proofs.Same.{same_refl, same_not, same-lengths}
use Rattle.spec.proofs.Begins.{begins-front}
use Rattle.trie.specs.Endings.{is_ending, ends_at, prefix_at}

-- of equal length, to begin is to be the same
pub begins-same : (u x : List ℕ) → length u ≡ length x → begins u x ≡ same u x
begins-same [] [] e = refl
begins-same [] (a ∷ x) e = let z : ⊥ = omega arith in absurd z
begins-same (b ∷ u) [] e = refl
begins-same (b ∷ u) (a ∷ x) e = rw (begins-same u x (omega arith))

-- ---- endings

-- an ending is no longer than the bytes
pub ending-long : (u x : List ℕ) → length x < length u → is_ending u x ≡ false
unfolding is_ending
ending-long u x l =
    let n : length x - length u ≡ 0 = omega arith in
    rw n (sym (same-lengths u x (λ e. omega arith)))

pub ending-self : (u : List ℕ) → is_ending u u ≡ true
unfolding is_ending
ending-self u = let n : length u - length u ≡ 0 = omega arith in rw n (same_refl u)

-- an ending that is not the whole is one of the tail
pub ending-tail : (u : List ℕ) (a : ℕ) (x : List ℕ) → u ≢ a ∷ x → is_ending u (a ∷ x) ≡ is_ending u x
unfolding is_ending
ending-tail u a x h = go (le-or-lt (length u) (length x))
  where
    go : (length u ≤ length x) ⊎ (length x < length u) → is_ending u (a ∷ x) ≡ is_ending u x
    go (inl l) = let n : suc (length x) - length u ≡ suc (length x - length u) = omega arith in rw n
    go (inr l) =
        let n : suc (length x) - length u ≡ 0 = omega arith in
        rw n (same_not u (a ∷ x) h ∙ sym (ending-long u x l))

-- an ending of the tail is one of the whole
pub ending-more : (u : List ℕ) (a : ℕ) (x : List ℕ) → is_ending u x ≡ true → is_ending u (a ∷ x) ≡ true
ending-more u a x e = ending-tail u a x (λ q. true≢false (sym e ∙ ending-long u x (rw q (le_refl _)))) ∙ e

pub ending-le : (u x : List ℕ) → is_ending u x ≡ true → length u ≤ length x
ending-le u x e = go (le-or-lt (length u) (length x))
  where
    go : (length u ≤ length x) ⊎ (length x < length u) → length u ≤ length x
    go (inl l) = l
    go (inr l) = absurd (true≢false (sym e ∙ ending-long u x l))

-- ---- occurrences

-- the keyword occurs so that it ends with the first p bytes
occurs-ending : (w c : List ℕ) (p : ℕ) → length w ≤ p → p ≤ length c → occurs_at w c (p - length w) ≡ is_ending w (take p c)
unfolding is_ending
occurs-ending w c p l h =
    let k : length (take p c) ≡ p = length-take-le p c h in
    let r : length (drop (p - length w) (take p c)) ≡ length w = omega (arith, length-drop (p - length w) (take p c)) in
    let e : drop (p - length w) c ≡ drop (p - length w) (take p c) ++ drop p c =
    ap (drop (p - length w)) (sym (take-append-drop p c)) ∙ drop-append-le (p - length w) (take p c) (drop p c) (omega arith) in
    rw (k, e, begins-front w (drop (p - length w) (take p c)) (drop p c) (omega arith)) (begins-same w (drop (p - length w) (take p c)) (sym r))

-- an occurrence ends at place p where the keyword is an ending of the first p bytes
pub ends-ending : (keyword chunk : List ℕ) (p : ℕ) → p ≤ length chunk → ends_at keyword chunk p ≡ is_ending keyword (take p chunk)
unfolding ends_at
ends-ending w c p h = go (le-or-lt (length w) p)
  where
    go : (length w ≤ p) ⊎ (p < length w) → (leb (length w) p && occurs_at w c (p - length w)) ≡ is_ending w (take p c)
    go (inl l) = rw (leb-true (length w) p l) (occurs-ending w c p l h)
    go (inr l) = rw (leb-false (length w) p l) (sym (ending-long w (take p c) (omega (arith, length-take-le p c h))))

-- ---- prefixes

-- tests that say the same up to the bound have the same largest number
pub largest-match : (t s : ℕ → Bool) (n : ℕ) → ((i : ℕ) → i ≤ n → t i ≡ s i) → largest t n ≡ largest s n
largest-match t s zero h = refl
largest-match t s (suc n) h = rw (h (suc n) (le_refl _), largest-match t s n (λ i l. h i (omega arith)))

-- numbers above m that do not pass do not count
pub largest-below : (t : ℕ → Bool) (m n : ℕ) → m ≤ n → ((i : ℕ) → m < i → i ≤ n → t i ≡ false) → largest t n ≡ largest t m
largest-below t m zero l h = let z : m ≡ 0 = omega arith in rw z
largest-below t m (suc n) l h = go (le-suc_iff.0 l) (λ k. largest-below t m n k (λ i a b. h i a (omega arith)))
  where
    go : (m ≤ n) ⊎ (m ≡ suc n) → (m ≤ n → largest t n ≡ largest t m) → largest t (suc n) ≡ largest t m
    go (inl k) ih = rw (h (suc n) (omega arith) (le_refl _)) (ih k)
    go (inr k) ih = ap (largest t) (sym k)

ends-with : (w c : List ℕ) (i : ℕ) → i ≤ length w → i ≤ length c → ends_with w c i ≡ is_ending (take i w) c
unfolding is_ending
ends-with w c i h l =
    let k : length (take i w) ≡ i = length-take-le i w h in
    rw k (begins-same (take i w) (drop (length c - i) c) (omega (arith, length-drop (length c - i) c)))

-- the record's prefix is the keyword's longest proper beginning that is an ending of the chunk
pub prefix-ending : (f : Form) (keyword chunk : List ℕ) → (record_of f keyword chunk).prefix ≡ prefix_at keyword chunk
unfolding record_of prefix_of prefix_at reach
prefix-ending f w c =
    largest-match (ends_with w c) (λ i. is_ending (take i w) c) (min (length w - 1) (length c)) (λ i l. ends-with w c i (omega arith) (omega arith))
    ∙ sym (largest-below (λ i. is_ending (take i w) c) (min (length w - 1) (length c)) (length w - 1) (omega arith)
    (λ i l h. ending-long (take i w) c (omega (arith, length-take-le i w (omega arith)))))
