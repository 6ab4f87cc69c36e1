-- Laws of runs written into one buffer: they may be written in any order, and piece by piece. Assumes nothing.
use mathlib.Core.Path.{◌≡◌, refl, sym, ap, ap₂, ◌∙◌}
use mathlib.Core.Logic.{◌≢◌, ◌⊎◌, inl, inr}
use mathlib.Core.List.{List, [], ◌++◌, append_assoc}
use Prim.Native.Nat.{ℕ, zero, suc, ◌+◌, ◌≤◌, ◌<◌}
use native.Mathlib.Nat.{eq-or-lt_of_le, le_of_suc-le-suc}
use native.Mathlib.Omega.{arith}
use lib.ListN.{length, take, drop, take-append-drop}
use lib.Seq.{take_at, drop_at, drop-drop, take-append-le, drop-append-le, length-take-le}
use Rattle.spec.specs.Bytes.{splice}
use Rattle.spec.proofs.Splices.{splice-nil, splice-splice, length-splice}
use Rattle.offset_lists.specs.Patches.{patched, Apart}

-- ---- two runs

splice_front : (x y : List ℕ) (at : ℕ) (v : List ℕ) → at + length v ≤ length x → splice (x ++ y) at v ≡ splice x at v ++ y
unfolding splice
splice_front x y at v h =
    rw (take-append-le at x y (omega arith), drop-append-le (at + length v) x y h) (sym (append_assoc (take at x ++ v) (drop (at + length v) x) y))

splice-back : (x y : List ℕ) (at : ℕ) (v : List ℕ) → length x ≡ at → splice (x ++ y) at v ≡ x ++ (v ++ drop (length v) y)
unfolding splice
splice-back x y at v h =
    rw (take_at x y at h, ← drop-drop (length v) at (x ++ y), drop_at x y at h) (append_assoc x v (drop (length v) y))

-- apart, in either order
pub splice-comm : (l : List ℕ) (a b : ℕ) (v w : List ℕ) → a + length v ≤ b → b ≤ length l → splice (splice l a v) b w ≡ splice (splice l b w) a v
splice-comm l a b v w h m =
    let x : List ℕ = take b l in
    let y : List ℕ = drop b l in
    let n : length x ≡ b = length-take-le b l m in
    let e : l ≡ x ++ y = sym (take-append-drop b l) in
    let s : length (splice x a v) ≡ b = length-splice x a v (omega arith) ∙ n in
    ap (λ (z : List ℕ). splice (splice z a v) b w) e
    ∙ ap (λ (z : List ℕ). splice z b w) (splice_front x y a v (omega arith))
    ∙ splice-back (splice x a v) y b w s
    ∙ sym (splice_front x (w ++ drop (length w) y) a v (omega arith))
    ∙ ap (λ (z : List ℕ). splice z a v) (sym (splice-back x y b w n))
    ∙ ap (λ (z : List ℕ). splice (splice z b w) a v) (sym e)

-- ---- n runs

pub patched_same : (n : ℕ) (p q : ℕ → ℕ) (f g : ℕ → List ℕ) (l : List ℕ) → ((k : ℕ) → k < n → p k ≡ q k) → ((k : ℕ) → k < n → f k ≡ g k)
    → patched n p f l ≡ patched n q g l
unfolding patched
patched_same zero p q f g l h r = refl
patched_same (suc n) p q f g l h r = rw (h n (omega arith), r n (omega arith), patched_same n p q f g l (λ k m. h k (omega arith)) (λ k m. r k (omega arith)))

pub patched-none : (n : ℕ) (p : ℕ → ℕ) (f : ℕ → List ℕ) (l : List ℕ) → ((k : ℕ) → k < n → f k ≡ []) → patched n p f l ≡ l
unfolding patched
patched-none zero p f l h = refl
patched-none (suc n) p f l h = rw (h n (omega arith), patched-none n p f l (λ k m. h k (omega arith)), splice-nil)

pub patched-length : (n : ℕ) (p : ℕ → ℕ) (f : ℕ → List ℕ) (l : List ℕ) → ((k : ℕ) → k < n → p k + length (f k) ≤ length l)
    → length (patched n p f l) ≡ length l
unfolding patched
patched-length zero p f l h = refl
patched-length (suc n) p f l h =
    let e : length (patched n p f l) ≡ length l = patched-length n p f l (λ k m. h k (omega arith)) in
    length-splice (patched n p f l) (p n) (f n) (omega (arith, h n (omega arith))) ∙ e

-- a run behind them all, written before them
pub patched-behind : (n : ℕ) (p : ℕ → ℕ) (f : ℕ → List ℕ) (l : List ℕ) (a : ℕ) (v : List ℕ) → ((k : ℕ) → k < n → p k + length (f k) ≤ a) → a ≤ length l
    → patched n p f (splice l a v) ≡ splice (patched n p f l) a v
unfolding patched
patched-behind zero p f l a v h m = refl
patched-behind (suc n) p f l a v h m =
    let e : length (patched n p f l) ≡ length l = patched-length n p f l (λ k x. let y = h k (omega arith) in omega arith) in
    rw (patched-behind n p f l a v (λ k x. h k (omega arith)) m)
    (sym (splice-comm (patched n p f l) (p n) a (f n) v (h n (omega arith)) (omega arith)))

-- a piece of run k written: the rest of it is left
pub patched-turn : (n : ℕ) (p q : ℕ → ℕ) (f g : ℕ → List ℕ) (l : List ℕ) (k : ℕ) (v : List ℕ) → k < n → Apart n p f (length l)
    → f k ≡ v ++ g k → q k ≡ p k + length v
    → ((j : ℕ) → j < n → j ≢ k → q j ≡ p j) → ((j : ℕ) → j < n → j ≢ k → g j ≡ f j)
    → patched n q g (splice l (p k) v) ≡ patched n p f l
unfolding patched
patched-turn zero p q f g l k v h a e m s r = let z : ⊥ = omega arith in absurd z
patched-turn (suc n) p q f g l k v h a e m s r = go (eq-or-lt_of_le (le_of_suc-le-suc h)) (λ i. patched-turn n p q f g l k v i inner e m
    (λ j x y. s j (omega arith) y) (λ j x y. r j (omega arith) y))
  where
    inner : Apart n p f (length l)
    inner = record { order = λ i j x y. a.order i j x (omega arith); room = λ i x. a.room i (omega arith) }

    go : (k ≡ n) ⊎ (k < n) → (k < n → patched n q g (splice l (p k) v) ≡ patched n p f l)
        → splice (patched n q g (splice l (p k) v)) (q n) (g n) ≡ splice (patched n p f l) (p n) (f n)
    go (inr i) ih = rw (ih i, s n (omega arith) (λ z. omega arith), r n (omega arith) (λ z. omega arith))
    go (inl i) ih = last i
      where
        last : k ≡ n → splice (patched n q g (splice l (p k) v)) (q n) (g n) ≡ splice (patched n p f l) (p n) (f n)
        last i =
            let c : p k + length (f k) ≤ length l = a.room k (omega arith) in
            let t : patched n q g (splice l (p k) v) ≡ splice (patched n p f l) (p k) v =
            patched_same n q p g f (splice l (p k) v) (λ j x. s j (omega arith) (λ z. omega arith)) (λ j x. r j (omega arith) (λ z. omega arith))
            ∙ patched-behind n p f l (p k) v (λ j x. a.order j k (omega arith) (omega arith)) (omega arith) in
            let b : length (patched n p f l) ≡ length l = patched-length n p f l (λ j x. a.room j (omega arith)) in
            ap₂ {C = List ℕ} (λ x y. splice (patched n q g (splice l (p k) v)) x y) (ap q (sym i) ∙ m) (ap g (sym i))
            ∙ ap (λ (x : List ℕ). splice x (p k + length v) (g k)) t
            ∙ splice-splice (patched n p f l) (p k) v (g k) (omega arith)
            ∙ ap₂ {C = List ℕ} (λ x y. splice (patched n p f l) x y) (ap p i) (sym e ∙ ap f i)
