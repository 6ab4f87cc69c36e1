-- Laws of parts of a list and of `splice`. Assumes nothing.
use mathlib.Core.Path.{◌≡◌, refl, sym, ap, ◌∙◌}
use mathlib.Core.List.{List, [], ◌∷◌, ◌++◌, append_assoc, append-nil}
use Prim.Native.Nat.{ℕ, zero, suc, ◌+◌, ◌-◌, ◌≤◌, ◌<◌}
use native.Mathlib.Nat.{add_assoc, add-zero, zero-add, suc-add}
use native.Mathlib.Numerals.{add-one}
use native.Mathlib.Omega.{arith}
use lib.ListN.{get_or, length, take, drop, set, length-append, length-take, length-drop, take-append-drop, drop_of_length-le}
use lib.Seq.{set_at, drop-cons, length-take-le, take-nil, take_at, drop_at, drop-drop, take-add, take-append-le, drop-append-le, sets, sets-eq}
use borrow.Rule.Slice.PartMut.{mid_of, post_of, put_mid}
use Rattle.spec.specs.Bytes.{splice}

pub drop-take : (i m : ℕ) (l : List ℕ) → drop i (take (i + m) l) ≡ take m (drop i l)
drop-take zero m l = rw (zero-add m)
drop-take (suc i) m [] = rw (take-nil (suc i + m), take-nil m)
drop-take (suc i) m (x ∷ l) = rw (suc-add i m) (drop-take i m l)

pub splice-nil : (l : List ℕ) (at : ℕ) → splice l at [] ≡ l
unfolding splice
splice-nil l at = simp (add-zero, append-nil) (take-append-drop at l)

-- stores one after the other, as straight-line code leaves them, are a run
pub sets-splice : (v l : List ℕ) (i : ℕ) → i + length v ≤ length l → sets l i v ≡ splice l i v
unfolding splice
sets-splice v l i h = sets-eq v l i h

pub length-splice : (l : List ℕ) (at : ℕ) (v : List ℕ) → at + length v ≤ length l → length (splice l at v) ≡ length l
unfolding splice
length-splice l at v h =
    let t : length (take at l) ≡ at = length-take-le at l (omega arith) in
    simp (length-append, length-drop, t) (omega arith)

-- two runs, the second where the first ends, are one
pub splice-splice : (l : List ℕ) (at : ℕ) (v w : List ℕ) → at ≤ length l → splice (splice l at v) (at + length v) w ≡ splice l at (v ++ w)
unfolding splice
splice-splice l at v w h =
    let t : length (take at l ++ v) ≡ at + length v = simp (length-append, length-take-le at l h) in
    rw (
      take_at (take at l ++ v) (drop (at + length v) l) (at + length v) t,
      ← drop-drop (length w) (at + length v) (take at l ++ v ++ drop (at + length v) l),
      drop_at (take at l ++ v) (drop (at + length v) l) (at + length v) t,
      drop-drop,
    )
    (simp (length-append, append_assoc, add_assoc))

-- a run written into a part of k elements from a on is a run of the whole
pub splice-part : (a k : ℕ) (xs : List ℕ) (i : ℕ) (v : List ℕ) → i + length v ≤ length (mid_of a k xs)
    → put_mid a k xs (splice (mid_of a k xs) i v) ≡ splice xs (a + i) v
unfolding splice
splice-part a k xs i v g =
    let e : mid_of a k xs ++ post_of a k xs ≡ drop a xs = take-append-drop k (drop a xs) in
    let e1 : take i (mid_of a k xs) ≡ take i (drop a xs) = sym (take-append-le i (mid_of a k xs) (post_of a k xs) (omega arith)) ∙ ap (take i) e in
    let e2 : drop (i + length v) (mid_of a k xs) ++ post_of a k xs ≡ drop (a + (i + length v)) xs =
    sym (drop-append-le (i + length v) (mid_of a k xs) (post_of a k xs) g) ∙ ap (drop (i + length v)) e ∙ drop-drop (i + length v) a xs in
    simp (append_assoc, e1, e2, take-add, add_assoc)

-- what a callee that was lent `&mut xs[a..]` says of the part, said of the whole
pub splice-tail : (a : ℕ) (xs ys v : List ℕ) → a + length v ≤ length xs → ys ≡ splice (mid_of a (length xs - a) xs) 0 v
    → put_mid a (length xs - a) xs ys ≡ splice xs a v
splice-tail a xs ys v h e =
    ap (put_mid a (length xs - a) xs) e
    ∙ splice-part a (length xs - a) xs 0 v (simp (length-take, length-drop) (omega arith))
    ∙ ap (λ (n : ℕ). splice xs n v) (add-zero a)

-- a store just past a run makes it longer by one
pub splice-snoc : (l : List ℕ) (at : ℕ) (v : List ℕ) (x : ℕ) → at + length v < length l → set (splice l at v) (at + length v) x ≡ splice l at (v ++ (x ∷ []))
unfolding splice
splice-snoc l at v x h =
    let t : length (take at l ++ v) ≡ at + length v = simp (length-append, length-take-le at l (omega arith)) in
    rw (drop-cons l (at + length v) 0 h, set_at (take at l ++ v) (get_or l (at + length v) 0) (drop (suc (at + length v)) l) x (at + length v) t)
    (let e : at + (length v + 1) ≡ suc (at + length v) = omega arith in simp (length-append, e, append_assoc))

-- a store is a run of one
pub set-splice : (l : List ℕ) (i x : ℕ) → i < length l → set l i x ≡ splice l i (x ∷ [])
set-splice l i x h = sets-splice (x ∷ []) l i (omega arith)

-- a turn of a writer: out holds the run done from b on, and a callee that was lent `&mut out[at..]`, with at its end, wrote v there
pub splice-next : (b at : ℕ) (l done v out last : List ℕ) → b ≤ length l → at ≡ b + length done → out ≡ splice l b done → at + length v ≤ length out
    → last ≡ splice (mid_of at (length out - at) out) 0 v → put_mid at (length out - at) out last ≡ splice l b (done ++ v)
splice-next b at l done v out last h p q r e =
    splice-tail at out last v r e ∙ rw (q, p) (splice-splice l b done v h)

-- a store, and a run just past it
pub splice-cons : (l : List ℕ) (i x : ℕ) (v : List ℕ) → i < length l → splice (set l i x) (i + 1) v ≡ splice l i (x ∷ v)
splice-cons l i x v h = rw (set-splice l i x h) (splice-splice l i (x ∷ []) v (omega arith))

-- what was written is read
pub splice-read : (l : List ℕ) (at : ℕ) (v : List ℕ) → at ≤ length l → take (length v) (drop at (splice l at v)) ≡ v
unfolding splice
splice-read l at v h =
    rw (append_assoc (take at l) v (drop (at + length v) l), drop_at (take at l) (v ++ drop (at + length v) l) at (length-take-le at l h)) (take_at v (drop (at + length v) l) (length v) refl)

-- a run after a run, as two calls leave them
pub splice-then : (l : List ℕ) (at : ℕ) (v w : List ℕ) {out₁ out₂ : List ℕ} {place : ℕ} → at ≤ length l → out₁ ≡ splice l at v → place ≡ at + length v → out₂ ≡ splice out₁ place w → out₂ ≡ splice l at (v ++ w)
splice-then l at v w h p q r = r ∙ rw (p, q) (splice-splice l at v w h)

-- ---- two runs, the first of which ends where the second begins or before: either can be written first

-- a run in the first of two parts
splice_front : (a r : List ℕ) (d : ℕ) (v : List ℕ) → d + length v ≤ length a → splice (a ++ r) d v ≡ splice a d v ++ r
unfolding splice
splice_front a r d v h =
    let l : d ≤ length a = omega arith in
    rw (take-append-le d a r l, drop-append-le (d + length v) a r h) (simp append_assoc)

-- a run at the start of the second
splice-back : (a r : List ℕ) (at : ℕ) (b : List ℕ) → length a ≡ at → splice (a ++ r) at b ≡ a ++ splice r 0 b
unfolding splice
splice-back a r at b h =
    rw (take_at a r at h, ← drop-drop (length b) at (a ++ r), drop_at a r at h, zero-add) (simp append_assoc)

pub splice-comm : (l : List ℕ) (a b : ℕ) (v w : List ℕ) → a + length v ≤ b → b ≤ length l → splice (splice l a v) b w ≡ splice (splice l b w) a v
splice-comm l a b v w h m =
    let n : length (take b l) ≡ b = length-take-le b l m in
    let k : a + length v ≤ length (take b l) = omega arith in
    let s : length (splice (take b l) a v) ≡ b = length-splice (take b l) a v k ∙ n in
    let e : take b l ++ drop b l ≡ l = take-append-drop b l in
    let x : splice (splice (take b l ++ drop b l) a v) b w ≡ splice (splice (take b l ++ drop b l) b w) a v =
    rw (
      splice_front (take b l) (drop b l) a v k,
      splice-back (splice (take b l) a v) (drop b l) b w s,
      splice-back (take b l) (drop b l) b w n,
      splice_front (take b l) (splice (drop b l) 0 w) a v k,
    ) in
    rw e at x

-- two regions of one buffer, written in turns: b at `at`, then e before it at d; the rest of both is left
pub splice-regions : (out : List ℕ) (d at : ℕ) (e dr b br : List ℕ) → d + length (e ++ dr) ≤ at → at + length b ≤ length out
    → splice (splice (splice (splice out at b) d e) (d + length e) dr) (at + length b) br ≡ splice (splice out d (e ++ dr)) at (b ++ br)
splice-regions out d at e dr b br h m =
    let n : length (splice out at b) ≡ length out = length-splice out at b m in
    let o : length (splice out d (e ++ dr)) ≡ length out = length-splice out d (e ++ dr) (omega arith) in
    let y : splice (splice (splice out at b) d e) (d + length e) dr ≡ splice (splice out d (e ++ dr)) at b =
    splice-splice (splice out at b) d e dr (omega arith) ∙ sym (splice-comm out d at (e ++ dr) b h (omega arith)) in
    ap (λ (l : List ℕ). splice l (at + length b) br) y ∙ splice-splice (splice out d (e ++ dr)) at b br (omega arith)

-- a store at i is the first of what is left of a run that is written from `at` on
pub splice-on : (l s : List ℕ) (at i : ℕ) → i < length s → at + i < length l
    → splice (set l (at + i) (get_or s i 0)) (at + (i + 1)) (drop (i + 1) s) ≡ splice l (at + i) (drop i s)
splice-on l s at i h m =
    let e : at + (i + 1) ≡ at + i + 1 = omega arith in
    rw (e, drop-cons s i 0 h) (rw (← add-one i) (splice-cons l (at + i) (get_or s i 0) (drop (i + 1) s) m))

-- behind the run's last nothing is left
pub splice-ended : (l s : List ℕ) (at i : ℕ) → length s ≤ i → l ≡ splice l at (drop i s)
splice-ended l s at i h = rw (drop_of_length-le s h) (sym (splice-nil l at))
