-- Offsets in order, tested one after the other with the least that the next may be. Assumes nothing.
use mathlib.Core.Path.{◌≡◌, refl}
use mathlib.Core.Bool.{Bool, true, false, ◌&&◌}
use mathlib.Core.List.{List, [], ◌∷◌}
use Prim.Native.Nat.{ℕ, suc, ◌+◌, ◌-◌, ◌*◌, ◌≤◌, ◌<◌}
use native.Mathlib.Nat.{mul-suc}
use native.Mathlib.Numerals.{add-one}
use native.Mathlib.Omega.{arith}
use lib.Dec.{leb, ltb, leb-zero}
use lib.ListN.{drop}
use lib.Seq.{drop-drop}
use Rattle.spec.specs.Bytes.{field_at, fields_of, rising, every}
use Rattle.bodies.specs.Check.{offsets_in_range}

module _ (n size : ℕ) where
  abbrev pub order_from : ℕ → List ℕ → Bool
  order_from least [] = true
  order_from least (x ∷ xs) = leb least x && (leb (x + n) size && order_from (suc x) xs)

  regroup : (a p r e : Bool) → (a && (p && (r && e))) ≡ (a && r && (p && e))
  regroup false p r e = refl
  regroup true false false e = refl
  regroup true false true e = refl
  regroup true true r e = refl

  order-next : (x : ℕ) (xs : List ℕ) → order_from (suc x) xs ≡ (rising (x ∷ xs) && every (λ at. leb (at + n) size) xs)
  order-next x [] = refl
  order-next x (y ∷ xs) = rw (order-next y xs) (regroup (ltb x y) (leb (y + n) size) (rising (y ∷ xs)) (every (λ at. leb (at + n) size) xs))

  pub order-all : (xs : List ℕ) → order_from 0 xs ≡ offsets_in_range n size xs
  unfolding offsets_in_range
  order-all [] = refl
  order-all (x ∷ xs) = rw (leb-zero x, order-next x xs) (regroup true (leb (x + n) size) (rising (x ∷ xs)) (every (λ at. leb (at + n) size) xs))

  -- one field of a run: the test of fields from k on is that of field k, and of those behind it
  pub order-turn : (w count at k least : ℕ) (bytes : List ℕ) → k < count → order_from least (fields_of w (count - k) (drop (at + w * k) bytes))
      ≡ (leb least (field_at bytes (at + w * k) w)
      && (leb (field_at bytes (at + w * k) w + n) size
      && order_from (field_at bytes (at + w * k) w + 1) (fields_of w (count - (k + 1)) (drop (at + w * (k + 1)) bytes))))
  unfolding fields_of
  order-turn w count at k least bytes more = go (count - k) (count - (k + 1)) (omega arith)
    where
      next : at + w * k + w ≡ at + w * (k + 1)
      next = rw (add-one, mul-suc) (omega arith)

      go : (l m : ℕ) → l ≡ suc m → order_from least (fields_of w l (drop (at + w * k) bytes))
          ≡ (leb least (field_at bytes (at + w * k) w)
          && (leb (field_at bytes (at + w * k) w + n) size
          && order_from (field_at bytes (at + w * k) w + 1) (fields_of w m (drop (at + w * (k + 1)) bytes))))
      go l m e = rw (e, ← next, ← drop-drop w (at + w * k) bytes, add-one)

  pub order-done : (w count k least : ℕ) (l : List ℕ) → count ≤ k → order_from least (fields_of w (count - k) l) ≡ true
  unfolding fields_of
  order-done w count k least l h = let e : count - k ≡ 0 = omega arith in rw e
