-- Taking the first number off what is unread. Assumes nothing.
use mathlib.Core.Path.{◌≡◌, sym, ap, ◌∙◌}
use mathlib.Core.Bool.{true}
use mathlib.Core.List.{List, [], ◌∷◌, ◌++◌}
use Prim.Native.Nat.{ℕ, zero, suc, ◌+◌, ◌-◌, ◌*◌, ◌/◌, ◌^◌, ◌≤◌, ◌<◌}
use native.Mathlib.Nat.{mul-suc}
use native.Mathlib.Omega.{arith}
use lib.ListN.{length, drop, get_or}
use lib.Seq.{drop-drop}
use lib.Dec.{ltb, ltb→lt}
use lib.Pow.{shr_le}
use lib.Count.{count_trailing_zeros}
use Rattle.spec.specs.Bytes.{field_at, fields_of, rising}
use Rattle.spec.proofs.Tests.{leb-true, leb-false, T_of, and_left, and_right}
use Rattle.spec.proofs.Rising.{rising-tail}
use Rattle.listing.specs.Streams.{below, bits, unread, headed, stream, ReadableStream, Open, Pulled}
use Rattle.listing.proofs.Digits.{bits-first, bits_none}

pub below-head : (n x : ℕ) (xs : List ℕ) → below n (x ∷ xs) ≡ true → x < n
below-head n x xs e = ltb→lt x n (T_of (ltb x n) (and_left (ltb x n) (below n xs) e))

pub below-tail : (n x : ℕ) (xs : List ℕ) → below n (x ∷ xs) ≡ true → below n xs ≡ true
below-tail n x xs e = and_right (ltb x n) (below n xs) e

pub headed-in : (size x : ℕ) (xs : List ℕ) → x < size → headed size x xs ≡ x ∷ xs
headed-in size x xs h = rw (leb-true (suc x) size h)

pub headed-out : (size x : ℕ) (xs : List ℕ) → size ≤ x → headed size x xs ≡ []
headed-out size x xs h = rw (leb-false (suc x) size (omega arith))

module _ (index : List ℕ) (width size : ℕ) (s : List ℕ) where
  -- a number is taken
  pulled-on : (s' : List ℕ) → ReadableStream index width size s → unread index width s ≡ get_or s' 0 0 ∷ unread index width s'
      → get_or s' 1 0 + width * get_or s' 2 0 ≤ length index → get_or s' 4 0 < 2 ^ 32 → Pulled index width size s s'
  unfolding stream
  pulled-on s' r e inside set =
      record { opened = record { up = ap rising same ∙ r.up; under = ap (below size) same ∙ r.under; inside = inside; set = set }; same = same }
    where
      same : stream index width size s' ≡ unread index width s
      same = headed-in size (get_or s' 0 0) (unread index width s') (below-head size (get_or s' 0 0) (unread index width s') (rw e at r.under)) ∙ sym e

  -- there is none
  pulled-off : (s' : List ℕ) → ReadableStream index width size s → unread index width s ≡ [] → size ≤ get_or s' 0 0
      → get_or s' 1 0 + width * get_or s' 2 0 ≤ length index → get_or s' 4 0 < 2 ^ 32 → Pulled index width size s s'
  unfolding stream
  pulled-off s' r e h inside set =
      record { opened = record { up = ap rising same ∙ r.up; under = ap (below size) same ∙ r.under; inside = inside; set = set }; same = same }
    where
      same : stream index width size s' ≡ unread index width s
      same = headed-out size (get_or s' 0 0) (unread index width s') h ∙ sym e

  module _ (r : ReadableStream index width size s) where
    abbrev at : ℕ
    at = get_or s 1 0

    abbrev left : ℕ
    left = get_or s 2 0

    abbrev from : ℕ
    from = get_or s 3 0

    abbrev set : ℕ
    set = get_or s 4 0

    -- the room of one field more, and of those behind it
    room : 0 < left → (at + width ≤ length index) × (at + width + width * (left - 1) ≤ length index)
    room p =
        let e : left ≡ suc (left - 1) = omega arith in
        let m = ap (λ (x : ℕ). width * x) e ∙ mul-suc width (left - 1) in
        (omega (arith, r.inside, m), omega (arith, r.inside, m))

    number : 0 < left → (x : ℕ) → unread index width s ≡ field_at index at width ∷ unread index width (x ∷ (at + width) ∷ (left - 1) ∷ from ∷ set ∷ [])
    unfolding unread fields_of
    number h x = go left h
      where
        go : (n : ℕ) → 0 < n
            → fields_of width n (drop at index) ++ bits 32 from set
            ≡ field_at index at width ∷ (fields_of width (n - 1) (drop (at + width) index) ++ bits 32 from set)
        go zero l = let z : ⊥ = omega arith in absurd z
        go (suc n) l = let e : suc n - 1 ≡ n = omega arith in rw (e, ← drop-drop width at index)

    pub pull-field : 0 < left → (x : ℕ) → x ≡ field_at index at width → Pulled index width size s (x ∷ (at + width) ∷ (left - 1) ∷ from ∷ set ∷ [])
    pull-field h x e =
        let after : List ℕ = x ∷ (at + width) ∷ (left - 1) ∷ from ∷ set ∷ [] in
        pulled-on after r (number h x ∙ ap {B = List ℕ} (λ y. y ∷ unread index width after) (sym e)) (room h).1 r.set

    pub pull-end : left ≤ 0 → set ≡ 0 → Pulled index width size s (size ∷ at ∷ left ∷ from ∷ set ∷ [])
    unfolding unread fields_of
    pull-end h e = let n : left ≡ 0 = omega arith in pulled-off (size ∷ at ∷ left ∷ from ∷ set ∷ []) r (rw (n, e, bits_none)) (omega arith) r.inside r.set

    abbrev low : ℕ
    low = count_trailing_zeros 32 set

    start : left ≤ 0 → 0 < set
        → unread index width s ≡ (from + low) ∷ unread index width ((from + low) ∷ at ∷ left ∷ (from + low + 1) ∷ (set / 2 ^ low / 2) ∷ [])
    unfolding unread fields_of
    start h p = let n : left ≡ 0 = omega arith in rw n (bits-first 32 from set p r.set)

    pub start-in : left ≤ 0 → 0 < set → from + low < size
    start-in h p =
        let after : List ℕ = (from + low) ∷ at ∷ left ∷ (from + low + 1) ∷ (set / 2 ^ low / 2) ∷ [] in
        below-head size (from + low) (unread index width after) (rw (start h p) at r.under)

    pub pull-start : left ≤ 0 → 0 < set → Pulled index width size s ((from + low) ∷ at ∷ left ∷ (from + low + 1) ∷ (set / 2 ^ low / 2) ∷ [])
    pull-start h p =
        let after : List ℕ = (from + low) ∷ at ∷ left ∷ (from + low + 1) ∷ (set / 2 ^ low / 2) ∷ [] in
        pulled-on after r (start h p) r.inside (omega (arith, shr_le set low, r.set))

-- ---- an open stream that has not ended

module _ (index : List ℕ) (width size : ℕ) (s : List ℕ) (o : Open index width size s) (h : get_or s 0 0 < size) where
  pub open-head : stream index width size s ≡ get_or s 0 0 ∷ unread index width s
  unfolding stream
  open-head = headed-in size (get_or s 0 0) (unread index width s) h

  -- what is behind its head can be read
  pub behind : ReadableStream index width size s
  behind =
      record {
        up = rising-tail (get_or s 0 0) (unread index width s) (rw open-head at o.up);
        under = below-tail size (get_or s 0 0) (unread index width s) (rw open-head at o.under);
        inside = o.inside;
        set = o.set;
      }
