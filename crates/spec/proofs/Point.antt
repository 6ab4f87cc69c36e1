-- What the record of a chunk and a keyword says at one offset. The chunk's last bytes are the keyword's first exactly if the recorded prefix says
-- so, its first bytes the rest of the keyword exactly if the recorded suffix does; a cell is cut at the border into these two. Assumes nothing.
use mathlib.Core.Path.{◌≡◌, refl, sym, ap, ◌∙◌}
use mathlib.Core.Logic.{◌⊎◌, inl, inr}
use mathlib.Core.Bool.{Bool, true, false, ◌&&◌, ◌||◌, or-false}
use mathlib.Core.List.{List, ◌++◌, append-nil}
use Prim.Native.Nat.{ℕ, ◌+◌, ◌-◌, ◌≤◌, ◌<◌, min}
use native.Mathlib.Omega.{arith}
use lib.ListN.{length, take, drop, length-drop, drop_of_length-le}
use lib.Seq.{drop-drop, length-take-le, drop-append-le}
use Rattle.spec.specs.Bytes.{begins, occurs_at, member}
use Rattle.spec.specs.Records.{reach, ends_with, starts_with, prefix_of, suffix_of, offsets_of}
use Rattle.spec.specs.Table.{in_cell}
use Rattle.spec.specs.Join.{crosses}
unfoldable pub use Rattle.spec.specs.Join.{starts}
use Rattle.spec.proofs.Tests.{le-or-lt, leb-true, leb-false}
use Rattle.spec.proofs.Largest.{largest-passes, largest-le, largest-max}
use Rattle.spec.proofs.Each.{member-passing}
use Rattle.spec.proofs.Begins.{begins-append, begins-front, begins-short, begins-split}

module _ (w c : List ℕ) where
  pub prefix-le : prefix_of w c ≤ min (length w - 1) (length c)
  unfolding prefix_of reach
  prefix-le = omega (arith, largest-le (ends_with w c) (reach (length w) (length c)))

  pub suffix-le : suffix_of w c ≤ min (length w - 1) (length c)
  unfolding suffix_of reach
  suffix-le = omega (arith, largest-le (starts_with w c) (reach (length w) (length c)))

  pub prefix-passes : ends_with w c (prefix_of w c) ≡ true
  unfolding prefix_of
  prefix-passes = largest-passes (ends_with w c) (reach (length w) (length c)) refl

  pub prefix-over : (i : ℕ) → prefix_of w c < i → i ≤ length w - 1 → i ≤ length c → ends_with w c i ≡ false
  unfolding prefix_of reach
  prefix-over i l hw hc = largest-max (ends_with w c) (reach (length w) (length c)) i l (omega arith)

  suffix-passes : starts_with w c (suffix_of w c) ≡ true
  unfolding suffix_of
  suffix-passes = largest-passes (starts_with w c) (reach (length w) (length c)) (let h : length w ≤ length w - 0 = omega arith in rw drop_of_length-le)

  suffix-over : (j : ℕ) → suffix_of w c < j → j ≤ length w - 1 → j ≤ length c → starts_with w c j ≡ false
  unfolding suffix_of reach
  suffix-over j l hw hc = largest-max (starts_with w c) (reach (length w) (length c)) j l (omega arith)

  -- the chunk's last bytes, as many as the prefix, are the word's first
  prefix-is : drop (length c - prefix_of w c) c ≡ take (prefix_of w c) w
  prefix-is =
      let b : prefix_of w c ≤ min (length w - 1) (length c) = prefix-le in
      let lw : length (take (prefix_of w c) w) ≡ prefix_of w c = length-take-le _ w (omega arith) in
      let l : length (drop (length c - prefix_of w c) c) ≤ length (take (prefix_of w c) w) = omega (arith, length-drop (length c - prefix_of w c) c) in
      begins-split (take (prefix_of w c) w) (drop (length c - prefix_of w c) c) prefix-passes ∙ rw (drop_of_length-le, append-nil)

  -- the chunk's last `left` bytes are the word's first, told from the note
  pub prefix-tells : (left : ℕ) → left ≤ length w - 1 → left ≤ length c
      → begins (take left w) (drop (length c - left) c) ≡ starts w (prefix_of w c) left
  unfolding starts
  prefix-tells left hw hc = go (le-or-lt left (prefix_of w c))
    where
      go : (left ≤ prefix_of w c) ⊎ (prefix_of w c < left) → begins (take left w) (drop (length c - left) c) ≡ starts w (prefix_of w c) left
      go (inl l) =
          let b : prefix_of w c ≤ min (length w - 1) (length c) = prefix-le in
          let n : length c - prefix_of w c + (prefix_of w c - left) ≡ length c - left = omega arith in
          rw (leb-true left (prefix_of w c) l, ← prefix-is, drop-drop, n)
      go (inr l) = rw (leb-false left (prefix_of w c) l) (prefix-over left l hw hc)

  -- the rest of a word from p begins the chunk, told from the note
  pub suffix-tells : (p : ℕ) → 1 ≤ p → p < length w
      → begins (drop p w) c ≡ begins (drop p w) (drop (length w - suffix_of w c) w)
  suffix-tells p hp hw = go (le-or-lt (length w - p) (suffix_of w c)) (le-or-lt (length w - p) (length c))
    where
      go : (length w - p ≤ suffix_of w c) ⊎ (suffix_of w c < length w - p) → (length w - p ≤ length c) ⊎ (length c < length w - p)
          → begins (drop p w) c ≡ begins (drop p w) (drop (length w - suffix_of w c) w)
      go (inl l) d =
          let b : suffix_of w c ≤ min (length w - 1) (length c) = suffix-le in
          let k : length (drop p w) ≤ length (drop (length w - suffix_of w c) w) = simp length-drop (omega arith) in
          ap (begins (drop p w)) (begins-split (drop (length w - suffix_of w c) w) c suffix-passes) ∙ begins-front (drop p w) _ _ k
      go (inr l) (inl m) =
          let n : length w - (length w - p) ≡ p = omega arith in
          (rw n at (suffix-over (length w - p) l (omega arith) m)) ∙ sym (begins-short (drop p w) (drop (length w - suffix_of w c) w) (simp length-drop (omega arith)))
      go (inr l) (inr m) = begins-short (drop p w) c (simp length-drop m) ∙ sym (begins-short (drop p w) (drop (length w - suffix_of w c) w) (simp length-drop (omega arith)))

-- the cell, cut at the border
pub crosses-split : (w : List ℕ) (i j left : ℕ) → i ≤ length w
    → crosses w i j left ≡ (starts w i left && begins (drop left w) (drop (length w - j) w))
unfolding crosses in_cell starts
crosses-split w i j left hi = go (le-or-lt left i)
  where
    go : (left ≤ i) ⊎ (i < left) → crosses w i j left ≡ (starts w i left && begins (drop left w) (drop (length w - j) w))
    go (inl l) =
        let k : length (take i w) ≡ i = length-take-le i w hi in
        let h : i - left ≤ length (take i w) = omega arith in
        let x : length (drop (i - left) (take i w)) ≡ left = omega (arith, length-drop (i - left) (take i w)) in
        rw (leb-true left i l, drop-append-le, begins-append, x)
    go (inr l) = rw (leb-false left i l)

pub starts-over : (w : List ℕ) (i left : ℕ) → i < left → starts w i left ≡ false
unfolding starts
starts-over w i left l = rw (leb-false left i l)

-- behind `starts` a test need only be right where the prefix is long enough
pub starts-guard : (w : List ℕ) (i left : ℕ) (a b : Bool) → (left ≤ i → a ≡ b) → (starts w i left && a) ≡ (starts w i left && b)
starts-guard w i left a b h = go (le-or-lt left i)
  where
    go : (left ≤ i) ⊎ (i < left) → (starts w i left && a) ≡ (starts w i left && b)
    go (inl l) = rw (h l)
    go (inr l) = rw (starts-over w i left l)

offsets-tell : (w c : List ℕ) (at : ℕ) → at < length c → member at (offsets_of w c) ≡ occurs_at w c at
unfolding offsets_of
offsets-tell w c at h = member-passing (occurs_at w c) at 0 (length c) (omega arith) (omega arith)

-- what occurs_at at an offset of a chunk with more bytes behind it, told from the chunk's note and those bytes
pub point : (w c rest : List ℕ) (at : ℕ) → 1 ≤ length w → at < length c
    → occurs_at w (c ++ rest) at ≡ (member at (offsets_of w c) || (starts w (prefix_of w c) (length c - at) && begins (drop (length c - at) w) rest))
point w c rest at hw hc = go (le-or-lt (length w) (length c - at))
  where
    go : (length w ≤ length c - at) ⊎ (length c - at < length w)
        → occurs_at w (c ++ rest) at ≡ (member at (offsets_of w c) || (starts w (prefix_of w c) (length c - at) && begins (drop (length c - at) w) rest))
    go (inl l) =
        rw (offsets-tell w c at hc, drop-append-le at c rest (omega arith), begins-front w (drop at c) rest (rw length-drop l), starts-over w (prefix_of w c) (length c - at) (omega (arith, prefix-le w c)), or-false)
    go (inr l) =
        let e : length c - (length c - at) ≡ at = omega arith in
        let q : begins (take (length c - at) w) (drop at c) ≡ starts w (prefix_of w c) (length c - at) =
        rw e at (prefix-tells w c (length c - at) (omega arith) (omega arith)) in
        rw (offsets-tell w c at hc, drop-append-le at c rest (omega arith), begins-append w (drop at c) rest, length-drop, q, begins-short w (drop at c) (rw length-drop l))
