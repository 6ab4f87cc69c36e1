-- What the join lists of one keyword at one place is document 01's text, for all records in range, also those that no chunk gives: the laws of
-- the stream of one keyword (spec's Stream), with the cell as the list of its starts. Assumes nothing.
use mathlib.Core.Path.{◌≡◌, refl, sym, ap, ◌∙◌}
use mathlib.Core.Bool.{Bool, true, false, or-false}
use mathlib.Core.List.{List, [], ◌++◌, map, append-nil, map-append}
use Prim.Native.Nat.{ℕ, zero, suc, ◌+◌, ◌-◌, ◌≤◌, ◌<◌, min}
use native.Mathlib.Omega.{arith}
use lib.ListN.{length, length-append, length-take, length-drop}
use Rattle.spec.specs.Bytes.{each, keep, rising}
use Rattle.spec.specs.Records.{MatchRecord, ChunkRecords, record_at, reach, in_range, offsets_of}
use Rattle.spec.specs.Table.{border_text, cell_of, in_cell}
use Rattle.spec.specs.Join.{keyword_at, listed}
use Rattle.spec.proofs.Each.{each-match, each_append, each_none, passing}
use Rattle.spec.proofs.Rising.{all_below, below-prefix, passing-member}
use Rattle.spec.proofs.RecordLaws.{prefix-in, suffix-in, offsets-rise, offsets-in}
use Rattle.spec.proofs.Stream.{stream, cell-beyond, cell-no-suffix}
use Rattle.spec.proofs.Crossing.{crosses-cell}
use Rattle.theory.specs.PlaceText.{PlaceText}

-- ---- what the ranges give

record InRange (n size : ℕ) (r : MatchRecord) : Type 0 where
  short_prefix : r.prefix < n
  fits : r.prefix ≤ size
  short_suffix : r.suffix < n
  up : rising r.offsets ≡ true
  low : (i : ℕ) → i < n → all_below (size - i) r.offsets ≡ true

ranges : (n size : ℕ) (r : MatchRecord) → 1 ≤ n → in_range n size r ≡ true → InRange n size r
unfolding reach
ranges n size r hn e =
    let a : r.prefix ≤ min (n - 1) size = prefix-in n size r e in
    let b : r.suffix ≤ min (n - 1) size = suffix-in n size r e in
    record {
      short_prefix = omega arith;
      fits = omega arith;
      short_suffix = omega arith;
      up = offsets-rise n size r e;
      low = λ i l. below-prefix n size i r.offsets l (offsets-in n size r e);
    }

-- ---- the cell as the list of its starts

map-keep : (f : ℕ → ℕ) (b : Bool) (x : ℕ) → map f (keep b x) ≡ keep b (f x)
map-keep f true x = refl
map-keep f false x = refl

map-passing : (f : ℕ → ℕ) (t : ℕ → Bool) (a n : ℕ) → map f (passing t a n) ≡ each (λ s. keep (t s) (f s)) a n
map-passing f t a zero = refl
map-passing f t a (suc n) = map-append f (keep (t a) a) (passing t (suc a) n) ∙ rw (map-keep, map-passing f t (suc a) n)

module _ (w : List ℕ) (i j : ℕ) (hi : i < length w) (hj : j < length w) where
  -- its starts lie in the first i bytes
  cell-starts : cell_of w i j ≡ passing (in_cell w i j) 0 i
  unfolding cell_of offsets_of in_cell
  cell-starts =
      let n : length (border_text w i j) ≡ i + j = simp (length-append, length-take, length-drop) (omega arith) in
      rw (n, each_append)
      (ap (λ (l : List ℕ). passing (in_cell w i j) 0 i ++ l) (each_none _ (0 + i) j (λ p a b. rw (cell-beyond w i j p hj (omega arith))))
      ∙ append-nil (passing (in_cell w i j) 0 i))

  cell-none : (i ≡ 0) → cell_of w i j ≡ []
  cell-none e = cell-starts ∙ rw e

  cell-none' : (j ≡ 0) → cell_of w i j ≡ []
  cell-none' e = cell-starts ∙ each_none _ 0 i (λ p a b. rw (e, cell-no-suffix w i p hi))

-- ---- one place

module _ (keywords : List (List ℕ)) (here next : ChunkRecords) (rest : List ChunkRecords) (k : ℕ) where
  pub stream-is-text : 1 ≤ length (keyword_at keywords k) → in_range (length (keyword_at keywords k)) here.size (record_at here k) ≡ true
      → in_range (length (keyword_at keywords k)) next.size (record_at next k) ≡ true → (record_at next k).inner ≡ 0 → PlaceText keywords here next rest k
  unfolding listed
  stream-is-text h e f none =
      let w = keyword_at keywords k in
      let r = record_at here k in
      let s = record_at next k in
      let a : InRange (length w) here.size r = ranges (length w) here.size r h e in
      let b : InRange (length w) next.size s = ranges (length w) next.size s h f in
      record {
        followed =
            each-match _ _ 0 0 here.size (λ p l. rw (crosses-cell w k r.prefix next rest (here.size - (0 + p)) none))
            ∙ stream w r.offsets r.prefix s.suffix here.size a.up (a.low r.prefix a.short_prefix) a.fits
            ∙ ap (λ (l : List ℕ). r.offsets ++ l)
            (sym (map-passing (λ p. here.size - r.prefix + p) (in_cell w r.prefix s.suffix) 0 r.prefix)
            ∙ ap (map (λ p. here.size - r.prefix + p)) (sym (cell-starts w r.prefix s.suffix a.short_prefix b.short_suffix)));
        last =
            each-match _ _ 0 0 here.size (λ p l. rw or-false)
            ∙ passing-member here.size 0 r.offsets a.up
            (let z : 0 + here.size ≡ here.size - 0 = omega arith in rw z (a.low 0 (omega arith))) (λ _. omega arith);
        no_prefix = λ z. ap (map (λ p. here.size - r.prefix + p)) (cell-none w r.prefix s.suffix a.short_prefix b.short_suffix z);
        no_suffix = λ z. ap (map (λ p. here.size - r.prefix + p)) (cell-none' w r.prefix s.suffix a.short_prefix b.short_suffix z);
      }
