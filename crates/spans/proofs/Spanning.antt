-- A keyword's starts carried from chunk to chunk: `found` has those that have ended, `live` those that go on, with `gone` bytes of chunks behind the
-- first one's end. What is left to be said of a live start is `goes_on` from its next byte. Assumes nothing.
use mathlib.Core.Path.{◌≡◌, refl, sym, ap, ◌∙◌}
use mathlib.Core.Logic.{◌⊎◌, inl, inr}
use mathlib.Core.Bool.{Bool, true, false, ◌&&◌, ◌||◌, and-false, or-false, false≢true}
use mathlib.Core.List.{List, [], ◌∷◌}
use Prim.Native.Nat.{ℕ, ◌+◌, ◌-◌, ◌^◌, ◌≤◌, ◌<◌}
use native.Mathlib.Nat.{add_assoc, add-zero, lt_of_lt_of_le}
use native.Mathlib.Omega.{arith}
use lib.Bits.{bit_or, or_lt}
use lib.Pow.{pow_mono, pow_pos}
use lib.ListN.{length}
use Rattle.spec.specs.Bytes.{set_of, in_set}
use Rattle.spec.specs.Records.{ChunkRecords, record_at}
use Rattle.spec.specs.Join.{starts, ends, goes_on, crosses_into}
use Rattle.spec.proofs.Tests.{le-or-lt, bool_cases, and_right}
use Rattle.spec.proofs.Sets.{set-lt, has-set, none_above, none-empty}
use Rattle.spec.proofs.Crossing.{crosses-sentence}
use Rattle.spans.specs.Spans.{crossing_set}
use Rattle.spans.proofs.Members.{in-or, word-is}

-- a byte of a keyword at which a chunk lies inside it: the keyword has bytes behind the chunk
inner_room : (n size set p : ℕ) → set < 2 ^ (n - size) → in_set set p ≡ true → p + size < n
inner_room n size set p h e = go (le-or-lt (n - size) p)
  where
    go : (n - size ≤ p) ⊎ (p < n - size) → p + size < n
    go (inl l) = absurd (false≢true (sym (none_above set p (lt_of_lt_of_le h (pow_mono {i = n - size} {j = p} l))) ∙ e))
    go (inr l) = omega arith

-- those that have ended, or are live and end here, or go on
sorted : (f l e i g : Bool) → (f || (l && (e || (i && g)))) ≡ ((f || (l && e)) || ((l && i) && g))
sorted true l e i g = refl
sorted false true e i g = refl
sorted false false e i g = refl

module _ (w : List ℕ) (k i : ℕ) (whole : List ChunkRecords) where
  pub record Spanning (rest : List ChunkRecords) (gone live found : ℕ) : Type 0 where
    pub within : (s : ℕ) → s < i → in_set live s ≡ true → i - s + gone < length w
    pub low : found < 2 ^ i
    pub same : (s : ℕ) → s < i → crosses_into w k i whole (i - s) ≡ (in_set found s || (in_set live s && goes_on w k (i - s + gone) rest))

  pub spanning-start : (live : ℕ) → i < length w → ((s : ℕ) → s < i → in_set live s ≡ starts w i (i - s)) → Spanning whole 0 live 0
  spanning-start live l h =
      record {
        within = λ s m e. omega arith;
        low = pow_pos i;
        same = λ s m. rw (none-empty s, add-zero, h s m) (crosses-sentence w k i whole (i - s) (omega arith));
      }

  module _ (next : ChunkRecords) (rest : List ChunkRecords) (gone live found mask : ℕ) (g : Spanning (next ∷ rest) gone live found)
      (range : (record_at next k).inner < 2 ^ (length w - next.size))
      (masked : (p : ℕ) → 1 ≤ p → p < length w → in_set mask p ≡ ends w (record_at next k).suffix p) where
    abbrev inner : ℕ
    inner = (record_at next k).inner

    abbrev ended : ℕ
    ended = set_of (λ s. in_set live s && in_set mask (i - s + gone)) i

    abbrev live' : ℕ
    live' = set_of (λ s. in_set live s && in_set inner (i - s + gone)) i

    still : (s : ℕ) → s < i → in_set live' s ≡ (in_set live s && in_set inner (i - s + gone))
    still s m = has-set (λ s. in_set live s && in_set inner (i - s + gone)) i s m

    ends-here : (s : ℕ) → s < i → in_set ended s ≡ (in_set live s && ends w (record_at next k).suffix (i - s + gone))
    ends-here s m =
        has-set (λ s. in_set live s && in_set mask (i - s + gone)) i s m ∙ go (bool_cases (in_set live s))
      where
        go : (in_set live s ≡ true) ⊎ (in_set live s ≡ false)
            → (in_set live s && in_set mask (i - s + gone)) ≡ (in_set live s && ends w (record_at next k).suffix (i - s + gone))
        go (inl q) = ap (λ (b : Bool). in_set live s && b) (masked (i - s + gone) (omega arith) (g.within s m q))
        go (inr q) = rw q

    pub spanning-on : Spanning rest (gone + next.size) live' (bit_or found ended)
    unfolding goes_on
    spanning-on =
        record {
          within = λ s m e.
              let b = sym (still s m) ∙ e in
              let r : i - s + gone + next.size < length w =
              inner_room (length w) next.size inner (i - s + gone) range (and_right (in_set live s) (in_set inner (i - s + gone)) b) in
              omega arith;
          low = or_lt i found ended g.low (set-lt (λ s. in_set live s && in_set mask (i - s + gone)) i);
          same = λ s m.
              g.same s m
              ∙ sorted (in_set found s) (in_set live s) (ends w (record_at next k).suffix (i - s + gone)) (in_set inner (i - s + gone))
              (goes_on w k (i - s + gone + next.size) rest)
              ∙ rw (in-or found ended s, ends-here s m, still s m, add_assoc (i - s) gone next.size);
        }

  -- behind the last chunk, and where no start is live: those that have ended are all
  pub spanning-end : (gone live found : ℕ) → Spanning [] gone live found → found ≡ crossing_set w k i whole
  unfolding crossing_set goes_on
  spanning-end gone live found g =
      word-is (λ s. crosses_into w k i whole (i - s)) found i g.low (λ s m. sym (g.same s m ∙ rw (and-false, or-false)))

  pub spanning-dead : (rest : List ChunkRecords) (gone found : ℕ) → Spanning rest gone 0 found → found ≡ crossing_set w k i whole
  unfolding crossing_set
  spanning-dead rest gone found g =
      word-is (λ s. crosses_into w k i whole (i - s)) found i g.low (λ s m. sym (g.same s m ∙ rw (none-empty s, or-false)))
