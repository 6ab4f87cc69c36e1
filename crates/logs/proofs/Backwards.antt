-- A log tallied from its last entry to its first. Assumes nothing.
use Rattle.std.proofs.Common.{◌≡◌, ℕ, ◌+◌, ◌≤◌, List, [], ◌∷◌, ◌++◌, length, get_or, sym, ap, ◌∙◌, append_assoc, append-nil, length-append, arith}
use lib.ListN.{replicate}
use lib.Seq.{get_or-append_seam}
use Rattle.logs.specs.Log.{set_at, place_in, Fits, AllFit}
use Rattle.logs.specs.Tallies.{OneMore, Kept, tally_of}
use Rattle.logs.specs.declared.Tally.{Tally}
use Rattle.logs.proofs.Tallying.{Tallied, tally, tally-none, tally-more, count_most, tallied-is}

-- the entries `left` are still to come, those behind them are counted
pub record Back (ends len log left : List ℕ) (t : Tally) : Type 0 where
  pub behind : List ℕ
  pub whole : log ≡ left ++ behind
  pub tallied : Tallied ends len behind t

module _ (ends len log : List ℕ) where
  pub back-start : Back ends len log log (tally ends len (replicate 16 0) (replicate 16 0))
  back-start = record { behind = []; whole = sym (append-nil log); tallied = tally-none ends len }

  module _ (left : List ℕ) (t : Tally) (b : Back ends len log left t) where
    -- a count is at most the number of entries
    pub back-most : (k : ℕ) → get_or t.counts k 0 ≤ length log
    back-most k = omega (arith, count_most ends len b.behind t b.tallied k, ap length b.whole, length-append left b.behind)

    pub back-end : length left ≡ 0 → t ≡ tally_of ends len log
    back-end z = tallied-is ends len log t (rw (whole_behind left b.whole z) b.tallied)
      where
        whole_behind : (l : List ℕ) → log ≡ l ++ b.behind → length l ≡ 0 → log ≡ b.behind
        whole_behind [] w z = w
        whole_behind (x ∷ l) w z = absurd (omega arith)

    -- the next entry is the last of those left
    module _ (left' : List ℕ) (e : ℕ) (s : left ≡ left' ++ e ∷ []) where
      next-whole : log ≡ left' ++ e ∷ b.behind
      next-whole = b.whole ∙ ap (λ l. l ++ b.behind) s ∙ append_assoc left' (e ∷ []) b.behind

      pub back-fits : AllFit ends len log → Fits ends len e
      back-fits f =
          let here : get_or log (length left') 0 ≡ e = ap (λ l. get_or l (length left') 0) next-whole ∙ get_or-append_seam left' e b.behind 0 in
          let more : length log ≡ length left' + length (e ∷ b.behind) = ap length next-whole ∙ length-append left' (e ∷ b.behind) in
          rw here at (f (length left') (omega arith))

      pub back-turn : (counts firsts : List ℕ) → length counts ≡ length t.counts → length firsts ≡ length t.firsts
          → OneMore (set_at ends e) t.counts counts → Kept (set_at ends e) (place_in e + 1) len t.firsts firsts
          → Back ends len log left' (tally ends len counts firsts)
      back-turn counts firsts p q o f = record {
        behind = e ∷ b.behind;
        whole = next-whole;
        tallied = tally-more ends len e b.behind t.counts t.firsts counts firsts p q o f b.tallied;
      }
