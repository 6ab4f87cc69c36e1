-- The moves of a scan, chunk by chunk. Assumes nothing.
use mathlib.Core.Path.{◌≡◌, sym, ap, ◌∙◌}
use mathlib.Core.Bool.{Bool, true, false, cond}
use mathlib.Core.List.{List, [], ◌∷◌, map}
use Prim.Native.Nat.{ℕ, ◌+◌, ◌-◌, ◌%◌, ◌≤◌, ◌<◌}
use native.Mathlib.Nat.{sub-zero}
use native.Mathlib.Numerals.{add-one}
use native.Mathlib.Omega.{arith}
use lib.ListN.{length, get_or}
use lib.Dec.{eqb}
use Rattle.spec.specs.Bytes.{sum}
use Rattle.spec.specs.Keywords.{flag_of, folded, folded_keywords}
use Rattle.spec.specs.Store.{chunk_count, chunk_at, chunks_of}
use Rattle.spec.specs.Trie.{moves_of, moves_of_all, scan_moves}
use Rattle.spec.proofs.Each.{each_step}
use Rattle.spec.proofs.Folding.{folded-length}
use Rattle.spec.proofs.Tabulated.{tabulated, map-tabulated, tabulated-same}
use Rattle.trie.proofs.Walks as walks
use Rattle.chunkwalk.specs.Marks.{chunk_moves, walked_moves}
use Rattle.index_writer.specs.Layout.{AllOdd, moves_written}

-- what chunks from k on take together
module _ (store : List ℕ) (moves : ℕ → ℕ) where
  abbrev pub moves_left : ℕ → ℕ
  moves_left k = sum (tabulated moves k (chunk_count store - k))

  pub moves-step : (k : ℕ) → k < chunk_count store → moves_left k ≡ moves k + moves_left (k + 1)
  moves-step k h = rw add-one (ap sum (each_step (λ j. moves j ∷ []) k (chunk_count store) h))

  pub moves-end : (k : ℕ) → chunk_count store ≤ k → moves_left k ≡ 0
  moves-end k h = let z : chunk_count store - k ≡ 0 = omega arith in rw z

module _ (list store : List ℕ) where
  -- of chunk k; and those that are walked when it is written by its mark
  abbrev pub moves_at : ℕ → ℕ
  moves_at k = chunk_moves list (chunk_at store k)

  abbrev pub written_at : List ℕ → ℕ → ℕ
  written_at marks k = walked_moves list (chunk_at store k) (get_or marks k 0)

  pub moves-all : moves_left store moves_at 0 ≡ scan_moves list store
  unfolding scan_moves moves_of_all chunks_of chunk_moves
  moves-all =
      let n = chunk_count store in
      rw sub-zero (sym (ap (λ (l : List (List ℕ)). sum (map (moves_of (folded_keywords list)) l)) (map-tabulated (folded (flag_of list)) (chunk_at store) 0 n)
      ∙ ap sum (map-tabulated (moves_of (folded_keywords list)) (λ j. folded (flag_of list) (chunk_at store j)) 0 n)))

  pub written_all : (marks : List ℕ) → moves_left store (written_at marks) 0 ≡ moves_written list store marks
  unfolding moves_written
  written_all marks = rw sub-zero

  pub moves-most : (chunk : List ℕ) → length chunk ≤ 1048576 → chunk_moves list chunk ≤ 2097152
  unfolding chunk_moves
  moves-most chunk h = omega (arith, walks.walk-moves (folded_keywords list) (folded (flag_of list) chunk), folded-length (flag_of list) chunk)

  pub written-most : (chunk : List ℕ) (mark : ℕ) → length chunk ≤ 1048576 → walked_moves list chunk mark ≤ 2097152
  unfolding walked_moves
  written-most chunk mark h = go (eqb (mark % 2) 0)
    where
      go : (b : Bool) → cond b 0 (chunk_moves list chunk) ≤ 2097152
      go true = omega arith
      go false = moves-most chunk h

  -- by odd marks every chunk is walked
  pub odd-moves : (marks : List ℕ) → chunk_count store ≤ length marks → AllOdd marks → moves_written list store marks ≡ scan_moves list store
  unfolding moves_written walked_moves
  odd-moves marks h odd =
      ap sum (tabulated-same (written_at marks) moves_at (chunk_count store) (λ k l. rw (odd k (omega arith))))
      ∙ rw (← sub-zero (chunk_count store)) moves-all
