-- The keywords' lengths as an array of 16: it reads as the list of the index does, and each length is at most 32. Behind the list it has zeros, which is
-- what the list reads there. Assumes nothing.
use mathlib.Core.Path.{◌≡◌, refl, ap, ◌∙◌}
use mathlib.Core.Logic.{◌⊎◌, inl, inr}
use mathlib.Core.List.{List, [], ◌∷◌, ◌++◌, map}
use Prim.Native.Nat.{ℕ, zero, suc, ◌+◌, ◌-◌, ◌≤◌, ◌<◌}
use native.Mathlib.Omega.{arith}
use lib.ListN.{length, take, drop, get_or, replicate, get_or-replicate, length-replicate, length-map, get_or-eq_default, get_or-map}
use lib.Seq.{get_or-drop}
use Rattle.spec.specs.Bytes.{splice, written}
use Rattle.spec.specs.Form.{form_of}
use Rattle.spec.specs.Keywords.{keywords_of, count_of}
use Rattle.spec.specs.Index.{list_in, lengths_in, index_code}
use Rattle.spec.proofs.Tests.{le-or-lt}
use Rattle.spec.proofs.Splices.{length-splice}
use Rattle.spec.proofs.KeywordLaws.{Accepted, accepted}
use Rattle.spec.proofs.IndexChecks.{index-good}
use Rattle.keywords.specs.declared.Keywords.{Keywords}
use Rattle.keywords.specs.Parsed.{parsed_of}
use Rattle.index.proofs.CheckLaws.{list-is}

-- ---- an array of zeros that a list is written to

zeros-read : (n k : ℕ) → get_or (replicate {A = ℕ} n 0) k 0 ≡ 0
zeros-read n k = go (le-or-lt n k)
  where
    go : (n ≤ k) ⊎ (k < n) → get_or (replicate {A = ℕ} n 0) k 0 ≡ 0
    go (inl h) = get_or-eq_default (replicate {A = ℕ} n 0) 0 (omega (arith, length-replicate {A = ℕ} n 0))
    go (inr h) = get_or-replicate {A = ℕ} n k 0 0 h

behind-read : (l z : List ℕ) → ((k : ℕ) → get_or z k 0 ≡ 0) → (k : ℕ) → get_or (l ++ z) k 0 ≡ get_or l k 0
behind-read [] z h k = h k
behind-read (x ∷ l) z h zero = refl
behind-read (x ∷ l) z h (suc k) = behind-read l z h k

pub written_read : (n : ℕ) (l : List ℕ) (k : ℕ) → get_or (written (replicate n 0) l) k 0 ≡ get_or l k 0
unfolding splice
written_read n l k =
    behind-read l (drop (0 + length l) (replicate n 0))
    (λ j. get_or-drop (0 + length l) (replicate n 0) j 0 ∙ zeros-read n (0 + length l + j)) k

-- ---- the lengths of an index's keywords

-- as the keywords are read
pub lengths-parsed : (index : List ℕ) (words : Keywords) → words ≡ parsed_of (take (length index - 8) (drop 8 index))
    → words.len ≡ written (replicate 16 0) (lengths_in index)
unfolding parsed_of lengths_in
lengths-parsed index words p = ap (λ (x : Keywords). x.len) (p ∙ ap parsed_of (list-is index))

module _ (index : List ℕ) (good : index_code (form_of index) index ≡ 0) where
  words-good : Accepted (list_in index)
  words-good = accepted (list_in index) (index-good (form_of index) index good).list

  pub lengths-count : length (lengths_in index) ≤ 16
  unfolding lengths_in
  lengths-count = omega (arith, length-map (keywords_of (list_in index)) length, words-good.count, words-good.most)

  pub lengths-most : (k : ℕ) → get_or (lengths_in index) k 0 ≤ 32
  unfolding lengths_in
  lengths-most k = go (le-or-lt (count_of (list_in index)) k)
    where
      go : (count_of (list_in index) ≤ k) ⊎ (k < count_of (list_in index)) → get_or (map length (keywords_of (list_in index))) k 0 ≤ 32
      go (inl h) =
          omega (
            arith,
            get_or-eq_default (map length (keywords_of (list_in index))) 0 {n = k}
                (omega (arith, length-map (keywords_of (list_in index)) length, words-good.count)),
          )
      go (inr h) = omega (arith, get_or-map length (keywords_of (list_in index)) k [], words-good.proper k h)

  -- the array
  module _ (lengths : List ℕ) (e : lengths ≡ written (replicate 16 0) (lengths_in index)) where
    pub lengths_read : (k : ℕ) → get_or lengths k 0 ≡ get_or (lengths_in index) k 0
    lengths_read k = ap (λ (l : List ℕ). get_or l k 0) e ∙ written_read 16 (lengths_in index) k

    pub lengths-small : (length lengths ≡ 16) × ((k : ℕ) → k < 16 → get_or lengths k 0 ≤ 32)
    lengths-small = (
      ap length e ∙ length-splice (replicate 16 0) 0 (lengths_in index) (omega (arith, lengths-count)),
      λ k h. omega (arith, lengths_read k, lengths-most k),
    )
