-- The walk over a file's places: before place j, what the places from j on still add, and still write. Assumes nothing.
use mathlib.Core.Path.{◌≡◌, refl, sym, ap, ◌∙◌}
use mathlib.Core.Logic.{◌⊎◌, inl, inr}
use mathlib.Core.Bool.{Bool, true, false, ◌&&◌, ◌||◌, not, and-false, true≢false}
use mathlib.Core.List.{List, [], ◌∷◌}
use Prim.Native.Nat.{ℕ, zero, suc, ◌+◌, ◌≤◌, ◌<◌, min}
use native.Mathlib.Nat.{zero-add}
use native.Mathlib.Numerals.{add-one}
use native.Mathlib.Omega.{arith}
use borrow.Author.Tests.{lt-ltb, le-ltb, lt-leb, le-leb}
use lib.Dec.{leb, ltb}
use lib.ListN.{length, take, drop, get_or, set, drop_of_length-le, length-drop}
use lib.Seq.{drop-cons}
use Rattle.spec.specs.Bytes.{contains, position_of, every, sum, written}
use Rattle.spec.specs.Outcome.{first_number}
use Rattle.spec.specs.Recipes.{all_but_last, inner_long, sizes_in, file_code}
use Rattle.spec.proofs.Tests.{le-or-lt}
use Rattle.spec.proofs.EntryLaws.{contains-position}
use Rattle.files.specs.Measures.{inner_short, entries_in, Measured}
use Rattle.files.proofs.Slots.{Tested, filled, filled-start, filled_on, filled-end, filled-missing}

-- ---- inner chunks

-- what the places from j on have to keep: the first is not asked
abbrev pub inner_long_from : ℕ → ℕ → List ℕ → Bool
inner_long_from inner_least zero sizes = inner_long inner_least sizes
inner_long_from inner_least (suc j) sizes = all_but_last inner_least sizes

not-ltb : (a b : ℕ) → not (ltb a b) ≡ leb b a
not-ltb a b = go (le-or-lt b a)
  where
    go : (b ≤ a) ⊎ (a < b) → not (ltb a b) ≡ leb b a
    go (inl h) = rw (le-ltb a b h, le-leb b a h)
    go (inr h) = rw (lt-ltb a b h, lt-leb b a h)

-- one place: `rest` are the sizes behind it
inner_long-step : (inner_least j n size : ℕ) (rest : List ℕ) → suc j + length rest ≡ n
    → inner_long_from inner_least j (size ∷ rest) ≡ (not (inner_short j n size inner_least) && inner_long_from inner_least (suc j) rest)
inner_long-step inner_least zero n size rest e = refl
inner_long-step inner_least (suc j) n size [] e = rw (le-ltb (suc (suc j)) n (omega arith), and-false)
inner_long-step inner_least (suc j) n size (t ∷ rest) e = rw (lt-ltb 0 (suc j) (omega arith), lt-ltb (suc (suc j)) n (omega arith), not-ltb size inner_least)

-- ---- before place j

-- slots₀: the slots before the walk
module _ (keys : List (List ℕ)) (size_of : ℕ → ℕ) (inner_least : ℕ) (file : List (List ℕ)) (slots₀ : List ℕ) where
  abbrev sizes : List (List ℕ) → List ℕ
  sizes places = sizes_in keys size_of places

  abbrev known : List (List ℕ) → Bool
  known places = every (λ key. contains key keys) places

  pub record Measuring (j total : ℕ) (short : Bool) (slots : List ℕ) : Type 0 where
    pub found : known (drop j file) ≡ known file
    pub few : total ≤ 4294967296
    pub long : min (total + sum (sizes (drop j file))) 4294967296 ≡ min (sum (sizes file)) 4294967296
    pub inner : (not short && inner_long_from inner_least j (sizes (drop j file))) ≡ inner_long inner_least (sizes file)
    pub slotted : filled keys file slots j ≡ written slots₀ (take (length slots₀) (entries_in keys file))

  pub measuring-start : Measuring 0 0 false slots₀
  measuring-start = record { found = refl; few = omega arith; long = rw zero-add; inner = refl; slotted = filled-start keys file slots₀ }

  length-sizes : (places : List (List ℕ)) → length (sizes places) ≡ length places
  length-sizes [] = refl
  length-sizes (x ∷ xs) = ap suc (length-sizes xs)

  -- a fingerprint that is not there
  measuring-missing : (j total : ℕ) (short : Bool) (slots : List ℕ) → Measuring j total short slots → (h : j < length file)
      → length keys ≤ position_of (get_or file j []) keys → true ≡ not (known file)
  measuring-missing j total short slots m h l =
      rw (← m.found, drop-cons file j [] h, contains-position (get_or file j []) keys, le-ltb (position_of (get_or file j []) keys) (length keys) l)

  or-not : (a b x : Bool) → (not (a || b) && x) ≡ (not a && (not b && x))
  or-not true b x = refl
  or-not false b x = refl

  pub measuring-on : (j total : ℕ) (short : Bool) (slots : List ℕ) → Measuring j total short slots → (h : j < length file)
      → (k size : ℕ) → k ≡ position_of (get_or file j []) keys → k < length keys → size ≡ size_of k
      → (more : ℕ) → more ≡ min (total + size) 4294967296 → (tight : Bool) → tight ≡ inner_short j (length file) size inner_least
      → Measuring (j + 1) more (short || tight) (set slots j k)
  measuring-on j total short slots m h k size e l s more f tight g =
      let rest = drop (j + 1) file in
      let here : sizes (drop j file) ≡ size ∷ sizes rest = rw (add-one, drop-cons file j [] h, ← e, ← s) in
      let there : known (drop j file) ≡ known rest =
      rw (add-one, drop-cons file j [] h, contains-position (get_or file j []) keys, ← e, lt-ltb k (length keys) l) in
      let behind : suc j + length (sizes rest) ≡ length file = omega (arith, length-sizes rest, length-drop (j + 1) file) in
      let step : inner_long_from inner_least j (size ∷ sizes rest) ≡ (not tight && inner_long_from inner_least (j + 1) (sizes rest))
      = rw (g, add-one j) (inner_long-step inner_least j (length file) size (sizes (drop (suc j) file)) (rw add-one at behind)) in
      let turn : (not tight && inner_long_from inner_least (j + 1) (sizes rest)) ≡ inner_long_from inner_least j (sizes (drop j file)) =
      sym step ∙ ap (λ (x : List ℕ). inner_long_from inner_least j x) (sym here) in
      record {
        found = sym there ∙ m.found;
        few = omega arith;
        long = omega (arith, ap sum here, m.long, f);
        inner = or-not short tight (inner_long_from inner_least (j + 1) (sizes rest)) ∙ ap (λ (x : Bool). not short && x) turn ∙ m.inner;
        slotted = filled_on keys file slots j h k e l ∙ m.slotted;
      }

  inner_long-none : (j : ℕ) → inner_long_from inner_least j [] ≡ true
  inner_long-none zero = refl
  inner_long-none (suc j) = refl

  not-not : (a : Bool) → a ≡ not (not a && true)
  not-not true = refl
  not-not false = refl

  pub measuring-end : (j total : ℕ) (short : Bool) (slots : List ℕ) → Measuring j total short slots → length file ≤ j
      → Measured keys size_of inner_least file slots₀ slots false total short
  measuring-end j total short slots m h =
      let z : drop j file ≡ [] = drop_of_length-le file h in
      record {
        lacks = rw (← m.found, z);
        long = λ e. omega (arith, m.few, rw z at m.long);
        tight = λ e. not-not short ∙ ap not (ap (λ (x : Bool). not short && x) (sym (rw z (inner_long-none j))) ∙ m.inner);
        kept = filled-end keys file slots j h ∙ m.slotted;
      }

  pub measured-missing : (j total : ℕ) (short : Bool) (slots : List ℕ) → Measuring j total short slots → (h : j < length file)
      → length keys ≤ position_of (get_or file j []) keys
      → Measured keys size_of inner_least file slots₀ slots true 0 false
  measured-missing j total short slots m h l =
      record {
        lacks = measuring-missing j total short slots m h l;
        long = λ e. absurd (true≢false e);
        tight = λ e. absurd (true≢false e);
        kept = filled-missing keys file slots j h l ∙ m.slotted;
      }

  -- ---- the tests in their order

  cap : (n : ℕ) → ltb 4294967295 (min n 4294967296) ≡ ltb 4294967295 n
  cap n = go (le-or-lt n 4294967295)
    where
      go : (n ≤ 4294967295) ⊎ (4294967295 < n) → ltb 4294967295 (min n 4294967296) ≡ ltb 4294967295 n
      go (inl h) = rw (le-ltb 4294967295 n h, le-ltb 4294967295 (min n 4294967296) (omega arith))
      go (inr h) = rw (lt-ltb 4294967295 n h, lt-ltb 4294967295 (min n 4294967296) (omega arith))

  measured-code : (slots : List ℕ) (missing : Bool) (total : ℕ) (short : Bool) → Measured keys size_of inner_least file slots₀ slots missing total short
      → first_number ((missing, 15) ∷ (ltb 4294967295 total, 16) ∷ (short, 17) ∷ []) ≡ file_code keys size_of inner_least file
  unfolding file_code
  measured-code slots true total short m = rw (← m.lacks)
  measured-code slots false total short m = rw (← m.lacks, m.long refl, m.tight refl, cap (sum (sizes file)))

  pub tested : (slots : List ℕ) (missing : Bool) (total : ℕ) (short : Bool) (code : ℕ) → Measured keys size_of inner_least file slots₀ slots missing total short
      → code ≡ first_number ((missing, 15) ∷ (ltb 4294967295 total, 16) ∷ (short, 17) ∷ [])
      → Tested keys size_of inner_least file slots₀ slots code
  tested slots missing total short code m e = (e ∙ measured-code slots missing total short m, m.kept)
