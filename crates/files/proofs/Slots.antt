-- The slots: before place j, to write the entries from j on gives what the walk leaves (`filled`); and where no fingerprint is missing,
-- the slots have the entry of each place (`slotted`). Assumes nothing.
use mathlib.Core.Path.{◌≡◌, refl, sym, ap, ◌∙◌}
use mathlib.Core.Logic.{◌⊎◌, inl, inr}
use mathlib.Core.Bool.{Bool, true, not}
use mathlib.Core.List.{List, [], ◌∷◌}
use Prim.Native.Nat.{ℕ, zero, suc, ◌+◌, ◌-◌, ◌≤◌, ◌<◌, min}
use native.Mathlib.Nat.{sub-zero, not-suc-le-zero, le_of_suc-le-suc}
use native.Mathlib.Numerals.{add-one}
use native.Mathlib.Omega.{arith}
use borrow.Author.Tests.{lt-ltb, le-ltb, not-false}
use lib.ListN.{length, take, drop, get_or, set, length-set, length-take, drop_of_length-le}
use lib.Seq.{drop-cons, get_or-take, set_out, take-nil}
use Rattle.spec.specs.Bytes.{contains, position_of, every, splice, written}
use Rattle.spec.specs.Recipes.{file_code}
use Rattle.spec.proofs.Codes.{passed}
use Rattle.spec.proofs.EntryLaws.{contains-position}
use Rattle.spec.proofs.Splices.{splice-nil, splice-cons, splice-read, length-splice}
use Rattle.spec.proofs.Tests.{le-or-lt, and_left, and_right}
use Rattle.files.specs.Measures.{entries_in, Slotted}

-- what `file_code` answers and leaves in the slots, which were slots₀
abbrev pub Tested : List (List ℕ) → (ℕ → ℕ) → ℕ → List (List ℕ) → List ℕ → List ℕ → ℕ → Type 0
Tested keys size_of inner_least file slots₀ slots code = (code ≡ file_code keys size_of inner_least file) × (slots ≡ written slots₀ (take (length slots₀) (entries_in keys file)))

-- ---- the walk

module _ (keys file : List (List ℕ)) where
  -- the slots once the entries of the places from j on are written
  abbrev pub filled : List ℕ → ℕ → List ℕ
  filled slots j = splice slots j (take (length slots - j) (entries_in keys (drop j file)))

  pub filled-start : (slots : List ℕ) → filled slots 0 ≡ written slots (take (length slots) (entries_in keys file))
  filled-start slots = ap (λ (n : ℕ). written slots (take n (entries_in keys file))) (sub-zero (length slots))

  -- nothing is left to write
  none_left : (slots : List ℕ) (j : ℕ) → entries_in keys (drop j file) ≡ [] → slots ≡ filled slots j
  none_left slots j e = sym (rw (e, take-nil (length slots - j)) (splice-nil slots j))

  pub filled-end : (slots : List ℕ) (j : ℕ) → length file ≤ j → slots ≡ filled slots j
  unfolding entries_in
  filled-end slots j h = none_left slots j (rw (drop_of_length-le file {i = j} h))

  module _ (slots : List ℕ) (j : ℕ) (h : j < length file) where
    pub filled-missing : length keys ≤ position_of (get_or file j []) keys → slots ≡ filled slots j
    unfolding entries_in
    filled-missing l =
        none_left slots j (rw (drop-cons file j [] h, contains-position (get_or file j []) keys, le-ltb (position_of (get_or file j []) keys) (length keys) l))

    -- the entry k of place j is written
    pub filled_on : (k : ℕ) → k ≡ position_of (get_or file j []) keys → k < length keys → filled (set slots j k) (j + 1) ≡ filled slots j
    unfolding entries_in
    filled_on k e l = go (le-or-lt (length slots) j)
      where
        here : entries_in keys (drop j file) ≡ k ∷ entries_in keys (drop (j + 1) file)
        here = rw (add-one, drop-cons file j [] h, contains-position (get_or file j []) keys, ← e, lt-ltb k (length keys) l)

        go : (length slots ≤ j) ⊎ (j < length slots) → filled (set slots j k) (j + 1) ≡ filled slots j
        go (inl m) =
            let a : length slots - j ≡ 0 = omega arith in
            let b : length slots - (j + 1) ≡ 0 = omega arith in
            rw (set_out slots j k m, a, b) (splice-nil slots (j + 1) ∙ sym (splice-nil slots j))
        go (inr m) =
            let a : length slots - j ≡ suc (length slots - (j + 1)) = omega arith in
            rw (length-set slots j k, here, a) (splice-cons slots j k (take (length slots - (j + 1)) (entries_in keys (drop (j + 1) file))) m)

-- ---- a file without a missing fingerprint

module _ (keys : List (List ℕ)) where
  abbrev known : List (List ℕ) → Bool
  known file = every (λ key. contains key keys) file

  length-entries : (file : List (List ℕ)) → known file ≡ true → length (entries_in keys file) ≡ length file
  unfolding entries_in
  length-entries [] e = refl
  length-entries (p ∷ file) e = rw (and_left (contains p keys) (known file) e) (ap suc (length-entries file (and_right (contains p keys) (known file) e)))

  entry_at : (file : List (List ℕ)) → known file ≡ true → (j : ℕ) → j < length file → get_or (entries_in keys file) j 0 ≡ position_of (get_or file j []) keys
  unfolding entries_in
  entry_at [] e j h = absurd (not-suc-le-zero h)
  entry_at (p ∷ file) e zero h = rw (and_left (contains p keys) (known file) e)
  entry_at (p ∷ file) e (suc j) h =
      rw (and_left (contains p keys) (known file) e)
      (entry_at file (and_right (contains p keys) (known file) e) j (le_of_suc-le-suc h))

  none-missing : (size_of : ℕ → ℕ) (inner_least : ℕ) (file : List (List ℕ)) → file_code keys size_of inner_least file ≡ 0 → known file ≡ true
  unfolding file_code
  none-missing size_of inner_least file z = not-false (known file) (passed (not (known file)) 15 _ (omega arith) z).0

  -- where the code is 0, the slots have the entries of the file's first places
  pub slotted : (size_of : ℕ → ℕ) (inner_least : ℕ) (file : List (List ℕ)) (slots₀ slots : List ℕ) (code : ℕ) → Tested keys size_of inner_least file slots₀ slots code
      → code ≡ 0 → Slotted keys file slots
  slotted size_of inner_least file slots₀ slots code t z =
      let n = none-missing size_of inner_least file (sym t.0 ∙ z) in
      let v = take (length slots₀) (entries_in keys file) in
      let s : length v ≡ min (length slots₀) (length file) =
      length-take (length slots₀) (entries_in keys file) ∙ ap (min (length slots₀)) (length-entries file n) in
      let w : length slots ≡ length slots₀ = ap length t.1 ∙ length-splice slots₀ 0 v (omega arith) in
      let f : take (length v) slots ≡ v = ap (take (length v)) t.1 ∙ splice-read slots₀ 0 v (omega arith) in
      record {
        each = λ j h l.
            sym (get_or-take (length v) slots j 0 (omega arith)) ∙ ap (λ (x : List ℕ). get_or x j 0) f
            ∙ get_or-take (length slots₀) (entries_in keys file) j 0 (omega arith) ∙ entry_at file n j h;
      }
