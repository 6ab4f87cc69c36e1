-- The walk of `measure_file`, in the terms of the code. Assumes nothing.
use mathlib.Core.Path.{◌≡◌, ap}
use mathlib.Core.Bool.{Bool, true, false, ◌||◌}
use mathlib.Core.List.{List, []}
use Prim.Native.Nat.{ℕ, ◌+◌, ◌-◌, ◌*◌, ◌/◌, ◌≤◌, ◌<◌, min}
use native.Mathlib.Omega.{arith}
use lib.ListN.{length, take, drop, get_or, set}
use Rattle.spec.specs.Bytes.{part, position_of}
use Rattle.spec.proofs.EntryLaws.{length-keys, key-at}
use Rattle.spec.specs.Recipes.{named}
use Rattle.files.specs.Measures.{keys_at, sizes_at, inner_short, Slotted, Measured}
use Rattle.files.proofs.Measuring.{Measuring, measured-missing, measuring-on, measuring-end}

-- ---- the slice of a fingerprint

slice-size : (at : ℕ) → at + 20 - at ≡ 20
slice-size at = omega arith

pub slice-part : (file : List ℕ) (at : ℕ) → take (at + 20 - at) (drop at file) ≡ part file at 20
slice-part file at = ap (λ (n : ℕ). take n (drop at file)) (slice-size at)

-- no slots hold nothing
pub no-slots : (keys file : List (List ℕ)) → Slotted keys file []
no-slots keys file = record { each = λ j h l. let z : ⊥ = omega arith in absurd z }

-- ---- one place

module _ (file index : List ℕ) (start count inner_least : ℕ) (slots₀ : List ℕ) (j total : ℕ) (short : Bool) (slots : List ℕ) where
  abbrev keys : List (List ℕ)
  keys = keys_at index start count

  -- before place j
  abbrev pub Before : Type 0
  Before = Measuring keys (sizes_at index start) inner_least (named file) slots₀ j total short slots

  places : length (named file) ≡ length file / 20
  places = length-keys 20 (length file / 20) file

  entries : length keys ≡ count
  entries = length-keys 32 count (drop start index)

  place_of : (k : ℕ) → j < length file / 20 → k ≡ position_of (part file (20 * j) 20) keys → k ≡ position_of (get_or (named file) j []) keys
  place_of k h e = rw (key-at 20 (length file / 20) j file h) e

  pub place-missing : Before → j < length file / 20 → (k : ℕ) → k ≡ position_of (part file (20 * j) 20) keys → count ≤ k
      → Measured keys (sizes_at index start) inner_least (named file) slots₀ slots true 0 false
  place-missing m h k e l =
      measured-missing keys (sizes_at index start) inner_least (named file) slots₀ j total short slots m (omega (arith, places)) (omega (arith, place_of k h e, entries))

  pub place-on : Before → j < length file / 20 → (k size : ℕ) → k ≡ position_of (part file (20 * j) 20) keys → k < count → size ≡ sizes_at index start k
      → (more : ℕ) → more ≡ min (total + size) 4294967296 → (tight : Bool) → tight ≡ inner_short j (length file / 20) size inner_least
      → (slots' : List ℕ) → slots' ≡ set slots j k → Measuring keys (sizes_at index start) inner_least (named file) slots₀ (j + 1) more (short || tight) slots'
  place-on m h k size e l s more f tight g slots' w =
      rw w
      (measuring-on keys (sizes_at index start) inner_least (named file) slots₀ j total short slots m (omega (arith, places))
      k size (place_of k h e) (omega (arith, entries)) s more f tight (rw places g))

  pub place_end : Before → length file / 20 ≤ j → Measured keys (sizes_at index start) inner_least (named file) slots₀ slots false total short
  place_end m h = measuring-end keys (sizes_at index start) inner_least (named file) slots₀ j total short slots m (omega (arith, places))
