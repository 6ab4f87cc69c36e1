-- A file's slice of the recipes is the definition's file: its fingerprints are read alike. Assumes nothing.
use mathlib.Core.Path.{◌≡◌, refl, sym, ap, ap₂, ◌∙◌}
use mathlib.Core.List.{List, ◌∷◌}
use Prim.Native.Nat.{ℕ, zero, suc, ◌+◌, ◌*◌, ◌/◌, ◌≤◌, ◌<◌}
use native.Mathlib.Omega.{arith}
use lib.ListN.{length, take, drop, length-drop}
use lib.Seq.{take-take, length-take-le}
use Rattle.spec.specs.Bytes.{part, field_at}
use Rattle.spec.specs.Directory.{keys_of}
use Rattle.spec.specs.Recipes.{named, file_count, files_of}
use Rattle.spec.proofs.Splices.{drop-take}
use Rattle.recipes.proofs.Files.{Walk, walk-file, walk-files, walk-on}

-- the fingerprints of a run are those of its own bytes
keys-take : (n : ℕ) (bytes : List ℕ) → keys_of 20 n (take (20 * n) bytes) ≡ keys_of 20 n bytes
keys-take zero bytes = refl
keys-take (suc n) bytes =
    let e : 20 * suc n ≡ 20 + 20 * n = omega arith in
    rw (e, take-take 20 (20 + 20 * n) bytes (omega arith), drop-take 20 (20 * n) bytes, keys-take n (drop 20 bytes))

-- file k is at `at`, and `file` is its slice
module _ (recipes : List ℕ) (k at : ℕ) (w : Walk recipes k at) (turn : k < file_count recipes) (file : List ℕ)
    (f : file ≡ part recipes (at + 4) (20 * field_at recipes at 4)) where
  abbrev n : ℕ
  n = field_at recipes at 4

  pub file-length : length file ≡ 20 * n
  file-length =
      let inside : 20 * n ≤ length (drop (at + 4) recipes) = omega (arith, length-drop (at + 4) recipes, (walk-file recipes k at n w turn refl).room) in
      ap length f ∙ length-take-le (20 * n) (drop (at + 4) recipes) inside

  file-count : length file / 20 ≡ n
  file-count = omega (arith, file-length)

  pub file-names : named file ≡ keys_of 20 n (drop (at + 4) recipes)
  file-names = ap₂ (keys_of 20) file-count f ∙ keys-take n (drop (at + 4) recipes)

  -- it is the first of the files from k on
  pub file-first : drop k (files_of recipes) ≡ named file ∷ drop (k + 1) (files_of recipes)
  file-first = walk-files recipes k at n w turn refl ∙ ap (λ (x : List (List ℕ)). x ∷ drop (k + 1) (files_of recipes)) (sym file-names)

  -- the next file is behind it
  pub file-next : Walk recipes (k + 1) (at + 4 + length file)
  file-next = rw file-length (walk-on recipes k at n w turn refl)
