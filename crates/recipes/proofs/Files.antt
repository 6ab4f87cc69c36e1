-- The files of recipes one after the other: one step of `files_whole`, and what a file's place gives. Assumes nothing.
use mathlib.Core.Path.{◌≡◌, sym, ap, ◌∙◌}
use mathlib.Core.Logic.{◌⊎◌, inl, inr}
use mathlib.Core.Bool.{true, false, ◌&&◌, and-false}
use mathlib.Core.List.{List, [], ◌∷◌}
use Prim.Native.Nat.{ℕ, suc, ◌+◌, ◌-◌, ◌*◌, ◌/◌, ◌≤◌, ◌<◌}
use native.Mathlib.Nat.{sub-zero}
use native.Mathlib.Omega.{arith}
use borrow.Author.Tests.{le-leb, lt-leb, leb-true, ltb-false, not-false, eq-eqb, ne_eqb}
use lib.Dec.{eqb, leb}
use lib.ListN.{length, drop, length-drop, drop_of_length-le}
use lib.Seq.{drop-drop}
use Rattle.spec.specs.Bytes.{field_at, same}
use Rattle.spec.specs.Directory.{keys_of}
use Rattle.spec.specs.Recipes.{file_count, files_whole, read_files, files_of, recipes_code}
use Rattle.spec.proofs.Tests.{and_left, and_right, le-or-lt}
use Rattle.spec.proofs.Same.{same_not}
use Rattle.spec.proofs.Codes.{passed}

-- ---- one file, n its chunk count, `left` files behind it

pub record FileAt (recipes : List ℕ) (left at n : ℕ) : Type 0 where
  pub room : at + 4 + 20 * n ≤ length recipes
  pub rest : files_whole left (drop (at + 4 + 20 * n) recipes) ≡ true
  pub files : read_files (suc left) (drop at recipes) ≡ keys_of 20 n (drop (at + 4) recipes) ∷ read_files left (drop (at + 4 + 20 * n) recipes)

-- the test of a file, at its place
whole-step : (recipes : List ℕ) (left at n : ℕ) → n ≡ field_at recipes at 4
    → files_whole (suc left) (drop at recipes)
    ≡ (leb 4 (length recipes - at) && leb (20 * n) (length recipes - at - 4) && files_whole left (drop (at + 4 + 20 * n) recipes))
whole-step recipes left at n e = let a : at + (4 + 20 * n) ≡ at + 4 + 20 * n = omega arith in rw (← e, length-drop, drop-drop, a)

files-step : (recipes : List ℕ) (left at n : ℕ) → n ≡ field_at recipes at 4
    → read_files (suc left) (drop at recipes) ≡ keys_of 20 n (drop (at + 4) recipes) ∷ read_files left (drop (at + 4 + 20 * n) recipes)
files-step recipes left at n e = let a : at + (4 + 20 * n) ≡ at + 4 + 20 * n = omega arith in rw (← e, drop-drop, drop-drop, a)

pub file-at : (recipes : List ℕ) (left at n : ℕ) → n ≡ field_at recipes at 4 → files_whole (suc left) (drop at recipes) ≡ true → FileAt recipes left at n
file-at recipes left at n e w =
    let four = leb 4 (length recipes - at) in
    let long = leb (20 * n) (length recipes - at - 4) in
    let behind = files_whole left (drop (at + 4 + 20 * n) recipes) in
    let t = sym (whole-step recipes left at n e) ∙ w in
    let u = and_left (four && long) behind t in
    record {
      room = omega (arith, leb-true 4 (length recipes - at) (and_left four long u), leb-true (20 * n) (length recipes - at - 4) (and_right four long u));
      rest = and_right (four && long) behind t;
      files = files-step recipes left at n e;
    }

-- ---- the check's turn: the files from k on, at their place

module _ (recipes : List ℕ) (count k at : ℕ) (turn : k < count) where
  step : (n : ℕ) → n ≡ field_at recipes at 4
      → files_whole (count - k) (drop at recipes)
      ≡ (leb 4 (length recipes - at) && leb (20 * n) (length recipes - at - 4) && files_whole (count - (k + 1)) (drop (at + 4 + 20 * n) recipes))
  step n e = let s : count - k ≡ suc (count - (k + 1)) = omega arith in rw s (whole-step recipes (count - (k + 1)) at n e)

  pub whole-lies : (n : ℕ) → n ≡ field_at recipes at 4 → 4 ≤ length recipes - at → (length recipes - at - 4) / 20 < n
      → false ≡ files_whole (count - k) (drop at recipes)
  whole-lies n e h l = sym (step n e ∙ rw (lt-leb (20 * n) (length recipes - at - 4) (omega arith), and-false))

  pub whole-on : (n : ℕ) → n ≡ field_at recipes at 4 → 4 ≤ length recipes - at → n ≤ (length recipes - at - 4) / 20
      → files_whole (count - (k + 1)) (drop (at + (4 + 20 * n)) recipes) ≡ files_whole (count - k) (drop at recipes)
  whole-on n e h l =
      let a : at + (4 + 20 * n) ≡ at + 4 + 20 * n = omega arith in
      rw a (sym (step n e ∙ rw (le-leb 4 (length recipes - at) h, le-leb (20 * n) (length recipes - at - 4) (omega arith))))

-- behind the last file nothing is left over
pub whole_end : (recipes : List ℕ) (count k at : ℕ) → count ≤ k → at ≤ length recipes → eqb at (length recipes) ≡ files_whole (count - k) (drop at recipes)
whole_end recipes count k at done h =
    let z : count - k ≡ 0 = omega arith in
    rw z (go (le-or-lt (length recipes) at))
  where
    go : (length recipes ≤ at) ⊎ (at < length recipes) → eqb at (length recipes) ≡ same (drop at recipes) []
    go (inl l) = rw (eq-eqb at (length recipes) (omega arith), drop_of_length-le recipes l)
    go (inr l) =
        rw (ne_eqb at (length recipes) (λ e. omega arith))
        (sym (same_not (drop at recipes) [] (λ e. omega (arith, ap length e, length-drop at recipes))))

-- ---- the walk along all files

pub record Walk (recipes : List ℕ) (k at : ℕ) : Type 0 where
  pub few : k ≤ file_count recipes
  pub within : at ≤ length recipes
  pub left : files_whole (file_count recipes - k) (drop at recipes) ≡ true
  pub files : read_files (file_count recipes - k) (drop at recipes) ≡ drop k (files_of recipes)

pub record Accepted (recipes : List ℕ) : Type 0 where
  pub header : 4 ≤ length recipes
  pub few : file_count recipes ≤ 65535
  pub start : Walk recipes 0 4

pub accepted : (recipes : List ℕ) → recipes_code recipes ≡ 0 → Accepted recipes
unfolding recipes_code files_of
accepted recipes e =
    let a = passed _ 14 _ (omega arith) e in
    let b = passed _ 14 _ (omega arith) a.1 in
    let c = passed _ 14 _ (omega arith) b.1 in
    let header = ltb-false (length recipes) 4 a.0 in
    record {
      header = header;
      few = ltb-false 65535 (file_count recipes) b.0;
      start = record { few = omega arith; within = header; left = rw sub-zero (not-false _ c.0); files = rw sub-zero };
    }

-- the file that the walk is at
pub walk-file : (recipes : List ℕ) (k at n : ℕ) → Walk recipes k at → k < file_count recipes → n ≡ field_at recipes at 4
    → FileAt recipes (file_count recipes - (k + 1)) at n
walk-file recipes k at n w h e =
    let s : file_count recipes - k ≡ suc (file_count recipes - (k + 1)) = omega arith in
    file-at recipes (file_count recipes - (k + 1)) at n e (rw s at w.left)

tail_of : (l : List (List (List ℕ))) (k : ℕ) (x : List (List ℕ)) (xs : List (List (List ℕ))) → x ∷ xs ≡ drop k l → xs ≡ drop (k + 1) l
tail_of l k x xs e = ap (λ (m : List (List (List ℕ))). drop 1 m) e ∙ drop-drop 1 k l

pub walk-on : (recipes : List ℕ) (k at n : ℕ) → Walk recipes k at → k < file_count recipes → n ≡ field_at recipes at 4 → Walk recipes (k + 1) (at + 4 + 20 * n)
walk-on recipes k at n w h e =
    let s : file_count recipes - k ≡ suc (file_count recipes - (k + 1)) = omega arith in
    let f = walk-file recipes k at n w h e in
    record {
      few = omega arith;
      within = f.room;
      left = f.rest;
      files = tail_of (files_of recipes) k (keys_of 20 n (drop (at + 4) recipes)) _ (sym f.files ∙ rw s at w.files);
    }

-- the walk's file and the files behind it
pub walk-files : (recipes : List ℕ) (k at n : ℕ) → Walk recipes k at → k < file_count recipes → n ≡ field_at recipes at 4
    → drop k (files_of recipes) ≡ keys_of 20 n (drop (at + 4) recipes) ∷ drop (k + 1) (files_of recipes)
walk-files recipes k at n w h e =
    let s : file_count recipes - k ≡ suc (file_count recipes - (k + 1)) = omega arith in
    let f = walk-file recipes k at n w h e in
    let g = sym f.files ∙ rw s at w.files in
    sym g
    ∙ ap (λ (m : List (List (List ℕ))). keys_of 20 n (drop (at + 4) recipes) ∷ m) (tail_of (files_of recipes) k (keys_of 20 n (drop (at + 4) recipes)) _ g)

-- behind the last file there is nothing
pub walk_end : (recipes : List ℕ) (k at : ℕ) → Walk recipes k at → file_count recipes ≤ k → drop k (files_of recipes) ≡ []
walk_end recipes k at w h =
    let z : file_count recipes - k ≡ 0 = omega arith in
    sym (rw z at w.files)
