-- What a file's code 0 gives: every fingerprint is in the directory, the file is not too long, inner chunks are long enough. Assumes nothing.
use mathlib.Core.Path.{◌≡◌, sym, ◌∙◌}
use mathlib.Core.Bool.{Bool, true}
use mathlib.Core.List.{List, [], ◌∷◌, map}
use Prim.Native.Nat.{ℕ, zero, suc, ◌≤◌, ◌<◌}
use native.Mathlib.Omega.{arith}
use borrow.Author.Tests.{ltb-true, ltb-false, not-false}
use lib.ListN.{length, drop, get_or}
use Rattle.spec.specs.Bytes.{contains, position_of, every, sum}
use Rattle.spec.specs.Recipes.{inner_long, sizes_in, file_code, files_code}
use Rattle.spec.proofs.Tests.{and_left, and_right}
use Rattle.spec.proofs.Codes.{passed, passed-code}
use Rattle.spec.proofs.EntryLaws.{contains-position}
use Rattle.spec.proofs.Tabulated.{map-match}

-- a test of every element, at one of them
pub every-at {ℓ} : {A : Type ℓ} (test : A → Bool) (l : List A) (j : ℕ) (d : A) → every test l ≡ true → j < length l → test (get_or l j d) ≡ true
every-at test [] j d e h = let z : ⊥ = omega arith in absurd z
every-at test (x ∷ l) zero d e h = and_left (test x) (every test l) e
every-at test (x ∷ l) (suc j) d e h = every-at test l j d (and_right (test x) (every test l) e) (omega arith)

-- two functions that agree where a test passes, on a list that passes
pub map_same : {A B : Type 0} (p : A → Bool) (f g : A → B) (d : A) (l : List A) → every p l ≡ true → ((x : A) → p x ≡ true → f x ≡ g x) → map f l ≡ map g l
map_same p f g d l e h = map-match f g d l (λ k u. h (get_or l k d) (every-at p l k d e u))

module _ (keys : List (List ℕ)) (size_of : ℕ → ℕ) (inner_least : ℕ) where
  pub record FileAccepted (file : List (List ℕ)) : Type 0 where
    pub known : every (λ key. contains key keys) file ≡ true
    -- fingerprint j has an entry
    pub found : (j : ℕ) → j < length file → position_of (get_or file j []) keys < length keys
    pub short : sum (sizes_in keys size_of file) ≤ 4294967295
    pub inner : inner_long inner_least (sizes_in keys size_of file) ≡ true

  pub file-accepted : (file : List (List ℕ)) → file_code keys size_of inner_least file ≡ 0 → FileAccepted file
  unfolding file_code
  file-accepted file e =
      let a = passed _ 15 _ (omega arith) e in
      let b = passed _ 16 _ (omega arith) a.1 in
      let c = passed _ 17 _ (omega arith) b.1 in
      let known = not-false (every (λ key. contains key keys) file) a.0 in
      record {
        known = known;
        found = λ j h. ltb-true (position_of (get_or file j []) keys) (length keys) (sym (contains-position (get_or file j []) keys) ∙ every-at (λ key. contains key keys) file j [] known h);
        short = ltb-false 4294967295 (sum (sizes_in keys size_of file)) b.0;
        inner = not-false (inner_long inner_least (sizes_in keys size_of file)) c.0;
      }

  -- file by file
  pub files-cons : (file : List (List ℕ)) (files : List (List (List ℕ))) → files_code keys size_of inner_least (file ∷ files) ≡ 0
      → (file_code keys size_of inner_least file ≡ 0) × (files_code keys size_of inner_least files ≡ 0)
  unfolding files_code
  files-cons file files e = passed-code (file_code keys size_of inner_least file) (map (file_code keys size_of inner_least) files) e

  pub files-drop : (files : List (List (List ℕ))) (k : ℕ) → files_code keys size_of inner_least files ≡ 0 → files_code keys size_of inner_least (drop k files) ≡ 0
  files-drop files zero e = e
  files-drop [] (suc k) e = e
  files-drop (file ∷ files) (suc k) e = files-drop files k (files-cons file files e).1

  pub files-accepted : (files : List (List (List ℕ))) (k : ℕ) → files_code keys size_of inner_least files ≡ 0 → k < length files → FileAccepted (get_or files k [])
  files-accepted [] k e h = let z : ⊥ = omega arith in absurd z
  files-accepted (file ∷ files) zero e h = file-accepted file (files-cons file files e).0
  files-accepted (file ∷ files) (suc k) e h = files-accepted files k (files-cons file files e).1 (omega arith)
