-- Request #111: the full list is the single files' lists one after the other, and so are a query's lines; lists of neighbouring ranges of files stand one after
-- the other. Assumes nothing.
use mathlib.Core.Path.{◌≡◌, refl, ap, ap₂, ◌∙◌}
use mathlib.Core.List.{List, [], ◌∷◌, ◌++◌, map}
use Prim.Native.Nat.{ℕ, zero, suc, ◌+◌, ◌-◌}
use native.Mathlib.Omega.{arith}
use lib.ListN.{length, get_or}
use Rattle.spec.specs.Bytes.{each}
use Rattle.spec.specs.Form.{Form}
use Rattle.spec.specs.Keywords.{folded_keywords}
use Rattle.spec.specs.Index.{list_in, lengths_in}
use Rattle.spec.specs.Recipes.{file_count, read_files, files_of}
use Rattle.spec.specs.Join.{Occurrence, join_file, join_files, file_records, join_list}
use Rattle.spec.specs.FileLists.{file_occurrences, files_list}
use Rattle.spec.specs.Query.{Line, line_of, lines_from, query_lines}
use Rattle.spec.proofs.Each.{each-match, each_append}

-- files one after the other: what each gives, by its number
module _ {A : Type 0} (f : ℕ → List (List ℕ) → List A) where
  unfoldable from : ℕ → List (List (List ℕ)) → List A
  from k [] = []
  from k (file ∷ files) = f k file ++ from (suc k) files

  by_number : (k : ℕ) (files : List (List (List ℕ))) → from k files ≡ each (λ p. f p (get_or files (p - k) [])) k (length files)
  unfolding from
  by_number k [] = refl
  by_number k (file ∷ files) =
      let z : k - k ≡ 0 = omega arith in
      let here : f k file ≡ f k (get_or (file ∷ files) (k - k) []) = rw z in
      ap₂ {C = List A} (λ a b. a ++ b) here
      (by_number (suc k) files
      ∙ each-match (λ p. f p (get_or files (p - suc k) [])) (λ p. f p (get_or (file ∷ files) (p - k) [])) (suc k) (suc k) (length files)
      (λ p h.
      let a : suc k + p - suc k ≡ p = omega arith in
      let b : suc k + p - k ≡ suc p = omega arith in
      rw (a, b)))

  all-files : (files : List (List (List ℕ))) → from 0 files ≡ each (λ p. f p (get_or files p [])) 0 (length files)
  all-files files = by_number 0 files ∙ each-match _ _ 0 0 (length files) (λ p h. let z : 0 + p - 0 ≡ 0 + p = omega arith in rw z)

pub length-files : (recipes : List ℕ) → length (files_of recipes) ≡ file_count recipes
unfolding files_of
length-files recipes = go (file_count recipes) _
  where
    go : (n : ℕ) (bytes : List ℕ) → length (read_files n bytes) ≡ n
    go zero bytes = refl
    go (suc n) bytes = ap suc (go n _)

module _ (f : Form) (index recipes : List ℕ) where
  abbrev keywords : List (List ℕ)
  keywords = folded_keywords (list_in index)

  lists-from : (k : ℕ) (files : List (List (List ℕ)))
      → join_files k keywords (map (file_records f index) files) ≡ from (λ p file. join_file p keywords (file_records f index file)) k files
  unfolding join_files from
  lists-from k [] = refl
  lists-from k (file ∷ files) = ap (λ (l : List Occurrence). join_file k keywords (file_records f index file) ++ l) (lists-from (suc k) files)

  -- THE FULL LIST IS THE SINGLE FILES' LISTS ONE AFTER THE OTHER
  pub join-is-files : join_list f index recipes ≡ files_list f index recipes 0 (file_count recipes)
  unfolding join_list files_list file_occurrences
  join-is-files =
      lists-from 0 (files_of recipes) ∙ all-files (λ p file. join_file p keywords (file_records f index file)) (files_of recipes)
      ∙ ap (each (file_occurrences f index recipes) 0) (length-files recipes)

  -- neighbouring ranges of files
  pub files-append : (first n m : ℕ)
      → files_list f index recipes first (n + m) ≡ files_list f index recipes first n ++ files_list f index recipes (first + n) m
  unfolding files_list
  files-append first n m = each_append (file_occurrences f index recipes) first n m

  lines-from : (query : List ℕ) (k : ℕ) (files : List (List (List ℕ)))
      → lines_from (lengths_in index) query k keywords (map (file_records f index) files)
      ≡ from (λ p file. line_of (lengths_in index) query p (join_file p keywords (file_records f index file))) k files
  unfolding lines_from from
  lines-from query k [] = refl
  lines-from query k (file ∷ files) =
      ap (λ (l : List Line). line_of (lengths_in index) query k (join_file k keywords (file_records f index file)) ++ l) (lines-from query (suc k) files)

  -- and so a query's lines
  pub lines-are-files : (query : List ℕ)
      → query_lines f index recipes query
      ≡ each (λ k. line_of (lengths_in index) query k (file_occurrences f index recipes k)) 0 (file_count recipes)
  unfolding query_lines file_occurrences
  lines-are-files query =
      lines-from query 0 (files_of recipes)
      ∙ all-files (λ p file. line_of (lengths_in index) query p (join_file p keywords (file_records f index file))) (files_of recipes)
      ∙ ap (each (λ k. line_of (lengths_in index) query k (file_occurrences f index recipes k)) 0) (length-files recipes)
