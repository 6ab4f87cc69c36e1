-- The files one after the other: what is left to test, to list and to query from file k on, that it starts with file k, and that an accepted file can
-- be walked. A file's slice is the definition's file (its fingerprints are read alike); what 15 and 16 test is what the walk asks.
-- Assumes nothing.
use mathlib.Core.Path.{◌≡◌, refl, sym, ap, ◌∙◌}
use mathlib.Core.List.{List, [], ◌∷◌, ◌++◌, map}
use Prim.Native.Nat.{ℕ, ◌+◌, ◌*◌, ◌/◌, ◌≤◌, ◌<◌}
use native.Mathlib.Nat.{add-zero}
use native.Mathlib.Numerals.{add-one}
use native.Mathlib.Omega.{arith}
use lib.ListN.{length, drop, get_or}
use lib.Seq.{get_or-drop}
use Rattle.spec.specs.Bytes.{part, field_at, position_of, sum}
use Rattle.spec.specs.Outcome.{first_code}
use Rattle.spec.specs.Keywords.{folded_keywords}
use Rattle.spec.specs.Directory.{keys_of, size_at}
use Rattle.spec.specs.Form.{form_of}
use Rattle.spec.specs.Index.{list_in, lengths_in, index_layout, index_keys, index_records}
use Rattle.spec.specs.Recipes.{named, file_count, files_of, sizes_in, file_code, files_code}
use Rattle.spec.specs.Join.{Occurrence, join_file, join_files, file_records, join_list, inner_least}
use Rattle.spec.specs.Query.{Line, line_of, lines_from, query_lines}
use Rattle.spec.proofs.EntryLaws.{length-keys, key-at}
use Rattle.spec.proofs.IndexChecks.{length-index_keys}
use Rattle.spec.proofs.FileLaws.{file-accepted, files-cons, files-drop}
use Rattle.recipes.proofs.Files.{Walk, walk-files, walk_end}
use Rattle.recipes.proofs.Slices.{file-length, file-names}
use Rattle.files.specs.Measures.{Slotted}
use Rattle.walk.specs.Walking.{chunks_in, size_of, File}
use Rattle.plan.specs.Plans.{all_files_code, list_of}

-- the sizes of a file's chunks
sizes-are : (index : List ℕ) (file : List (List ℕ))
    → size_of (file_records (form_of index) index file) ≡ sum (sizes_in (index_keys index) (size_at (index_layout index) index) file)
unfolding file_records index_records
sizes-are index [] = refl
sizes-are index (key ∷ file) = ap (λ (m : ℕ). size_at (index_layout index) index (position_of key (index_keys index)) + m) (sizes-are index file)

-- a file's code
abbrev pub code_of : List ℕ → List (List ℕ) → ℕ
code_of index file = file_code (index_keys index) (size_at (index_layout index) index) (inner_least (form_of index) (list_in index)) file

-- ---- the files from k on

module _ (index recipes : List ℕ) where
  abbrev pub keywords : List (List ℕ)
  keywords = folded_keywords (list_in index)

  unfoldable pub left : ℕ → List Occurrence
  left k = join_files k keywords (map (file_records (form_of index) index) (drop k (files_of recipes)))

  pub left-start : left 0 ≡ join_list (form_of index) index recipes
  unfolding left join_list
  left-start = refl

  pub left_end : (k at : ℕ) → Walk recipes k at → file_count recipes ≤ k → left k ≡ []
  unfolding left join_files
  left_end k at w h = rw (walk_end recipes k at w h)

  -- a query's lines of the files from k on
  unfoldable pub lines_left : List ℕ → ℕ → List Line
  lines_left query k = lines_from (lengths_in index) query k keywords (map (file_records (form_of index) index) (drop k (files_of recipes)))

  pub lines_start : (query : List ℕ) → lines_left query 0 ≡ query_lines (form_of index) index recipes query
  unfolding lines_left query_lines
  lines_start query = refl

  pub lines_end : (query : List ℕ) (k at : ℕ) → Walk recipes k at → file_count recipes ≤ k → lines_left query k ≡ []
  unfolding lines_left lines_from
  lines_end query k at w h = rw (walk_end recipes k at w h)

  -- the code of the files from k on
  abbrev pub codes : ℕ → ℕ
  codes k = files_code (index_keys index) (size_at (index_layout index) index) (inner_least (form_of index) (list_in index)) (drop k (files_of recipes))

  pub codes-end : (k at : ℕ) → Walk recipes k at → file_count recipes ≤ k → codes k ≡ 0
  unfolding files_code
  codes-end k at w h = rw (walk_end recipes k at w h)

  -- file k is at `at`, and `file` is its slice
  module _ (k at : ℕ) (w : Walk recipes k at) (turn : k < file_count recipes) (file : List ℕ)
      (f : file ≡ part recipes (at + 4) (20 * field_at recipes at 4)) where
    abbrev n : ℕ
    n = field_at recipes at 4

    -- the fingerprints that it names
    abbrev names : List (List ℕ)
    names = keys_of 20 n (drop (at + 4) recipes)

    names-read : named file ≡ names
    names-read = file-names recipes k at w turn file f

    chunks-are : chunks_in index file ≡ file_records (form_of index) index names
    unfolding chunks_in
    chunks-are = ap (file_records (form_of index) index) names-read

    names-are : get_or (files_of recipes) k [] ≡ names
    names-are =
        ap (λ (i : ℕ). get_or (files_of recipes) i []) (sym (add-zero k)) ∙ sym (get_or-drop k (files_of recipes) 0 [])
        ∙ ap (λ (files : List (List (List ℕ))). get_or files 0 []) (walk-files recipes k at n w turn refl)

    pub list-is : list_of index recipes k ≡ join_file k keywords (chunks_in index file)
    list-is = ap (λ (l : List (List ℕ)). join_file k keywords (file_records (form_of index) index l)) names-are ∙ ap (join_file k keywords) (sym chunks-are)

    file-size : size_of (chunks_in index file) ≡ sum (sizes_in (index_keys index) (size_at (index_layout index) index) (named file))
    unfolding chunks_in
    file-size = sizes-are index (named file)

    -- a file that is accepted can be walked
    pub file-walks : (slots : List ℕ) → code_of index (named file) ≡ 0 → Slotted (index_keys index) (named file) slots → File index file slots
    file-walks slots e s =
        let accepted = file-accepted (index_keys index) (size_at (index_layout index) index) (inner_least (form_of index) (list_in index)) (named file) e in
        record {
          whole = omega (arith, file-length recipes k at w turn file f);
          found = λ j h.
              rw (← key-at 20 (length file / 20) j file h)
              (omega (arith, accepted.found j (rw (length-keys 20 (length file / 20) file) h), length-index_keys index));
          small = omega (arith, file-size, accepted.short);
          slotted = s;
        }

    -- its code, where all files pass
    pub file-passes : all_files_code index recipes ≡ 0 → code_of index (named file) ≡ 0
    file-passes e =
        ap (code_of index) names-read
        ∙ (files-cons (index_keys index) (size_at (index_layout index) index) (inner_least (form_of index) (list_in index)) names (drop (k + 1) (files_of recipes))
        (ap (files_code (index_keys index) (size_at (index_layout index) index) (inner_least (form_of index) (list_in index)))
        (sym (walk-files recipes k at n w turn refl))
        ∙ files-drop (index_keys index) (size_at (index_layout index) index) (inner_least (form_of index) (list_in index)) (files_of recipes) k e)).0

    -- the code of the files from k on
    pub codes-step : codes k ≡ first_code (code_of index (named file) ∷ map (code_of index) (drop (k + 1) (files_of recipes)))
    unfolding files_code
    codes-step =
        ap (files_code (index_keys index) (size_at (index_layout index) index) (inner_least (form_of index) (list_in index))) (walk-files recipes k at n w turn refl)
        ∙ ap (λ (x : ℕ). first_code (x ∷ map (code_of index) (drop (k + 1) (files_of recipes)))) (sym (ap (code_of index) names-read))

    -- file k's list, and then the files behind it
    pub left_step : left k ≡ join_file k keywords (chunks_in index file) ++ left (k + 1)
    unfolding left join_files
    left_step =
        ap (λ (files : List (List (List ℕ))). join_files k keywords (map (file_records (form_of index) index) files)) (walk-files recipes k at n w turn refl)
        ∙ rw (← chunks-are, ← add-one k)

    -- file k's line, and then those of the files behind it
    pub lines_step : (query : List ℕ)
        → lines_left query k ≡ line_of (lengths_in index) query k (join_file k keywords (chunks_in index file)) ++ lines_left query (k + 1)
    unfolding lines_left lines_from
    lines_step query =
        ap (λ (files : List (List (List ℕ))). lines_from (lengths_in index) query k keywords (map (file_records (form_of index) index) files))
        (walk-files recipes k at n w turn refl)
        ∙ rw (← chunks-are, ← add-one k)
