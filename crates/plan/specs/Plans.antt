-- The plan of an index and recipes: what the operations on them share before they list, and what its stages hand over.
use Rattle.std.specs.Prelude.{◌≡◌, Bool, false, not, ◌&&◌, cond, List, [], ◌∷◌, ℕ, ◌<◌, eqb, ltb, length, get_or}
use Rattle.spec.specs.declared.Opened.{Opened}
use Rattle.spec.specs.Bytes.{each}
use Rattle.spec.specs.Outcome.{first_number, whole}
use Rattle.spec.specs.Form.{form_of}
use Rattle.spec.specs.Keywords.{folded_keywords}
use Rattle.spec.specs.Directory.{size_at}
use Rattle.spec.specs.Index.{list_in, lengths_in, index_layout, index_keys, index_code}
use Rattle.spec.specs.Opened.{opened_of}
use Rattle.spec.specs.Recipes.{file_count, files_of, recipes_code, files_code}
use Rattle.spec.specs.Join.{Occurrence, join_file, file_records, join_list, inner_least, joinable_code}
use Rattle.spec.specs.Query.{line_of, query_lines}
use Rattle.tables.specs.Tabled.{tables_of}
use Rattle.index.specs.Stages.{examined_chains}
use Rattle.walk.specs.Walking.{keyword_counts, Directory}
use Rattle.plan.specs.declared.Plan.{Plan}

-- 15, 16 and 17, file by file.
abbrev pub all_files_code : List ℕ → List ℕ → ℕ
all_files_code index recipes =
    files_code (index_keys index) (size_at (index_layout index) index) (inner_least (form_of index) (list_in index)) (files_of recipes)

-- The tests before the files': the index check, 14.
unfoldable pub front_code : List ℕ → List ℕ → ℕ
front_code index recipes = first_number (whole (index_code (form_of index) index) ∷ whole (recipes_code recipes) ∷ [])

-- ---- the plan

-- The occurrences of file k.
abbrev pub list_of : List ℕ → List ℕ → ℕ → List Occurrence
list_of index recipes k = join_file k (folded_keywords (list_in index)) (file_records (form_of index) index (get_or (files_of recipes) k []))

-- How many rows a file with these occurrences has in the answer: an empty query asks for its occurrences, another for its line.
unfoldable pub rows : List ℕ → List ℕ → ℕ → List Occurrence → ℕ
rows lengths query k list = cond (eqb (length query) 0) (length list) (length (line_of lengths query k list))

-- Those of file k.
abbrev pub rows_of : List ℕ → List ℕ → List ℕ → ℕ → ℕ
rows_of index recipes query k = rows (lengths_in index) query k (list_of index recipes k)

-- Those of all files.
unfoldable pub all_rows : List ℕ → List ℕ → List ℕ → ℕ
all_rows index recipes query =
    cond (eqb (length query) 0) (length (join_list (form_of index) index recipes)) (length (query_lines (form_of index) index recipes query))

-- What a plan counts by keyword, and of file k: the occurrences for an empty query; a query's lines have no counts by keyword.
unfoldable pub counted : List ℕ → List Occurrence → List Occurrence
counted query list = cond (eqb (length query) 0) list []

-- Whether there is a file k that has a row.
abbrev pub has_row : List ℕ → List ℕ → List ℕ → ℕ → Bool
has_row index recipes query k = ltb k (file_count recipes) && not (eqb (rows_of index recipes query k) 0)

-- That, of all numbers that files can have.
unfoldable pub files_with_rows : List ℕ → List ℕ → List ℕ → List Bool
files_with_rows index recipes query = each (λ k. has_row index recipes query k ∷ []) 0 65535

-- The number of the plan's refusal, before 18 and a query's 21; 0 where there is none.
abbrev pub plan_code : List ℕ → List ℕ → ℕ
plan_code index recipes = joinable_code (form_of index) index recipes

-- The plan where there is no refusal: the count, the counts by keyword, the opened index, and which files have rows.
unfoldable pub plan_of : List ℕ → List ℕ → List ℕ → Plan
plan_of index recipes query =
    record {
      total = all_rows index recipes query;
      counts = keyword_counts (counted query (join_list (form_of index) index recipes));
      opened = opened_of index;
      has_rows = files_with_rows index recipes query;
    }

-- The tables after it: the keywords' where neither index nor recipes are refused; as they were else.
unfoldable pub planned_tables : List ℕ → List ℕ → List (List (List ℕ)) → List (List (List ℕ))
planned_tables index recipes tables = cond (eqb (front_code index recipes) 0) (tables_of (folded_keywords (list_in index))) tables

-- ---- what the stages hand over

-- The index check and 14, and the chains that the check leaves.
pub record Prepared (index recipes chains₀ chains : List ℕ) (code : ℕ) : Type 0 where
  pub number : code ≡ front_code index recipes
  pub chained : chains ≡ examined_chains index chains₀

-- Files can be tested and walked: the recipes are whole, fingerprints can be looked up, and the keywords have their tables.
pub record Joinable (index recipes : List ℕ) (opened : Opened) (chains : List ℕ) (tables : List (List (List ℕ))) : Type 0 where
  pub named : recipes_code recipes ≡ 0
  pub looked : Directory index opened chains
  pub tabled : tables ≡ tables_of (folded_keywords (list_in index))

-- A file that is not said to have rows has none.
pub record Marked (index recipes query : List ℕ) (has_rows : List Bool) : Type 0 where
  pub none : (k : ℕ) → k < file_count recipes → get_or has_rows k false ≡ false → rows_of index recipes query k ≡ 0

-- What a plan without refusal gives who lists: everything passes, files can be walked, the total and the files with rows are the definition's.
pub record Planned (index recipes query : List ℕ) (plan : Plan) (chains : List ℕ) (tables : List (List (List ℕ))) : Type 0 where
  pub accepted : joinable_code (form_of index) index recipes ≡ 0
  pub passed : all_files_code index recipes ≡ 0
  pub totalled : plan.total ≡ all_rows index recipes query
  pub counts : plan.counts ≡ keyword_counts (counted query (join_list (form_of index) index recipes))
  pub marked : Marked index recipes query plan.has_rows
  pub joinable : Joinable index recipes plan.opened chains tables
