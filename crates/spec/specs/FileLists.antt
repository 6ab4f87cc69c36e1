-- The join in two parts: request #111. The first, the recipe check, is `joinable_code`; here is the second, the listing of a file by its number. It is said of
-- `many` files from number `first` on, whose lists stand one after the other: with `many` = 1 it is the request's one file.
use Rattle.std.specs.Prelude.{List, [], ◌∷◌, ℕ, ◌+◌, ◌*◌, length, get_or, ltb}
use Rattle.spec.specs.Outcome.{Outcome, first_number, whole, answer, unless_refused, list_too_long, file_number_wrong}
use Rattle.spec.specs.Bytes.{written, each}
use Rattle.spec.specs.Keywords.{folded_keywords}
use Rattle.spec.specs.Form.{Form}
use Rattle.spec.specs.Index.{list_in}
use Rattle.spec.specs.Recipes.{file_count, files_of}
use Rattle.spec.specs.Join.{Occurrence, join_file, file_records, list_bytes, joinable_code}

-- The list of the file with that number.
unfoldable pub file_occurrences : Form → List ℕ → List ℕ → ℕ → List Occurrence
file_occurrences f index recipes number =
    join_file number (folded_keywords (list_in index)) (file_records f index (get_or (files_of recipes) number []))

-- The lists of these files, one after the other.
unfoldable pub files_list : Form → List ℕ → List ℕ → ℕ → ℕ → List Occurrence
files_list f index recipes first many = each (file_occurrences f index recipes) first many

-- The refusals before 18: the recipe check, of all files whichever are asked for, then 24 for a number that is not below the file count.
unfoldable pub listable_code : Form → List ℕ → List ℕ → ℕ → ℕ → ℕ
listable_code f index recipes first many =
    first_number (whole (joinable_code f index recipes) ∷ (ltb (file_count recipes) (first + many), file_number_wrong) ∷ [])

-- The whole refusal, for a buffer of `room` bytes: 18 is tested against the list of these files alone.
unfoldable pub listing_code : Form → List ℕ → List ℕ → ℕ → ℕ → ℕ → ℕ
listing_code f index recipes first many room =
    first_number
    (whole (listable_code f index recipes first many)
    ∷ (ltb room (9 * length (files_list f index recipes first many)), list_too_long)
    ∷ [])

-- The answer, which has the count, and the buffer.
unfoldable pub listing_outcome : Form → List ℕ → List ℕ → ℕ → ℕ → ℕ → Outcome
listing_outcome f index recipes first many room =
    answer (listing_code f index recipes first many room) (length (files_list f index recipes first many))

unfoldable pub listing_buffer : Form → List ℕ → List ℕ → ℕ → ℕ → List ℕ → List ℕ
listing_buffer f index recipes first many out =
    unless_refused (listing_code f index recipes first many (length out)) (written out (list_bytes (files_list f index recipes first many))) out

-- The count that a listing would report, whatever the buffer.
unfoldable pub listing_count : Form → List ℕ → List ℕ → ℕ → ℕ → Outcome
listing_count f index recipes first many = answer (listable_code f index recipes first many) (length (files_list f index recipes first many))
