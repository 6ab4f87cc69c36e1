-- Demand 3, one claim on a scan and any join of its index: for every store, keyword list, recipes, key, tally and buffers.
use Rattle.std.specs.Prelude.{◌≡◌, ◌↔◌, true, List, map, ℕ, ◌*◌, ◌≤◌, length, take}
use Rattle.spec.specs.Bytes.{largest32, written}
use Rattle.spec.specs.Outcome.{code_of, value_of, answer, unless_refused}
use Rattle.spec.specs.Keywords.{flag_of, folded, keywords_of, folded_keywords, keyword_code}
use Rattle.spec.specs.Directory.{size_at}
use Rattle.spec.specs.Store.{store_layout, store_keys, store_code}
use Rattle.spec.specs.Form.{newest, form_of}
use Rattle.spec.specs.Recipes.{files_of, recipes_code, files_code}
use Rattle.spec.specs.Join.{Clients, is_key, fit64, tally_with, list_bytes, join_outcome, join_buffer, join_tally, read_list}
use Rattle.spec.specs.Scan.{scan_index, scan_answer, scan_buffer, scanned_code, scanned_length}
use Rattle.spec.specs.Search.{restored, direct_search, search_join_code}
use Rattle.theory.specs.SearchList.{SearchList}

-- No refusal of the scan holds, for a buffer of `room` bytes: the keyword check and the store check find nothing, and the index has room.
abbrev pub NoScanRefusal : List ℕ → List ℕ → ℕ → Type 0
NoScanRefusal list store room =
    (keyword_code list ≡ 0)
    × (store_code store ≡ 0)
    × (length (scan_index newest list store) ≤ room)
    × (length (scan_index newest list store) ≤ largest32)

-- No refusal of the join holds, said of the store: 14; 15 and 16; 18; 22 and 23 (request #110). With the sets that a scan writes an inner chunk may have
-- any length, so there is no 17 (request #108).
abbrev pub NoJoinRefusal : List ℕ → List ℕ → List ℕ → Clients → ℕ → Type 0
NoJoinRefusal list store recipes clients room =
    (recipes_code recipes ≡ 0)
    × (files_code (store_keys store) (size_at store_layout store) 0 (files_of recipes) ≡ 0)
    × (9 * length (direct_search list store recipes) ≤ room)
    × (is_key (length (keywords_of list)) clients.key ≡ true)
    × (fit64 (tally_with clients (direct_search list store recipes)) ≡ true)

-- The restored files, as they compare.
abbrev pub restored_files : List ℕ → List ℕ → List ℕ → List (List ℕ)
restored_files list store recipes = map (λ file. folded (flag_of list) (restored store file)) (files_of recipes)

-- The join's index: the bytes that the scan wrote into its buffer, of the length it reported.
abbrev pub scanned : List ℕ → List ℕ → List ℕ → List ℕ
scanned list store buffer = take (scanned_length (scan_answer newest list store (length buffer))) (scan_buffer newest list store buffer)

-- What holds of a join of that index, by the form that its mark names, once the scan has done its work.
pub record JoinOfScan (list store recipes : List ℕ) (clients : Clients) (index out : List ℕ) : Type 0 where
  -- the join does its work exactly when none of its refusals holds
  pub done : (code_of (join_outcome (form_of index) index recipes clients (length out)) ≡ 0) ↔ NoJoinRefusal list store recipes clients (length out)
  -- its answer: the refusal's number, or the length of the direct search's list
  pub outcome : join_outcome (form_of index) index recipes clients (length out)
      ≡ answer (search_join_code newest list store recipes clients (length out)) (length (direct_search list store recipes))
  -- its buffer: as it was on a refusal, or the direct search's list and the rest as it was
  pub bytes : join_buffer (form_of index) index recipes clients out
      ≡ unless_refused (search_join_code newest list store recipes clients (length out)) (written out (list_bytes (direct_search list store recipes))) out
  -- the tally: as it was on a refusal, or each client's count with the occurrences of its keywords in that list
  pub tally : join_tally (form_of index) index recipes clients (length out)
      ≡ unless_refused (search_join_code newest list store recipes clients (length out)) (tally_with clients (direct_search list store recipes)) clients.tally
  -- where it does its work: the list, read from the buffer's first 9 × count bytes, is the direct search's
  pub listed : code_of (join_outcome (form_of index) index recipes clients (length out)) ≡ 0
      → read_list (value_of (join_outcome (form_of index) index recipes clients (length out))) (join_buffer (form_of index) index recipes clients out)
      ≡ direct_search list store recipes

pub record ScanAndJoin (list store recipes : List ℕ) (clients : Clients) (buffer out : List ℕ) : Type 0 where
  -- the scan does its work exactly when none of its refusals holds
  pub scan : (scanned_code (scan_answer newest list store (length buffer)) ≡ 0) ↔ NoScanRefusal list store (length buffer)
  -- and then a join of what it wrote answers by the restored files
  pub join : scanned_code (scan_answer newest list store (length buffer)) ≡ 0 → JoinOfScan list store recipes clients (scanned list store buffer) out
  -- whose direct search lists every occurrence once, in order, and nothing else
  pub searches : SearchList (folded_keywords list) (restored_files list store recipes) (direct_search list store recipes)
