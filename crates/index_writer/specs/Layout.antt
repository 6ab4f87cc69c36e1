-- The parts of the index that a scan writes, from a chunk on, and what measuring and writing ask and promise.
use Rattle.std.specs.Prelude.{◌≡◌, List, [], ◌∷◌, ◌++◌, map, ℕ, ◌+◌, ◌*◌, ◌-◌, ◌%◌, ◌≤◌, ◌<◌, length, get_or}
use Rattle.spec.specs.Bytes.{each, joined, sum}
use Rattle.spec.specs.Store.{chunk_count, chunk_at, store_code}
use Rattle.spec.specs.Form.{Form, newest}
use Rattle.spec.specs.Index.{Entry, directory_bytes}
use Rattle.spec.specs.Scan.{scan_entry}
use Rattle.keywords.specs.declared.Keywords.{Keywords}
use Rattle.keywords.specs.Parsed.{Reads}
use Rattle.chunkwalk.specs.Marks.{mark_of, walked_moves, Usable, Equipped}

-- The entries from chunk k on, and their bodies.
abbrev pub entries_from : Form → List ℕ → List ℕ → ℕ → List Entry
entries_from f list store k = each (λ j. scan_entry f list store j ∷ []) k (chunk_count store - k)

abbrev pub bodies_from : Form → List ℕ → List ℕ → ℕ → List ℕ
bodies_from f list store k = joined (map (λ e. e.body) (entries_from f list store k))

-- The index behind its keyword list: directory and bodies.
unfoldable pub tail_bytes : Form → List ℕ → List ℕ → List ℕ
tail_bytes f list store =
    directory_bytes (8 + length list + 32 * chunk_count store) (entries_from f list store 0) ++ bodies_from f list store 0

-- The chunks' marks, in store order.
unfoldable pub marks_of : List ℕ → List ℕ → List ℕ
marks_of list store = each (λ j. mark_of list (chunk_at store j) ∷ []) 0 (chunk_count store)

-- The moves of the chunks that are walked when the bodies are written, by their marks.
unfoldable pub moves_written : List ℕ → List ℕ → List ℕ → ℕ
moves_written list store marks = sum (each (λ j. walked_moves list (chunk_at store j) (get_or marks j 0) ∷ []) 0 (chunk_count store))

-- ---- what the inner functions ask and promise

-- The list is read, the store passed its check, and its chunk count is at hand.
pub record Walks (list : List ℕ) (words : Keywords) (store : List ℕ) (count : ℕ) : Type 0 where
  pub reads : Reads list words
  pub checked : store_code store ≡ 0
  pub counted : count ≡ chunk_count store

pub record CanPutEntry (buffer : List ℕ) (at : ℕ) (key : List ℕ) : Type 0 where
  pub long : length key ≡ 20
  pub room : at + 32 ≤ length buffer

-- A writer may go by the marks.
abbrev pub AllUsable : List ℕ → List ℕ → List ℕ → Type 0
AllUsable list store marks = (j : ℕ) → j < chunk_count store → Usable list (chunk_at store j) (get_or marks j 0)

-- The automaton's arrays are there, and room for the logs and the marks.
pub record CanMeasure (list : List ℕ) (words : Keywords) (store : List ℕ) (count : ℕ) (table ends tails log run1 run2 run3 marks : List ℕ) : Type 0 where
  pub walks : Walks list words store count
  pub equipped : Equipped list words table ends tails log run1 run2 run3
  pub long : 65000 ≤ length marks

-- With them the buffer has room for the index.
pub record CanPutEntries (buffer list : List ℕ) (words : Keywords) (store : List ℕ) (count : ℕ)
    (table ends tails log run1 run2 run3 marks : List ℕ) : Type 0 where
  pub measures : CanMeasure list words store count table ends tails log run1 run2 run3 marks
  pub usable : AllUsable list store marks
  pub room : 8 + length list + 32 * count + length (bodies_from newest list store 0) ≤ length buffer

-- Every mark has its chunk walked.
abbrev pub AllOdd : List ℕ → Type 0
AllOdd marks = (j : ℕ) → j < length marks → get_or marks j 0 % 2 ≡ 1
