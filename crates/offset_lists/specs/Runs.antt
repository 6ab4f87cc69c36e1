-- The lists of offsets of a body, filled from a log: each keyword's list is a run of its own, and a cursor says where it goes on.
use Rattle.std.specs.Prelude.{◌≡◌, true, cond, List, [], ◌∷◌, ℕ, ◌+◌, ◌-◌, ◌≤◌, ◌<◌, length, get_or, leb}
use Rattle.spec.specs.Bytes.{each, le_bytes, fields_bytes, in_set}
use Rattle.spec.specs.Form.{Form, newest}
use Rattle.keywords.specs.declared.Keywords.{Keywords}
use Rattle.logs.specs.Log.{logged_offsets}
use Rattle.offset_lists.specs.Patches.{patched, Apart}

-- An offset as it is listed: nothing where the keyword has at most one.
unfoldable pub piece_of : Form → ℕ → ℕ → List ℕ
piece_of f count offset = cond (leb count 1) [] (le_bytes f.width offset)

-- What an entry adds to keyword k's list; what a log does.
unfoldable pub entry_run : Form → List ℕ → List ℕ → ℕ → ℕ → ℕ → List ℕ
entry_run f counts len members end k = cond (in_set members k) (piece_of f (get_or counts k 0) (end - get_or len k 0)) []

unfoldable pub log_run : Form → List ℕ → List ℕ → List ℕ → List ℕ → ℕ → List ℕ
log_run f counts len ends log k = cond (leb (get_or counts k 0) 1) [] (fields_bytes f.width (logged_offsets ends k (get_or len k 0) log))

abbrev pub cursor : List ℕ → ℕ → ℕ
cursor cursors k = get_or cursors k 0

-- The cursors behind the runs.
unfoldable pub moved_by : (ℕ → List ℕ) → List ℕ → List ℕ
moved_by run cursors = each (λ k. (cursor cursors k + length (run k)) ∷ []) 0 16

-- What filling promises, of runs that lie apart: each stands at its cursor, and the cursors are behind them.
pub record Filled (run : ℕ → List ℕ) (before cursors after cursors' : List ℕ) : Type 0 where
  pub bytes : (n : ℕ) → ((k : ℕ) → n ≤ k → run k ≡ []) → Apart n (cursor cursors) run (length before) → after ≡ patched n (cursor cursors) run before
  pub moved : (k : ℕ) → cursor cursors' k ≡ cursor cursors k + length (run k)

-- What it asks: an element for each of 16 keywords, and room for each run.
pub record CanFill (run : ℕ → List ℕ) (before cursors counts len : List ℕ) : Type 0 where
  pub placed : length cursors ≡ 16
  pub counted : length counts ≡ 16
  pub sizes : length len ≡ 16
  pub room : (k : ℕ) → cursor cursors k + length (run k) ≤ length before

-- For one entry also that its keywords are below 16, and none is longer than `end` bytes.
pub record CanFillEntry (before cursors counts len : List ℕ) (members end : ℕ) : Type 0 where
  pub fill : CanFill (entry_run newest counts len members end) before cursors counts len
  pub few : members < 65536
  pub back : (k : ℕ) → in_set members k ≡ true → get_or len k 0 ≤ end

-- For the runs of a whole log that each keyword's has its place, and that there are no others.
pub record CanList (words : Keywords) (run : ℕ → List ℕ) (before cursors counts : List ℕ) : Type 0 where
  pub placed : length cursors ≡ 16
  pub counted : length counts ≡ 16
  pub sizes : length words.len ≡ 16
  pub few : words.count ≤ 16
  pub apart : Apart words.count (cursor cursors) run (length before)
  pub none : (k : ℕ) → words.count ≤ k → run k ≡ []
  pub within : (k : ℕ) → words.count ≤ k → cursor cursors k ≤ length before
