-- A chunk's walk in windows: what a walk counts, and what the functions here ask.
use Rattle.std.specs.Prelude.{◌≡◌, List, ℕ, ◌+◌, ◌≤◌, min, length}
use Rattle.keywords.specs.declared.Keywords.{Keywords}
use Rattle.automaton.specs.Walking.{Rows, walked_of, walk_log}
use Rattle.automaton_lanes.specs.Lanes.{CanWalkLanes}
use Rattle.logs.specs.Log.{AllFit}
use Rattle.logs.specs.Tallies.{tally_of}
use Rattle.windows.specs.declared.Counted.{Counted}

-- Where the window from `at` on ends: 65,536 bytes on, or where the chunk does.
unfoldable pub window_end : ℕ → ℕ → ℕ
window_end at size = min (at + 65536) size

-- What the walk of bytes counts, from a node and a place on: the last node, the moves, the entries logged, and their tally.
unfoldable pub counted_of : List ℕ → List ℕ → List ℕ → ℕ → List ℕ → ℕ → Counted
counted_of list ends len node bytes at = record {
  node = (walked_of list node bytes at).node;
  moves = (walked_of list node bytes at).moves;
  logged = length (walk_log list node bytes at);
  tally = tally_of ends len (walk_log list node bytes at);
}

-- What counting a window asks: what its walk asks, and that each entry can be read.
pub record CanCount (list : List ℕ) (words : Keywords) (node : ℕ) (bytes : List ℕ) (at : ℕ) (table ends log run1 run2 run3 : List ℕ) : Type 0 where
  pub walks : CanWalkLanes list table node (length bytes) at (length log) (length run1) (length run2) (length run3)
  pub sizes : length words.len ≡ 16
  pub fits : AllFit ends words.len (walk_log list node bytes at)

-- What counting and filling by windows ask of a chunk: room for a window and for its quarters, and that each entry of its log can be read.
pub record CanWindow (list : List ℕ) (words : Keywords) (chunk table ends log run1 run2 run3 : List ℕ) : Type 0 where
  pub rows : Rows list table 33
  pub places : length chunk ≤ 1048576
  pub sizes : length words.len ≡ 16
  pub fits : AllFit ends words.len (walk_log list 0 chunk 0)
  pub room : 65536 ≤ length log
  pub room1 : 16384 ≤ length run1
  pub room2 : 16384 ≤ length run2
  pub room3 : 16384 ≤ length run3
