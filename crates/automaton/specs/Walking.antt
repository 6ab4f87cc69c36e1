-- What the walk's functions ask and answer. A cell says where the walk is: the number of the node it leads to.
use Rattle.std.specs.Prelude.{◌≡◌, List, ℕ, ◌+◌, ◌*◌, ◌/◌, ◌%◌, ◌≤◌, ◌<◌, length, get_or, eqb}
use Rattle.spec.specs.Bytes.{keep}
use Rattle.spec.specs.Keywords.{flag_of, folded, folded_keywords, keyword_front_code}
use Rattle.spec.specs.Trie.{node_from, moves_from, node_after}
use Rattle.trie.specs.Numbers.{node_count, node_number, node_at}
use Rattle.automaton.specs.Automaton.{cell_of, log_from}
use Rattle.automaton.specs.declared.Walked.{Walked}

-- The node that a cell leads to.
abbrev pub number_in : ℕ → ℕ
number_in cell = cell % 262144 / 256

-- What a cell logs at a place.
unfoldable pub entry_of : ℕ → ℕ → List ℕ
entry_of cell at = keep (eqb (cell / 262144 % 2) 1) (cell % 262144 * 4096 + at)

-- The row of node s is the definition's.
pub record Row (list table : List ℕ) (s : ℕ) : Type 0 where
  pub inside : s < node_count (folded_keywords list)
  pub room : s * 256 + 256 ≤ length table
  pub cells : (b : ℕ) → b < 256 → get_or table (s * 256 + b) 0 ≡ cell_of (flag_of list) (folded_keywords list) s b

-- The rows of all nodes of less than d bytes.
pub record Rows (list table : List ℕ) (d : ℕ) : Type 0 where
  pub accepted : keyword_front_code list ≡ 0
  pub rows : (s : ℕ) → s < node_count (folded_keywords list) → length (node_at (folded_keywords list) s) < d → Row list table s

-- What a step asks: the cell leads to a node whose row is there.
pub record CanStep (list table : List ℕ) (cell : ℕ) : Type 0 where
  pub even : cell % 256 ≡ 0
  pub row : Row list table (number_in cell)

-- What a walk asks: all rows (no node has more than 32 bytes), a node, places below 2^20, and room for one entry a byte.
pub record CanWalk (list table : List ℕ) (node size at room : ℕ) : Type 0 where
  pub rows : Rows list table 33
  pub inside : node < node_count (folded_keywords list)
  pub places : at + size ≤ 1048576
  pub long : size ≤ room

-- What a walk answers.
unfoldable pub walked_of : List ℕ → ℕ → List ℕ → ℕ → Walked
walked_of list node bytes at =
    let keywords = folded_keywords list in
    let u = node_at keywords node in
    let text = folded (flag_of list) bytes in
    record {
      node = node_number keywords (node_from keywords u text);
      moves = moves_from keywords u text;
      logged = length (log_from keywords u at text);
    }

-- What it logs.
unfoldable pub walk_log : List ℕ → ℕ → List ℕ → ℕ → List ℕ
walk_log list node bytes at =
    log_from (folded_keywords list) (node_at (folded_keywords list) node) at (folded (flag_of list) bytes)

-- The number of the node after the bytes, from the root.
unfoldable pub number_after : List ℕ → List ℕ → ℕ
number_after list bytes = node_number (folded_keywords list) (node_after (folded_keywords list) (folded (flag_of list) bytes))
