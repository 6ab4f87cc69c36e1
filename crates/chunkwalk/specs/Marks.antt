-- One chunk of the scan: what the measuring walk keeps of it, what writing it gives, and what both ask.
use Rattle.std.specs.Prelude.{◌≡◌, cond, List, ℕ, ◌+◌, ◌*◌, ◌%◌, ◌≤◌, length, replicate, eqb}
use Rattle.spec.specs.Keywords.{flag_of, folded, folded_keywords}
use Rattle.spec.specs.Form.{newest}
use Rattle.spec.specs.Scan.{scan_body}
use Rattle.spec.specs.Trie.{moves_of}
use Rattle.keywords.specs.declared.Keywords.{Keywords}
use Rattle.keywords.specs.Parsed.{Reads}
use Rattle.automaton.specs.Walking.{number_after, Rows}
use Rattle.logs.specs.Log.{log_of, Tabled}
use Rattle.logs.specs.declared.Tally.{Tally}
use Rattle.chunkwalk.specs.declared.Measured.{Measured}
use Rattle.chunkwalk.specs.declared.Written.{Written}

-- The log of a chunk, as keywords and chunk compare; its moves.
unfoldable pub chunk_log : List ℕ → List ℕ → List ℕ
chunk_log list chunk = log_of (folded_keywords list) (folded (flag_of list) chunk)

unfoldable pub chunk_moves : List ℕ → List ℕ → ℕ
chunk_moves list chunk = moves_of (folded_keywords list) (folded (flag_of list) chunk)

-- What is kept of a chunk: twice the number of its last node, and one more where a keyword occurs in it.
unfoldable pub mark_of : List ℕ → List ℕ → ℕ
mark_of list chunk = number_after list chunk * 2 + cond (eqb (length (chunk_log list chunk)) 0) 0 1

-- What measuring gives: the length of its body, its moves, its mark.
unfoldable pub measured_of : List ℕ → List ℕ → Measured
measured_of list chunk = record { size = length (scan_body newest list chunk); moves = chunk_moves list chunk; mark = mark_of list chunk }

-- A mark that a writer may go by: an odd one has the chunk walked, whatever it is; an even one is the chunk's own.
abbrev pub Usable : List ℕ → List ℕ → ℕ → Type 0
Usable list chunk mark = mark % 2 ≡ 0 → mark ≡ mark_of list chunk

-- The moves that writing a chunk takes: those of its walk, where the mark asks for one.
unfoldable pub walked_moves : List ℕ → List ℕ → ℕ → ℕ
walked_moves list chunk mark = cond (eqb (mark % 2) 0) 0 (chunk_moves list chunk)

-- What writing gives: the length of the body, and the moves of the walk.
unfoldable pub written_of : List ℕ → List ℕ → ℕ → Written
written_of list chunk mark = record { size = length (scan_body newest list chunk); moves = walked_moves list chunk mark }

-- The tally of a chunk in which no keyword occurs.
abbrev pub nothing : Tally
nothing = record { counts = replicate 16 0; firsts = replicate 16 0 }

-- The list is read, the arrays are its automaton's, and the logs have room for a window and for its quarters.
pub record Equipped (list : List ℕ) (words : Keywords) (table ends tails log run1 run2 run3 : List ℕ) : Type 0 where
  pub reads : Reads list words
  pub rows : Rows list table 33
  pub tabled : Tabled (folded_keywords list) ends tails
  pub room : 65536 ≤ length log
  pub room1 : 16384 ≤ length run1
  pub room2 : 16384 ≤ length run2
  pub room3 : 16384 ≤ length run3
