-- The line of a file that is given as its slice of the recipes.
use Rattle.std.specs.Prelude.{List, ℕ}
use Rattle.spec.specs.Index.{lengths_in}
use Rattle.spec.specs.Query.{Line, line_of}
use Rattle.walk.specs.Walking.{file_list}

-- It is none where the file does not qualify.
abbrev pub file_line : List ℕ → List ℕ → ℕ → List ℕ → List Line
file_line index query number file = line_of (lengths_in index) query number (file_list number index file)
