-- The answer of a search, in document 01's numbers.
use Rattle.std.specs.Prelude.{ℕ, Result, Ok, Err}
use Rattle.spec.specs.declared.SearchDone.{SearchDone}
use Rattle.spec.specs.declared.SearchRefusal.{SearchRefusal}
use Rattle.spec.specs.declared.SearchRefusal.TheVariants.{Scan, Join}
use Rattle.spec.specs.Refusal.{number_of}

-- The scan is refused; or it wrote an index of this length and its join is refused; or that length, and the count of occurrences.
pub data Searched : Type 0 where
  ScanRefused : (code : ℕ) → Searched
  JoinRefused : (size code : ℕ) → Searched
  Found : (size count : ℕ) → Searched

-- What a search's result says.
abbrev pub searched_of : Result SearchDone SearchRefusal → Searched
searched_of (Ok done) = Found done.size done.count
searched_of (Err (Scan refusal)) = ScanRefused (number_of refusal)
searched_of (Err (Join size refusal)) = JoinRefused size (number_of refusal)
