-- The answer of a scan, in document 01's numbers.
use Rattle.std.specs.Prelude.{ℕ, Result, Ok, Err}
use Rattle.spec.specs.declared.Refusal.{Refusal}
use Rattle.spec.specs.declared.ScanDone.{ScanDone}
use Rattle.spec.specs.Refusal.{number_of}

-- The index's length and the moves of work done, or the number that refuses it, alone (request #103).
pub data Scanned : Type 0 where
  Done : (size moves : ℕ) → Scanned
  Refused : (code : ℕ) → Scanned

-- What a scan's result says.
abbrev pub scanned_of : Result ScanDone Refusal → Scanned
scanned_of (Ok done) = Done done.size done.moves
scanned_of (Err refusal) = Refused (number_of refusal)
