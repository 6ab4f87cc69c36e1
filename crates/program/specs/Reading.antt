-- What the program promises. What a file holds, and what is read of it, is not a contract's to say; what is made of it is.
use Rattle.std.specs.Prelude.{◌≡◌, List, ℕ, length}
use Rattle.spec.specs.Program.{program_text, printed_length, printed_buffer}

-- The buffer after the program, and the length that it answers: the text for three byte strings, those that were read.
pub record TextOfFiles (out out' : List ℕ) (r : ℕ) : Type 0 where
  pub store : List ℕ
  pub words : List ℕ
  pub recipes : List ℕ
  pub count : r ≡ printed_length (length out) (program_text store words recipes)
  pub bytes : out' ≡ printed_buffer out (program_text store words recipes)
