-- What is asked of a set's bytes.
use Rattle.std.specs.Prelude.{Bool, ◌&&◌, List, ℕ, take}
use Rattle.spec.specs.Bytes.{field_at, same}
use Rattle.spec.specs.Form.{form3}
use Rattle.spec.specs.Records.{set_in_range, set_bytes}

-- Bytes start with the writing of the set that they say, and it keeps the range that a form with sets gives it.
unfoldable pub set_good : ℕ → ℕ → ℕ → List ℕ → Bool
set_good n k size bytes = same (set_bytes k (field_at bytes 2 4)) (take 6 bytes) && set_in_range form3 n size (field_at bytes 2 4)
