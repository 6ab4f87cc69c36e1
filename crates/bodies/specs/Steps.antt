-- The body check keyword by keyword, for the contracts of functions inside. proofs/StepLaws shows that it is `good_body`.
use Rattle.std.specs.Prelude.{Bool, true, ◌&&◌, cond, List, ℕ, length, take}
use Rattle.spec.specs.Bytes.{same}
use Rattle.spec.specs.Form.{Form}
use Rattle.spec.specs.Records.{in_range, record_bytes, body_from, read_record, record_size, set_is_next, record_is_next, read_from, all_in_range}
use Rattle.body_sets.specs.Sets.{set_good}

-- From keyword k on: the bytes are the writing of the records that they say, and those keep the ranges.
unfoldable pub good_from : Form → ℕ → List ℕ → ℕ → List ℕ → Bool
good_from f k lengths size bytes =
    same (body_from f k lengths (read_from f k (length lengths) bytes)) bytes
    && all_in_range f size lengths (read_from f k (length lengths) bytes)

-- Bytes start with the writing of the record of kind 0 to 3 that they say, and it keeps the ranges.
unfoldable pub record_good : Form → ℕ → ℕ → ℕ → List ℕ → Bool
record_good f n k size bytes =
    same (record_bytes f n k (read_record f bytes)) (take (record_size f bytes) bytes)
    && in_range n size (read_record f bytes)

-- The same where they are keyword k's: where its record is not next there is nothing to ask of it, nor where its set is not next.
unfoldable pub record_good_next : Form → ℕ → ℕ → ℕ → List ℕ → Bool
record_good_next f n k size bytes = cond (record_is_next f k bytes) (record_good f n k size bytes) true

unfoldable pub set_good_next : Form → ℕ → ℕ → ℕ → List ℕ → Bool
set_good_next f n k size bytes = cond (set_is_next f k bytes) (set_good n k size bytes) true
