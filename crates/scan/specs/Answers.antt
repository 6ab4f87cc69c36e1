-- The bound by which a scan writes at once, and what the scan's inner functions promise.
use Rattle.std.specs.Prelude.{◌≡◌, List, ℕ, ◌+◌, ◌*◌, length}
use Rattle.spec.specs.Scanned.{Scanned}
use Rattle.spec.specs.Keywords.{count_of}
use Rattle.spec.specs.Store.{chunk_count}
use Rattle.spec.specs.Form.{newest}
use Rattle.spec.specs.Scan.{scan_answer, scan_buffer}

-- The length that no index of this list and store exceeds: for each chunk and keyword a full record's head, the exact count, a set, and as many
-- offsets as the chunk has bytes.
unfoldable pub most_bytes : List ℕ → List ℕ → ℕ
most_bytes list store =
    8 + length list + 32 * chunk_count store + count_of list * ((11 + 2 * newest.width) * chunk_count store + newest.width * length store)

-- What a scan promises: its answer, and every byte of its buffer.
pub record Scans (list store before after : List ℕ) (answer : Scanned) : Type 0 where
  pub answered : answer ≡ scan_answer newest list store (length before)
  pub bytes : after ≡ scan_buffer newest list store before
