-- Several runs of bytes written into one buffer, each at its own place.
use Rattle.std.specs.Prelude.{List, ℕ, zero, suc, ◌+◌, ◌≤◌, ◌<◌, length}
use Rattle.spec.specs.Bytes.{splice}

-- A buffer after the first n runs are written: run k from place p k on.
unfoldable pub patched : ℕ → (ℕ → ℕ) → (ℕ → List ℕ) → List ℕ → List ℕ
patched zero p run buffer = buffer
patched (suc n) p run buffer = splice (patched n p run buffer) (p n) (run n)

-- They lie in the buffer one after the other.
pub record Apart (n : ℕ) (p : ℕ → ℕ) (run : ℕ → List ℕ) (size : ℕ) : Type 0 where
  pub order : (j k : ℕ) → j < k → k < n → p j + length (run j) ≤ p k
  pub room : (k : ℕ) → k < n → p k + length (run k) ≤ size
