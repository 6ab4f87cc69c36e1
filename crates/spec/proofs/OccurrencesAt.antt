-- Laws of `occurrences_at`, the keywords that pass a test at one offset. Assumes nothing.
use mathlib.Core.Path.{◌≡◌}
use mathlib.Core.Bool.{Bool, false}
use mathlib.Core.List.{[]}
use Prim.Native.Nat.{ℕ, ◌<◌}
use native.Mathlib.Nat.{zero-add}
use native.Mathlib.Omega.{arith}
use Rattle.spec.specs.Join.{occurrences_at}
use Rattle.spec.proofs.Each.{each_none, each-match}

-- no keyword at an offset
pub occurrences_at-none : (file count offset : ℕ) (t : ℕ → Bool) → ((k : ℕ) → k < count → t k ≡ false) → occurrences_at file count t offset ≡ []
unfolding occurrences_at
occurrences_at-none file count offset t h = each_none _ 0 count (λ k l m. rw (h k (omega arith)))

-- the same keywords at an offset
pub occurrences_at-same : (file count offset : ℕ) (t u : ℕ → Bool) → ((k : ℕ) → k < count → t k ≡ u k) → occurrences_at file count t offset ≡ occurrences_at file count u offset
unfolding occurrences_at
occurrences_at-same file count offset t u h = each-match _ _ 0 0 count (λ k l. rw (zero-add, h k l))
