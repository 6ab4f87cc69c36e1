-- What is left of the check, from entry k on, gives the number of the whole.
use Rattle.std.proofs.Common.{◌≡◌, ◌+◌, ◌*◌, ◌-◌}
use Rattle.spec.specs.Store.{chunks_code}
use Rattle.store_entries.proofs.entries.Given as goal

abbrev pub invariant-loop-k : goal.invariant-loop-k
invariant-loop-k l = chunks_code l.store (l.count - l.k) l.k l.at ≡ chunks_code l.store l.count 0 (8 + 28 * l.count)
