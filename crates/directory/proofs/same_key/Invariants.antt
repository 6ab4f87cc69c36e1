-- The bytes before field k are equal.
use Rattle.std.proofs.Common.{◌≡◌, ◌*◌, take}
use Rattle.directory.proofs.same_key.Given as goal

abbrev pub invariant-loop-k : goal.invariant-loop-k
invariant-loop-k l = take (4 * l.k) l.a ≡ take (4 * l.k) l.b
