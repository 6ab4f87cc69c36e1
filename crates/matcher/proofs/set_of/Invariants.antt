use Rattle.std.proofs.Common.{◌≡◌, ◌+◌, ◌-◌, ◌≤◌, length}
use Rattle.spec.specs.Bytes.{set_of}
use Rattle.matcher.proofs.Inner.{inside}
use Rattle.matcher.proofs.set_of.Given as goal

abbrev pub invariant-loop-p : goal.invariant-loop-p
invariant-loop-p l = (l.p ≤ length l.keyword - length l.chunk + 1) × (l.set ≡ set_of (inside l.flag l.keyword l.chunk) l.p)
