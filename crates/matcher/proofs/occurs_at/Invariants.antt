use Rattle.std.proofs.Common.{◌≡◌, ◌+◌, ◌≤◌, length}
use Rattle.spec.specs.Bytes.{occurs_at}
use Rattle.spec.specs.Keywords.{folded}
use Rattle.spec.proofs.Folding.{rest}
use Rattle.matcher.proofs.occurs_at.Given as goal

abbrev pub invariant-loop-k : goal.invariant-loop-k
invariant-loop-k l =
    (l.at + length l.keyword ≤ length l.chunk)
    × (occurs_at (folded l.flag l.keyword) (folded l.flag l.chunk) l.at ≡ rest l.flag l.keyword l.chunk l.at l.k)
