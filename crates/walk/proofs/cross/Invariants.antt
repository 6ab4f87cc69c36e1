use Rattle.std.proofs.Common.{◌*◌, ◌^◌, ◌≤◌}
use Rattle.walk.specs.Walking.{cells}
use Rattle.walk.proofs.Places.{Crossing}
use Rattle.walk.proofs.cross.Given as goal

-- a stream has no more offsets than a chunk has bytes
abbrev pub invariant-loop-k : goal.invariant-loop-k
invariant-loop-k l = Crossing l.size l.count (cells l.tables l.here l.next) l.here l.streams l.k l.many × (l.many ≤ l.k * 2 ^ 33)
