use Rattle.std.proofs.Common.{◌*◌, ◌^◌, ◌≤◌, drop}
use Rattle.spec.specs.Keywords.{folded_keywords}
use Rattle.spec.specs.Index.{list_in}
use Rattle.walk.specs.Walking.{chunks_in, crossings}
use Rattle.walk.proofs.Places.{Crossing}
use Rattle.walk.proofs.cross_over.Given as goal

-- a stream has no more offsets than a chunk has bytes
abbrev pub invariant-loop-k : goal.invariant-loop-k
invariant-loop-k l =
    Crossing l.size l.source.opened.keywords (crossings (folded_keywords (list_in l.source.index.now)) l.here
    (drop l.place (chunks_in l.source.index.now l.file))) l.here l.streams l.k l.many
    × (l.many ≤ l.k * 2 ^ 33)
