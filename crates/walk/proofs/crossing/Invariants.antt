use Rattle.std.proofs.Common.{◌≤◌, length}
use Rattle.walk.specs.Walking.{chunks_in}
use Rattle.walk.proofs.Crossings.{CrossingAt}
use Rattle.walk.proofs.crossing.Given as goal

abbrev pub invariant-loop-n : goal.invariant-loop-n
invariant-loop-n l =
    (l.source.opened.keywords ≤ length l.rows)
    × CrossingAt l.source.index.now (chunks_in l.source.index.now l.file) l.k l.i l.fn.start.place l.live l.found l.gone l.n
