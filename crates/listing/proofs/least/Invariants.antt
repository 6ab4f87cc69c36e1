use Rattle.std.proofs.Common.{◌≡◌, get_or}
use Rattle.listing.specs.Streams.{stream_of, Least}
use Rattle.listing.proofs.least.Given as goal

abbrev pub invariant-loop-i : goal.invariant-loop-i
invariant-loop-i l = (l.y ≡ get_or (stream_of l.streams l.k) 0 0) × Least l.streams l.i l.k
