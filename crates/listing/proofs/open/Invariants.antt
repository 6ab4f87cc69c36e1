use Rattle.listing.proofs.Stepping.{Opening}
use Rattle.listing.proofs.open.Given as goal

abbrev pub invariant-loop-k : goal.invariant-loop-k
invariant-loop-k l = Opening l.index l.width l.size l.streams l.opened l.k
