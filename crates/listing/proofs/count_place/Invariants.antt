use Rattle.listing.proofs.Counted.{CountingPlace}
use Rattle.listing.proofs.count_place.Given as goal

abbrev pub invariant-loop-keyword : goal.invariant-loop-keyword
invariant-loop-keyword l = CountingPlace l.streams l.initial.counts l.counts l.keyword
