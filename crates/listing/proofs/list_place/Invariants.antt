use Rattle.listing.specs.Streams.{place_list}
use Rattle.listing.proofs.Listed.{ListingPlace}
use Rattle.listing.proofs.list_place.Given as goal

-- what is written and what is still to come are the place's list
abbrev pub invariant-loop : goal.invariant-loop
invariant-loop l = ListingPlace l.index l.place l.initial.out l.out (place_list l.place l.index l.streams) l.opened l.p l.counter
