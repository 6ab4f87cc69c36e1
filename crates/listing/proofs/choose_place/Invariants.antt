use Rattle.listing.specs.Streams.{place_list}
use Rattle.listing.specs.Choosing.{chosen_from}
use Rattle.listing.proofs.Carried.{ChoosingPlace}
use Rattle.listing.proofs.choose_place.Given as goal

-- with the occurrences still to come, the choice becomes the place's
abbrev pub invariant-loop : goal.invariant-loop
invariant-loop l =
    ChoosingPlace l.index l.place l.lengths l.query (chosen_from l.lengths l.query (place_list l.place l.index l.streams) l.initial.chosen)
    l.opened l.chosen l.counter
