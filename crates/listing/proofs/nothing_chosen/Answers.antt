use Rattle.std.proofs.Common.{refl}
use Rattle.listing.specs.Choosing.{no_choice}
use Rattle.listing.proofs.nothing_chosen.Goals as goal

pub returns : goal.returns
unfolding no_choice
returns c = refl
