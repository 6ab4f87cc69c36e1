-- `long_room` meets its contract: a repeat has as many elements as it says. Assumes nothing.
use Rattle.std.proofs.Common.{ℕ, sym}
use lib.ListN.{length-replicate}
use Rattle.tests_plain.proofs.model.long_room.Statement.{statement}
use Rattle.tests_plain.proofs.model.long_room.Tie as tie

returns : tie.Need-returns
returns c = sym (length-replicate {A = ℕ} 430000 0)

pub long_room_spec : {M : Type 1} → statement M
long_room_spec = tie.close (tie.spec
    returns)
