-- `room` meets its contract: a repeat has as many elements as it says. Assumes nothing.
use Rattle.std.proofs.Common.{ℕ, sym}
use lib.ListN.{length-replicate}
use Rattle.tests_plain.proofs.text.room.Statement.{statement}
use Rattle.tests_plain.proofs.text.room.Tie as tie

returns : tie.Need-returns
returns c = sym (length-replicate {A = ℕ} 189400 0)

pub room_spec : {M : Type 1} → statement M
room_spec = tie.close (tie.spec
    returns)
