-- `room` meets its contract: a repeat has as many elements as it says. Assumes nothing.
use mathlib.Core.Path.{sym}
use Prim.Native.Nat.{ℕ}
use lib.ListN.{length-replicate}
use Rattle.tests_vaults.proofs.long.room.Statement.{statement}
use Rattle.tests_vaults.proofs.long.room.Tie as tie

returns : tie.Need-returns
returns c = sym (length-replicate {A = ℕ} 1310800 0)

pub room_spec : {M : Type 1} → statement M
room_spec = tie.close (tie.spec
    returns)
