-- `read` meets its contract: from the highest byte down, what was read is the value of the field's bytes from k on.
use Rattle.std.proofs.Common.{◌≡◌, ◌-◌, ◌<◌, ◌^◌}
use lib.ListN.{take, drop}
use Rattle.spec.specs.Bytes.{le_value}
use Rattle.field.proofs.read.Given as goal

abbrev pub invariant-loop-k : goal.invariant-loop-k
invariant-loop-k l =
    record { value : l.v ≡ le_value (drop l.k (take l.width (drop l.at l.bytes))); small : l.v < 256 ^ (l.width - l.k) }
