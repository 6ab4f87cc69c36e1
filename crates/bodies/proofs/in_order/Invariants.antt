-- The fields left to test, from k on, say what the whole run says.
use Rattle.std.proofs.Common.{◌≡◌, ◌+◌, ◌-◌, ◌*◌, drop}
use Rattle.spec.specs.Bytes.{fields_of}
use Rattle.bodies.specs.Check.{offsets_in_range}
use Rattle.bodies.proofs.Orders.{order_from}
use Rattle.bodies.proofs.in_order.Given as goal

abbrev pub invariant-loop-k : goal.invariant-loop-k
invariant-loop-k l =
    order_from l.n l.size l.least (fields_of l.width (l.count - l.k) (drop (l.at + l.width * l.k) l.bytes))
    ≡ offsets_in_range l.n l.size (fields_of l.width l.count (drop l.at l.bytes))
