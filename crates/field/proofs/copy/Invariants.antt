-- `copy` meets its contract: what is left, written from at + i on, gives the whole run written.
use Rattle.std.proofs.Common.{◌≡◌, ◌+◌, length, drop}
use Rattle.spec.specs.Bytes.{splice}
use Rattle.field.proofs.copy.Given as goal

abbrev pub invariant-loop-i : goal.invariant-loop-i
invariant-loop-i l =
    record {
      same : length l.out ≡ length l.fn.out;
      rest : splice l.out (l.at + l.i) (drop l.i l.bytes) ≡ splice l.fn.out l.at l.bytes;
    }
