-- `copy_into` meets its contract: what is left, written from at + i on, gives the whole run written.
use Rattle.std.proofs.Common.{◌≡◌, ◌+◌, length, drop}
use Rattle.spec.specs.Bytes.{splice}
use Rattle.automaton.proofs.copy_into.Given as goal

abbrev pub invariant-loop-i : goal.invariant-loop-i
invariant-loop-i l =
    record {
      same : length l.buffer ≡ length l.fn.buffer;
      rest : splice l.buffer (l.at + l.i) (drop l.i l.run) ≡ splice l.fn.buffer l.at l.run;
    }
