-- With the rest of the directory and the rest of the bodies written, each from where it is now, the buffer is as promised; moves so far and those left
-- are the whole.
use Rattle.std.proofs.Common.{◌≡◌, ◌+◌, ◌*◌, ◌≤◌, length}
use Rattle.spec.specs.Bytes.{splice}
use Rattle.spec.specs.Form.{newest}
use Rattle.index_writer.specs.Layout.{bodies_from, tail_bytes}
use Rattle.index_writer.proofs.Turns.{entry_at, directory_left, bodies_left}
use Rattle.index_writer.proofs.Moves.{written_at, moves_left}
use Rattle.index_writer.proofs.put_entries.Given as goal

abbrev pub invariant-loop-k : goal.invariant-loop-k
invariant-loop-k l = record {
  behind : 8 + length l.machine.list.now + 32 * l.count ≤ l.at;
  place : l.at + length (bodies_from newest l.machine.list.now l.store l.k)
      ≡ 8 + length l.machine.list.now + 32 * l.count + length (bodies_from newest l.machine.list.now l.store 0);
  bytes : splice (splice l.out (entry_at l.machine.list.now l.store l.k) (directory_left l.machine.list.now l.store l.at l.k)) l.at
      (bodies_left l.machine.list.now l.store l.k)
      ≡ splice l.initial.out (8 + length l.machine.list.now) (tail_bytes newest l.machine.list.now l.store);
  moves : l.moves + moves_left l.store (written_at l.machine.list.now l.store l.marks) l.k
      ≡ moves_left l.store (written_at l.machine.list.now l.store l.marks) 0;
  most : l.moves ≤ 2097152 * l.k;
}
