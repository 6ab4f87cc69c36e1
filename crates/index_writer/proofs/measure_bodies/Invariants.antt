-- Lengths, moves and marks so far and those of what is left are the whole.
use Rattle.std.proofs.Common.{◌≡◌, ◌+◌, ◌*◌, ◌≤◌, length}
use Rattle.spec.specs.Bytes.{splice}
use Rattle.spec.specs.Form.{newest}
use Rattle.index_writer.specs.Layout.{bodies_from}
use Rattle.index_writer.proofs.Moves.{moves_at, moves_left}
use Rattle.index_writer.proofs.MarkLaws.{marks_left}
use Rattle.index_writer.proofs.measure_bodies.Given as goal

abbrev pub invariant-loop-j : goal.invariant-loop-j
invariant-loop-j l = record {
  size : l.size + length (bodies_from newest l.machine.list.now l.store l.j) ≡ length (bodies_from newest l.machine.list.now l.store 0);
  moves : l.moves + moves_left l.store (moves_at l.machine.list.now l.store) l.j ≡ moves_left l.store (moves_at l.machine.list.now l.store) 0;
  most : l.moves ≤ 2097152 * l.j;
  marks : splice l.marks l.j (marks_left l.machine.list.now l.store l.j) ≡ splice l.initial.marks 0 (marks_left l.machine.list.now l.store 0);
}
