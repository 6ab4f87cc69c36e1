-- With the rest of the directory and the rest of the chunks written, each from where it is now, the buffer is as promised.
use Rattle.std.proofs.Common.{◌≡◌, ◌++◌, ◌+◌, ◌*◌, ◌≤◌, length}
use Rattle.spec.specs.Bytes.{splice}
use Rattle.compact.specs.Marking.{marked_from}
use Rattle.compact.proofs.Writing.{directory_left, bytes_left}
use Rattle.compact.proofs.put_chunks.Given as goal

abbrev pub invariant-loop-k : goal.invariant-loop-k
invariant-loop-k l = record {
  directory : l.place.entry + 28 * length (marked_from l.store l.marks l.k) ≡ 8 + 28 * l.n;
  behind : 8 + 28 * l.n ≤ l.place.at;
  chunks : l.place.at + length (bytes_left l.store l.marks l.k) ≡ 8 + 28 * l.n + length (bytes_left l.store l.marks 0);
  whole : splice (splice l.out l.place.entry (directory_left l.store l.marks l.place.at l.k)) l.place.at (bytes_left l.store l.marks l.k)
      ≡ splice l.initial.out 8 (directory_left l.store l.marks (8 + 28 * l.n) 0 ++ bytes_left l.store l.marks 0);
}
