-- What is added up so far and what is left are the whole (Marked).
use Rattle.std.proofs.Common.{◌≡◌, ◌+◌, ◌*◌, ◌≤◌, length}
use Rattle.compact.specs.Marking.{marked_from, chunk_bytes}
use Rattle.compact.proofs.measure.Given as goal

abbrev pub invariant-loop-k : goal.invariant-loop-k
invariant-loop-k l = record {
  counted : l.n + length (marked_from l.store l.marks l.k) ≡ length (marked_from l.store l.marks 0);
  sized : l.size + length (chunk_bytes (marked_from l.store l.marks l.k)) ≡ length (chunk_bytes (marked_from l.store l.marks 0));
  few : l.n ≤ l.k;
  short : l.size ≤ 1048576 * l.k;
}
