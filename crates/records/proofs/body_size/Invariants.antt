-- The size so far and that of what is left are the body's.
use Rattle.std.proofs.Common.{◌≡◌, ◌+◌, ◌*◌, ◌≤◌, length}
use Rattle.spec.specs.Form.{newest}
use Rattle.spec.specs.Scan.{scan_body}
use Rattle.records.proofs.BodyLaws.{body_rest, record_most}
use Rattle.records.proofs.body_size.Given as goal

abbrev pub invariant-loop-k : goal.invariant-loop-k
invariant-loop-k l = record {
  whole : l.size + length (body_rest l.list l.chunk l.k) ≡ length (scan_body newest l.list l.chunk);
  most : l.size ≤ record_most * l.k;
}
