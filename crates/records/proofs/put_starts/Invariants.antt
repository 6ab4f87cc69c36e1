-- The starts of the keywords below k stand at their places.
use Rattle.std.proofs.Common.{◌≡◌}
use Rattle.offset_lists.specs.Patches.{patched}
use Rattle.records.specs.Bodies.{start_of, place_of}
use Rattle.records.proofs.Beginning.{Cursors}
use Rattle.records.proofs.put_starts.Given as goal

abbrev pub invariant-loop-k : goal.invariant-loop-k
invariant-loop-k l = record {
  bytes : l.out ≡ patched l.k (place_of l.list l.chunk) (start_of l.list l.chunk) l.initial.out;
  place : l.size ≡ place_of l.list l.chunk l.k;
  cursors : Cursors l.list l.chunk l.k l.cursors;
}
