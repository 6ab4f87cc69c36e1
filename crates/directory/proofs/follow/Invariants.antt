-- The key's place, counted from the entry that the chain stands at, stays the same.
use Rattle.std.proofs.Common.{◌≡◌, ◌-◌, ◌≤◌}
use Rattle.directory.specs.Chains.{keys_from, place_from, Starts}
use Rattle.directory.proofs.follow.Given as goal

abbrev pub invariant-loop-n : goal.invariant-loop-n
invariant-loop-n l =
    let keys = keys_from l.bytes l.dir.start l.dir.stride l.dir.count in
    record {
      within : l.n ≤ l.from;
      starts : Starts l.probe keys l.n;
      place : place_from l.probe keys (l.dir.count - l.n) ≡ place_from l.probe keys (l.dir.count - l.from);
    }

abbrev pub decreases-loop-n : goal.decreases-loop-n
decreases-loop-n l = l.n
