-- The loop goes down: the entries from e on are in the index, `duplicate` is `twice` of their keys, and behind the links `chains` is as it was.
use Rattle.std.proofs.Common.{◌≡◌, ◌+◌, length, drop}
use Rattle.spec.specs.Bytes.{twice}
use Rattle.directory.specs.Chains.{keys_from, Chained}
use Rattle.directory.proofs.build.Given as goal

abbrev pub invariant-loop-e : goal.invariant-loop-e
invariant-loop-e l =
    let keys = keys_from l.bytes l.start l.stride l.count in
    record {
      found : l.duplicate ≡ twice (drop l.e keys);
      chained : Chained keys l.e l.chains;
      rest : drop (65536 + length keys) l.chains ≡ drop (65536 + length keys) l.initial.chains;
    }
