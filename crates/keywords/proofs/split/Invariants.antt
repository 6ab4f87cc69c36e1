use Rattle.std.proofs.Common.{◌≡◌}
use Rattle.spec.specs.Keywords.{count_of}
use Rattle.keywords.proofs.Reading.{Reading}
use Rattle.keywords.proofs.split.Given as goal

abbrev pub invariant-loop-k : goal.invariant-loop-k
invariant-loop-k l = (l.count ≡ count_of l.list) × Reading l.list l.k l.at l.most l.start l.len
