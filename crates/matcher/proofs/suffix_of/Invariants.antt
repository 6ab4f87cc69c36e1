use Rattle.std.proofs.Common.{◌≡◌}
use Rattle.spec.specs.Bytes.{largest}
use Rattle.spec.specs.Keywords.{folded}
use Rattle.spec.specs.Records.{starts_with, suffix_of}
use Rattle.matcher.proofs.suffix_of.Given as goal

abbrev pub invariant-loop-j : goal.invariant-loop-j
invariant-loop-j l = suffix_of (folded l.flag l.keyword) (folded l.flag l.chunk) ≡ largest (starts_with (folded l.flag l.keyword) (folded l.flag l.chunk)) l.j
