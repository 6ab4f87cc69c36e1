use Rattle.std.proofs.Common.{◌≡◌, ◌≤◌, ◌-◌, drop, length}
use Rattle.spec.specs.Keywords.{read_code}
use Rattle.keywords.proofs.read_keywords.Given as goal

abbrev pub invariant-loop : goal.invariant-loop
invariant-loop l = (l.at ≤ length l.list) × (read_code (l.count - l.counter) (drop l.at l.list) ≡ read_code l.count (drop 2 l.list))
