use Rattle.std.proofs.Common.{◌≡◌}
use Rattle.spec.specs.Bytes.{set_of, in_set}
use Rattle.tables.specs.Tabled.{cell_at}
use Rattle.spans.proofs.ends_of.Given as goal

abbrev pub invariant-loop-p : goal.invariant-loop-p
invariant-loop-p l = l.set ≡ set_of (λ p. in_set (cell_at l.tables l.k p l.j) 0) l.p
