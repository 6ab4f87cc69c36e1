use Rattle.std.proofs.Common.{◌≡◌}
use Rattle.spec.specs.Bytes.{set_of}
use Rattle.spec.specs.Keywords.{folded}
use Rattle.spec.specs.Table.{in_cell}
use Rattle.tables.proofs.cell_of.Given as goal

abbrev pub invariant-loop-s : goal.invariant-loop-s
invariant-loop-s l = l.set ≡ set_of (in_cell (folded l.flag l.keyword) l.i l.j) l.s
