use Rattle.std.specs.Prelude.{replicate}
use Rattle.spec.specs.Keywords.{folded}
use Rattle.tables.specs.Tabled.{table_of}
use Rattle.tables.proofs.Filling.{Filled}
use Rattle.tables.proofs.table_of.Given as goal

abbrev pub invariant-loop-i : goal.invariant-loop-i
invariant-loop-i l = Filled (table_of (folded l.flag l.keyword)) (replicate 32 0) 32 l.table l.i
