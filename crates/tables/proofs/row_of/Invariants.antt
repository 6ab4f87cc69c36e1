use Rattle.spec.specs.Keywords.{folded}
use Rattle.tables.specs.Tabled.{cells_of}
use Rattle.tables.proofs.Filling.{Filled}
use Rattle.tables.proofs.row_of.Given as goal

abbrev pub invariant-loop-j : goal.invariant-loop-j
invariant-loop-j l = Filled (cells_of (folded l.flag l.keyword) l.i) 0 32 l.row l.j
