use Rattle.std.specs.Prelude.{◌≤◌, replicate}
use Rattle.spec.specs.Keywords.{folded_keywords}
use Rattle.tables.specs.Tabled.{tables_of}
use Rattle.tables.proofs.Filling.{Filled}
use Rattle.tables.proofs.tables_of.Given as goal

abbrev pub invariant-loop-k : goal.invariant-loop-k
invariant-loop-k l = (l.words.count ≤ 16) × Filled (tables_of (folded_keywords l.list)) (replicate 32 (replicate 32 0)) 16 l.tables l.k
