use Rattle.std.proofs.Common.{◌≡◌, arith}
use Rattle.automaton_table.proofs.Words.{numbered-count}
use Rattle.automaton_table.proofs.Table.{built-rows, built-depth, built-end}
use Rattle.automaton_table.proofs.fill_table.Goals as goal

pub fill_depth-requires-clause-rows : goal.fill_depth-requires-clause-rows
fill_depth-requires-clause-rows c = built-rows _ c.requires.ready.reads.accepted _ _ _ _ c.loop-d.invariant

pub loop-d-preserved : goal.loop-d-preserved
loop-d-preserved c =
    built-depth _ c.requires.ready.reads.accepted _ _ _ _ c.loop-d.invariant
    (rw (numbered-count _ _ _ _ c.requires.ready.numbered) at c.fill_depth.ensures)

pub returns : goal.returns
returns c =
    let q : c.loop-d.d ≡ 33 = omega arith in
    built-end _ c.requires.ready.reads.accepted _ _ (rw q at c.loop-d.invariant) (omega (arith, numbered-count _ _ _ _ c.requires.ready.numbered))
