use Rattle.std.proofs.Common.{sym, arith}
use Rattle.automaton_table.proofs.Words.{numbered-count, numbered-length}
use Rattle.automaton_table.proofs.Table.{built-rows, built-on}
use Rattle.automaton_table.proofs.fill_depth.Goals as goal

pub fill_row-requires-clause-rows : goal.fill_row-requires-clause-rows
fill_row-requires-clause-rows c = built-rows _ c.requires.rows.accepted _ _ _ _ c.loop-s.invariant

pub loop-s-preserved : goal.loop-s-preserved
loop-s-preserved c =
    let n = c.requires.can_build.ready.numbered in
    let e = numbered-count _ _ _ _ n in
    built-on _ c.requires.rows.accepted _ _ _ _ _ _ c.loop-s.invariant (omega (arith, e)) (omega (arith, e, c.loop-s.invariant.wide))
    (sym (numbered-length _ _ _ _ n _ c.loop-s-test.true)) c.fill_row.ensures
