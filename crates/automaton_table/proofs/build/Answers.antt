use Rattle.std.proofs.Common.{arith}
use Rattle.automaton_table.proofs.Words.{numbered-count}
use Rattle.automaton_table.proofs.Table.{sets-known}
use Rattle.automaton_table.proofs.build.Goals as goal

pub fill_table-requires : goal.fill_table-requires
fill_table-requires c =
    let n = c.number_nodes-count.ensures in
    record {
      ready = record { reads = c.requires.reads; numbered = n };
      known = sets-known _ _ _ (omega (arith, n.within.wide, n.wide, numbered-count _ _ _ _ n)) c.fill_sets.ensures;
      room = omega (arith, n.within.wide, n.wide);
    }

pub returns-clause-count : goal.returns-clause-count
returns-clause-count c = numbered-count _ _ _ _ c.number_nodes-count.ensures
