-- What is left to write gives the whole row.
use Rattle.std.proofs.Common.{◌≡◌, ◌-◌, length}
use Rattle.spec.specs.Bytes.{splice}
use Rattle.spec.specs.Keywords.{flag_of, folded_keywords}
use Rattle.spec.proofs.Tabulated.{tabulated}
use Rattle.automaton.specs.Automaton.{cell_of}
use Rattle.automaton_table.specs.Building.{row_of}
use Rattle.automaton_table.proofs.row_of.Given as goal

abbrev pub invariant-loop-b : goal.invariant-loop-b
invariant-loop-b l =
    let cell = cell_of (flag_of l.list) (folded_keywords l.list) l.s in
    (length l.row ≡ 256)
    × (splice l.row l.b (tabulated cell l.b (256 - l.b)) ≡ row_of (flag_of l.list) (folded_keywords l.list) l.s)
