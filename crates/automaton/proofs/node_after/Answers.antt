-- The invariant is `Reached`.
use Rattle.std.proofs.Common.{arith}
use Rattle.spec.specs.Keywords.{flag_of}
use Rattle.spec.proofs.Folding.{folded-length}
use Rattle.automaton.specs.Walking.{number_after}
use Rattle.automaton.proofs.Cells.{small}
use Rattle.automaton.proofs.Lanes.{reached-start, reached-on, reached-end, cell-is}
use Rattle.automaton.proofs.node_after.Goals as goal

pub loop-b-init : goal.loop-b-init
loop-b-init c = reached-start _ (small c.args.list.now c.requires.accepted) _

pub loop-b-preserved : goal.loop-b-preserved
loop-b-preserved c =
    let a = c.args in
    let l = c.loop-b in
    reached-on _ (small a.list.now c.requires.accepted) _ _ _ l.invariant
    (omega (arith, folded-length (flag_of a.list.now) a.bytes.now)) _
    (cell-is a.list.now a.bytes.now _ _ _ c.loop-b-test.true c.step-cell.ensures)

pub returns : goal.returns
unfolding number_after
returns c =
    let a = c.args in
    reached-end _ (small a.list.now c.requires.accepted) _ _ _ c.loop-b.invariant
    (omega (arith, folded-length (flag_of a.list.now) a.bytes.now))
