-- The invariant is `Running`.
use Rattle.std.proofs.Common.{arith}
use Rattle.automaton.proofs.Lanes.{node-few, running-start, running-step, running-on, running-end}
use Rattle.automaton.proofs.walk.Goals as goal

pub overflow_cast-cell : goal.overflow_cast-cell
overflow_cast-cell c = let a = c.args in omega (arith, node-few _ _ _ a.bytes.now _ a.log.now c.requires)

pub overflow_mul-cell : goal.overflow_mul-cell
overflow_mul-cell c = let a = c.args in omega (arith, node-few _ _ _ a.bytes.now _ a.log.now c.requires)

pub loop-i-init : goal.loop-i-init
loop-i-init c = let a = c.args in running-start _ a.table.now _ a.bytes.now _ _ c.requires

pub step-cell-requires : goal.step-cell-requires
step-cell-requires c =
    let a = c.args in
    running-step _ a.table.now _ a.bytes.now _ _ c.requires _ _ _ _ _ c.loop-i.invariant

pub loop-i-preserved : goal.loop-i-preserved
loop-i-preserved c =
    let a = c.args in
    let p = c.push-k in
    rw c.from-moves.ensures (running-on _ a.table.now _ a.bytes.now _ _ c.requires _ _ _ _ _ c.loop-i.invariant
    c.loop-i-test.true _ _ _ c.step-cell.ensures p.ensures.count p.ensures.entries)

pub returns-clause-answer : goal.returns-clause-answer
returns-clause-answer c =
    let a = c.args in
    (running-end _ a.table.now _ a.bytes.now _ _ c.requires _ _ _ _ _ c.loop-i.invariant c.loop-i-test.false).0

pub returns-clause-entries : goal.returns-clause-entries
returns-clause-entries c =
    let a = c.args in
    (running-end _ a.table.now _ a.bytes.now _ _ c.requires _ _ _ _ _ c.loop-i.invariant c.loop-i-test.false).1
