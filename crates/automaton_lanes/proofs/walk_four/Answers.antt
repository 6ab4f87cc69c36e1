-- The invariant is `Four`.
use Rattle.std.proofs.Common.{arith}
use Rattle.automaton_lanes.proofs.Four.{four-nodes, four-start, four-steps, four-on, four-end}
use Rattle.automaton_lanes.proofs.walk_four.Goals as goal

pub overflow_cast-c0 : goal.overflow_cast-c0
overflow_cast-c0 c = omega (arith, (four-nodes c.requires).0)

pub overflow_mul-c0 : goal.overflow_mul-c0
overflow_mul-c0 c = omega (arith, (four-nodes c.requires).0)

pub overflow_cast-c1 : goal.overflow_cast-c1
overflow_cast-c1 c = omega (arith, (four-nodes c.requires).1)

pub overflow_mul-c1 : goal.overflow_mul-c1
overflow_mul-c1 c = omega (arith, (four-nodes c.requires).1)

pub overflow_cast-c2 : goal.overflow_cast-c2
overflow_cast-c2 c = omega (arith, (four-nodes c.requires).2)

pub overflow_mul-c2 : goal.overflow_mul-c2
overflow_mul-c2 c = omega (arith, (four-nodes c.requires).2)

pub overflow_cast-c3 : goal.overflow_cast-c3
overflow_cast-c3 c = omega (arith, (four-nodes c.requires).3)

pub overflow_mul-c3 : goal.overflow_mul-c3
overflow_mul-c3 c = omega (arith, (four-nodes c.requires).3)

pub loop-i-init : goal.loop-i-init
loop-i-init c = four-start c.requires

pub step-c0-requires : goal.step-c0-requires
step-c0-requires c = (four-steps c.requires c.loop-i.invariant).0

pub step-c1-requires : goal.step-c1-requires
step-c1-requires c = (four-steps c.requires c.loop-i.invariant).1

pub step-c2-requires : goal.step-c2-requires
step-c2-requires c = (four-steps c.requires c.loop-i.invariant).2

pub step-c3-requires : goal.step-c3-requires
step-c3-requires c = (four-steps c.requires c.loop-i.invariant).3

pub loop-i-preserved : goal.loop-i-preserved
loop-i-preserved c =
    rw c.from-moves.ensures (four-on c.requires c.loop-i.invariant c.loop-i-test.true
    c.step-c0.ensures c.step-c1.ensures c.step-c2.ensures c.step-c3.ensures
    c.push-k0.ensures.count c.push-k0.ensures.entries c.push-k1.ensures.count c.push-k1.ensures.entries
    c.push-k2.ensures.count c.push-k2.ensures.entries c.push-k3.ensures.count c.push-k3.ensures.entries)

pub returns-clause-answer : goal.returns-clause-answer
returns-clause-answer c = (four-end c.requires c.loop-i.invariant c.loop-i-test.false).0

pub returns-clause-entries0 : goal.returns-clause-entries0
returns-clause-entries0 c = (four-end c.requires c.loop-i.invariant c.loop-i-test.false).1

pub returns-clause-entries1 : goal.returns-clause-entries1
returns-clause-entries1 c = (four-end c.requires c.loop-i.invariant c.loop-i-test.false).2

pub returns-clause-entries2 : goal.returns-clause-entries2
returns-clause-entries2 c = (four-end c.requires c.loop-i.invariant c.loop-i-test.false).3

pub returns-clause-entries3 : goal.returns-clause-entries3
returns-clause-entries3 c = (four-end c.requires c.loop-i.invariant c.loop-i-test.false).4
