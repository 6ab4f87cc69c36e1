use Rattle.std.proofs.Common.{rules, arith}
use Rattle.keywords.proofs.Reading.{reading-start, reading-next, reading-on, reading-end}
use Rattle.keywords.proofs.split.Goals as goal

pub loop-k-init : goal.loop-k-init
loop-k-init c = (cc, reading-start c.args.list.now c.requires)

pub bounds-list-at : goal.bounds-list-at
bounds-list-at c = omega (arith, (reading-next c.loop-k.invariant.1 (omega arith)).room)

pub overflow_add-start : goal.overflow_add-start
overflow_add-start c = omega (arith, (reading-next c.loop-k.invariant.1 (omega arith)).room)

pub overflow_add-at-in-loop-k : goal.overflow_add-at-in-loop-k
overflow_add-at-in-loop-k c = omega (arith, (reading-next c.loop-k.invariant.1 (omega arith)).room)

pub loop-k-preserved : goal.loop-k-preserved
loop-k-preserved c = (cc, reading-on c.loop-k.invariant.1 (omega arith) c.requires.most _ _ c.from-n.ensures (search rules))

pub returns : goal.returns
returns c = reading-end c.loop-k.invariant.1 (omega arith) _ (rw c.loop-k.invariant.0)
