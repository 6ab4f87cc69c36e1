use Rattle.std.proofs.Common.{arith}
use Rattle.spans.proofs.Members.{joined-none, joined-on, joined-all}
use Rattle.spans.proofs.starts_of.Goals as goal

pub loop-cell-init : goal.loop-cell-init
loop-cell-init c = (omega arith, joined-none c.args.tables.now c.args.k c.args.i)

pub loop-cell-preserved : goal.loop-cell-preserved
loop-cell-preserved c =
    let a = c.args in
    let l = c.loop-cell in
    (c.either-set.ensures.1, joined-on a.tables.now a.k a.i l.set l.cell-index _ l.invariant.1 c.either-set.ensures.0)

pub returns : goal.returns
returns c =
    let a = c.args in
    let l = c.loop-cell in
    joined-all a.tables.now a.k a.i l.set l.cell-index l.invariant.0 (omega arith) l.invariant.1
