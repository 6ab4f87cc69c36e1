use Rattle.std.proofs.Common.{arith}
use Rattle.std.proofs.lemmas.Bool.Decides.{nat_tests}
use Rattle.tally.proofs.Adding.{below_next, sum-end}
use Rattle.tally.proofs.client_sum.Goals as goal

pub loop-k-preserved : goal.loop-k-preserved
loop-k-preserved c =
    let next = below_next c.args.key.now c.args.counts c.args.client c.loop-k.k in
    let few = c.requires.2 c.loop-k.k (omega arith) in
    grind (arith, nat_tests)

pub returns : goal.returns
returns c = sum-end c.args.key.now c.args.counts c.args.client c.loop-k.k c.args.keywords c.loop-k.sum (omega arith) (omega arith) c.loop-k.invariant.1
