use Rattle.std.proofs.Common.{◌≡◌, arith}
use Rattle.logs.proofs.Joins.{joined}
use Rattle.logs.proofs.tally_with.Goals as goal

pub returns : goal.returns
returns c =
    let l = c.loop-k in
    let all : l.k ≡ 16 = omega arith in
    joined c.args.before c.args.more l.counts l.firsts (rw all at l.invariant.counts) (rw all at l.invariant.firsts)
