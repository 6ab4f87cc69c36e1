use Rattle.std.proofs.Common.{arith}
use Rattle.chunkwalk.proofs.Walking.{can-window, count-node, count-tells, last-few, measured-is}
use Rattle.chunkwalk.proofs.measure.Goals as goal

pub count-w-requires : goal.count-w-requires
count-w-requires c = can-window c.requires.0 c.args.chunk.now c.requires.1

pub body_size-size-requires : goal.body_size-size-requires
body_size-size-requires c = count-tells c.requires.0 c.args.chunk.now c.requires.1 c.count-w.result c.count-w.ensures

pub mark_of-requires : goal.mark_of-requires
mark_of-requires c =
    let chunk = c.args.chunk.now in
    omega (arith, count-node c.requires.0 chunk c.requires.1 c.count-w.result c.count-w.ensures, last-few c.requires.0 chunk c.requires.1)

pub returns : goal.returns
returns c =
    measured-is c.requires.0 c.args.chunk.now c.requires.1 c.count-w.result c.count-w.ensures c.body_size-size.result c.mark_of.result
    c.body_size-size.ensures c.mark_of.ensures
