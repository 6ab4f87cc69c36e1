use Rattle.std.proofs.Common.{arith}
use Rattle.query.proofs.LineBytes.{offsets-room, offsets-on, offsets-end}
use Rattle.query.proofs.put_offsets.Goals as goal

pub write-requires : goal.write-requires
write-requires c =
    let l = c.loop-offset in
    offsets-room c.args.out.now c.args.at c.args.offsets.now c.requires l.out l.p l.offset-index (omega arith) l.invariant

pub overflow_add-p : goal.overflow_add-p
overflow_add-p c =
    let l = c.loop-offset in
    record { fits = omega (arith, offsets-room c.args.out.now c.args.at c.args.offsets.now c.requires l.out l.p l.offset-index (omega arith) l.invariant) }

pub loop-offset-preserved : goal.loop-offset-preserved
loop-offset-preserved c =
    let l = c.loop-offset in
    offsets-on c.args.out.now c.args.at c.args.offsets.now c.requires l.out l.p l.offset-index (omega arith) l.invariant c.write.new.out c.write.ensures

pub returns : goal.returns
returns c =
    let l = c.loop-offset in
    offsets-end c.args.out.now c.args.at c.args.offsets.now c.requires l.out l.p l.offset-index (omega arith) l.invariant
