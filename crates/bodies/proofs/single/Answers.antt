use Rattle.std.proofs.Common.{arith}
use Rattle.bodies.proofs.KindChecks.{single-count, single-out, single-good}
use Rattle.bodies.proofs.single.Goals as goal
use Rattle.bodies.proofs.single.Goals.{then-size-offset-via-then-size-offset, then-size-offset-via-else-size-offset+then-size-offset-2}

pub returns-then-bytes-ne1 : goal.returns-then-bytes-ne1
returns-then-bytes-ne1 c = single-count c.args.format c.args.n c.args.size c.args.bytes.now c.requires.0 (omega arith) (omega arith)

pub returns-then-size-offset : goal.returns-then-size-offset
returns-then-size-offset c =
    single-out c.args.format c.args.n c.args.size c.args.bytes.now c.requires.0 (omega arith)
    (elim c.then-size-offset.branch [
      | then-size-offset-via-then-size-offset w ↦ omega arith
      | then-size-offset-via-else-size-offset+then-size-offset-2 w ↦ omega arith
    ])

pub returns : goal.returns
returns c =
    single-good c.args.format c.args.n c.args.size c.args.bytes.now c.requires.0 (omega arith)
    (λ i. omega (arith, c.type_inv.bytes i)) (omega arith) (omega arith)
