use Rattle.std.proofs.Common.{arith}
use mathlib.Core.Logic.{inl, inr}
use Rattle.bodies.proofs.KindChecks.{none_first, none-small, none-good}
use Rattle.bodies.proofs.none.Goals as goal
use Rattle.bodies.proofs.none.Goals.{else-bytes-le1-via-then-bytes-le1+else-bytes-le1-2, else-bytes-le1-via-else-bytes-le1}

pub returns-then-read-ne0 : goal.returns-then-read-ne0
returns-then-read-ne0 c = none_first c.args.format c.args.n c.args.size c.args.bytes.now c.requires.0 c.requires.1 (omega arith)

pub returns-then-bytes-le1-2 : goal.returns-then-bytes-le1-2
returns-then-bytes-le1-2 c = none-small c.args.format c.args.n c.args.size c.args.bytes.now c.requires.0 c.requires.1 (omega arith) (omega arith)

pub returns : goal.returns
returns c =
    none-good c.args.format c.args.n c.args.size c.args.bytes.now c.requires.0 c.requires.1 (λ i. omega (arith, c.type_inv.bytes i)) (omega arith)
    (elim c.else-bytes-le1.branch [
      | else-bytes-le1-via-then-bytes-le1+else-bytes-le1-2 w ↦ inr (omega arith)
      | else-bytes-le1-via-else-bytes-le1 w ↦ inl (omega arith)
    ])
