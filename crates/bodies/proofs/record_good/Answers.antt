use Rattle.std.proofs.Common.{arith}
use lib.ListN.{get_or-eq_default}
use Rattle.spec.specs.Records.{reach}
use Rattle.bodies.proofs.KindChecks.{tiny-short, kind-large, head-short, head-prefix, head-suffix}
use Rattle.bodies.proofs.record_good.Goals as goal
use Rattle.bodies.proofs.record_good.Goals.{then-kind-gt3-via-then-kind-gt3, then-kind-gt3-via-else-kind-gt3+then-bytes-format}
use Rattle.bodies.proofs.record_good.Goals.{then-most-from-via-then-most-from, then-most-from-via-else-most-from+then-most-from-2}

pub returns-then-bytes-lt2 : goal.returns-then-bytes-lt2
returns-then-bytes-lt2 c =
    tiny-short c.args.format c.args.n c.args.size c.args.bytes.now c.requires.0 (get_or-eq_default c.args.bytes.now 0 {n = 1} (omega arith)) (omega arith)

pub returns-then-kind-gt3 : goal.returns-then-kind-gt3
returns-then-kind-gt3 c =
    let a = c.args in
    elim c.then-kind-gt3.branch [
      | then-kind-gt3-via-then-kind-gt3 w ↦ kind-large a.format a.n a.size a.bytes.now c.requires.0 c.requires.1 (omega arith)
      | then-kind-gt3-via-else-kind-gt3+then-bytes-format w ↦ head-short a.format a.n a.size a.bytes.now c.requires.0 c.requires.1 (omega arith) (omega arith)
    ]

pub returns-then-most-from : goal.returns-then-most-from
unfolding reach
returns-then-most-from c =
    let a = c.args in
    elim c.then-most-from.branch [
      | then-most-from-via-then-most-from w ↦ head-prefix a.format a.n a.size a.bytes.now c.requires.0 c.requires.1 (omega arith) (omega arith)
      | then-most-from-via-else-most-from+then-most-from-2 w ↦ head-suffix a.format a.n a.size a.bytes.now c.requires.0 c.requires.1 (omega arith) (omega arith)
    ]
