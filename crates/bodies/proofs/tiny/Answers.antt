use Rattle.std.proofs.Common.{arith}
use Rattle.std.proofs.lemmas.Bool.Decides.{nat_tests}
use Rattle.spec.specs.Records.{reach}
use Rattle.bodies.proofs.KindChecks.{refuse-tiny, tiny-short, tiny-prefix, tiny-suffix, tiny-good}
use Rattle.bodies.proofs.tiny.Goals as goal
use Rattle.bodies.proofs.tiny.Goals.{then-most-from-via-then-most-from, then-most-from-via-else-most-from+then-most-from-2}

pub returns-then-bytes-lt3 : goal.returns-then-bytes-lt3
returns-then-bytes-lt3 c = tiny-short c.args.format c.args.n c.args.size c.args.bytes.now c.requires.0 c.requires.1 (omega arith)

pub returns-then-not-contains : goal.returns-then-not-contains
returns-then-not-contains c =
    let h = c.if-not-contains.ensures.cases in
    refuse-tiny c.args.format c.args.n c.args.size c.args.bytes.now c.requires.0 c.requires.1
    (λ t. let low = t.nonempty in let high = t.high in grind (arith, nat_tests))

pub returns-then-most-from : goal.returns-then-most-from
unfolding reach
returns-then-most-from c =
    let a = c.args in
    elim c.then-most-from.branch [
      | then-most-from-via-then-most-from w ↦ tiny-prefix a.format a.n a.size a.bytes.now c.requires.0 c.requires.1 (omega arith)
      | then-most-from-via-else-most-from+then-most-from-2 w ↦ tiny-suffix a.format a.n a.size a.bytes.now c.requires.0 c.requires.1 (omega arith)
    ]

pub returns : goal.returns
unfolding reach
returns c =
    let t = c.if-not-contains.ensures.cases in
    tiny-good c.args.format c.args.n c.args.size c.args.bytes.now c.requires.0 c.requires.1
    (omega arith) (grind (arith, nat_tests)) (grind (arith, nat_tests)) (omega arith) (omega arith)
