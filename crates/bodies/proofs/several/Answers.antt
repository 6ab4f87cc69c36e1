use Rattle.std.proofs.Common.{arith}
use Rattle.std.proofs.lemmas.Bool.Decides.{nat_tests}
use Rattle.bodies.proofs.KindChecks.{two-range, two-refused, two_good}
use Rattle.bodies.proofs.several.Goals as goal

pub returns-then-not-contains : goal.returns-then-not-contains
returns-then-not-contains c =
    let t = c.if-not-contains.ensures.cases in
    two-range c.args.format c.args.n c.args.size c.args.bytes.now c.requires (λ l h. grind (arith, nat_tests))

pub returns-then-not-offsets_good : goal.returns-then-not-offsets_good
returns-then-not-offsets_good c =
    let t = c.if-not-contains.ensures.cases in
    two-refused c.args.format c.args.n c.args.size c.args.bytes.now c.requires (grind (arith, nat_tests)) cc

pub returns : goal.returns
returns c =
    let t = c.if-not-contains.ensures.cases in
    let a = c.args in
    let good = two_good a.format a.n a.size a.bytes.now c.requires (λ i. omega (arith, c.type_inv.bytes i))
    (grind (arith, nat_tests)) (grind (arith, nat_tests)) (cc) in
    cc
