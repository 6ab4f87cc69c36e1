use Rattle.std.proofs.Common.{sym, ◌∙◌, drop, arith}
use native.Mathlib.Numerals.{unary_clauses}
use Rattle.spec.specs.Bytes.{fields_of}
use Rattle.std.proofs.lemmas.Grind.{common_steps}
use Rattle.bodies.proofs.Orders.{order-all, order-turn, order-done}
use Rattle.bodies.proofs.in_order.Goals as goal

pub loop-k-init : goal.loop-k-init
loop-k-init c = simp unary_clauses (order-all c.args.n c.args.size (fields_of c.args.width c.args.count (drop c.args.at c.args.bytes.now)))

pub returns-then-offset-least : goal.returns-then-offset-least
returns-then-offset-least c =
    let turn = order-turn c.args.n c.args.size c.args.width c.args.count c.args.at c.loop-k.k c.loop-k.least c.args.bytes.now (omega arith) in
    grind (arith, common_steps)

pub loop-k-preserved : goal.loop-k-preserved
loop-k-preserved c =
    let turn = order-turn c.args.n c.args.size c.args.width c.args.count c.args.at c.loop-k.k c.loop-k.least c.args.bytes.now (omega arith) in
    grind (arith, common_steps)

pub returns : goal.returns
returns c = sym (order-done c.args.n c.args.size c.args.width c.args.count c.loop-k.k c.loop-k.least _ (omega arith)) ∙ c.loop-k.invariant
