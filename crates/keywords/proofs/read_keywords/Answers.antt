use Rattle.std.proofs.Common.{◌∙◌, rules, arith}
use Rattle.keywords.proofs.Fronts.{code-absent, code-improper, code-cut, code-on}
use Rattle.keywords.proofs.read_keywords.Goals as goal

pub returns-then-list-at : goal.returns-then-list-at
returns-then-list-at c = code-absent c.args.list.now c.args.count c.loop.counter c.loop.at (omega arith) (omega arith) ∙ c.loop.invariant.1

pub returns-then-not-contains : goal.returns-then-not-contains
returns-then-not-contains c =
    let l = c.loop in
    code-improper c.args.list.now c.args.count l.counter l.at (omega arith) (omega arith) _ c.from-n.ensures (search rules) ∙ l.invariant.1

pub returns-then-list-at-2 : goal.returns-then-list-at-2
returns-then-list-at-2 c =
    let l = c.loop in
    code-cut c.args.list.now c.args.count l.counter l.at (omega arith) (omega arith) _ c.from-n.ensures (search rules) (omega arith) ∙ l.invariant.1

pub loop-preserved : goal.loop-preserved
loop-preserved c =
    let l = c.loop in
    let on = code-on c.args.list.now c.args.count l.counter l.at (omega arith) (omega arith) _ c.from-n.ensures (search rules) (omega arith) in
    (omega arith, on ∙ l.invariant.1)
