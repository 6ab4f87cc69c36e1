use Rattle.std.proofs.Common.{◌∙◌, arith}
use Rattle.recipes.proofs.Files.{whole-lies, whole-on, whole_end}
use Rattle.recipes.proofs.files_whole.Goals as goal

pub returns-then-recipes-at : goal.returns-then-recipes-at
returns-then-recipes-at c =
    let a = c.args in
    let l = c.loop in
    let n = c.count_at-n in
    whole-lies a.recipes.now a.count l.counter l.at (omega arith) n.result n.ensures (omega arith) c.if-recipes-at.true ∙ l.invariant.1

pub loop-preserved : goal.loop-preserved
loop-preserved c =
    let a = c.args in
    let l = c.loop in
    let n = c.count_at-n in
    (omega arith, whole-on a.recipes.now a.count l.counter l.at (omega arith) n.result n.ensures (omega arith) c.if-recipes-at.false ∙ l.invariant.1)

pub returns : goal.returns
returns c = let l = c.loop in whole_end c.args.recipes.now c.args.count l.counter l.at (omega arith) l.invariant.0 ∙ l.invariant.1
