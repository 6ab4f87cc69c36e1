use Rattle.std.proofs.Common.{◌∙◌, ℕ, List, sym, arith}
use Rattle.spec.specs.Keywords.{folded}
use Rattle.spec.proofs.Folding.{folded-length}
use Rattle.tables.proofs.Cells.{cell-inside, cell-behind, length-cells}
use Rattle.tables.proofs.Filling.{filled_none, filled_more, filled-all}
use Rattle.tables.proofs.row_of.Goals as goal

pub loop-j-init : goal.loop-j-init
loop-j-init c = filled_none _ 0 32

pub loop-j-preserved : goal.loop-j-preserved
loop-j-preserved c =
    let a = c.args in
    let w : List ℕ = folded a.flag a.keyword.now in
    let n = folded-length a.flag a.keyword.now in
    let cell = cell-inside w a.i c.loop-j.j (omega (arith, n)) (omega (arith, n)) (omega (arith, n)) in
    filled_more _ 0 32 _ _ _ c.loop-j.invariant (omega arith) (c.cell_of.ensures ∙ sym cell)

pub returns : goal.returns
returns c =
    let a = c.args in
    let w : List ℕ = folded a.flag a.keyword.now in
    filled-all _ 0 32 _ _ c.loop-j.invariant (length-cells w a.i) (λ k h l. cell-behind w a.i k (omega (arith, folded-length a.flag a.keyword.now)) l)
