use Rattle.std.proofs.Common.{◌∙◌, ℕ, List, sym, arith}
use Rattle.std.specs.Prelude.{replicate}
use Rattle.spec.specs.Keywords.{folded}
use Rattle.spec.proofs.Folding.{folded-length}
use Rattle.tables.proofs.Cells.{row_at, row-behind, length-table}
use Rattle.tables.proofs.Filling.{filled_none, filled_more, filled-all}
use Rattle.tables.proofs.table_of.Goals as goal

pub loop-i-init : goal.loop-i-init
loop-i-init c = filled_none _ (replicate 32 0) 32

pub loop-i-preserved : goal.loop-i-preserved
loop-i-preserved c =
    let row = row_at (folded c.args.flag c.args.keyword.now) c.loop-i.i (replicate 32 0) (omega arith) in
    filled_more _ (replicate 32 0) 32 _ _ _ c.loop-i.invariant (omega arith) (c.row_of.ensures ∙ sym row)

pub returns : goal.returns
returns c =
    let a = c.args in
    let w : List ℕ = folded a.flag a.keyword.now in
    filled-all _ (replicate 32 0) 32 _ _ c.loop-i.invariant (length-table w) (λ k h l. row-behind w k (omega (arith, folded-length a.flag a.keyword.now)) l)
