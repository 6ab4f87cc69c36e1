use Rattle.std.proofs.Common.{arith}
use Rattle.std.specs.Prelude.{replicate}
use lib.ListN.{length-take, length-drop}
use Rattle.spec.specs.Keywords.{folded_keywords}
use Rattle.tables.proofs.Cells.{words-few, words-all, placed-room, placed-most, table_is, length-tables, table-behind}
use Rattle.tables.proofs.Filling.{filled_none, filled_more, filled-all}
use Rattle.tables.proofs.tables_of.Goals as goal

pub loop-k-init : goal.loop-k-init
loop-k-init c = (words-few c.args.list.now c.args.words c.requires, filled_none _ (replicate 32 (replicate 32 0)) 16)

pub overflow_add-e : goal.overflow_add-e
overflow_add-e c = omega (arith, placed-room c.args.list.now c.args.words c.requires c.loop-k.k (omega arith))

pub slice_bounds-table_of-end : goal.slice_bounds-table_of-end
slice_bounds-table_of-end c = placed-room c.args.list.now c.args.words c.requires c.loop-k.k (omega arith)

pub table_of-requires : goal.table_of-requires
table_of-requires c =
    let a = c.args in
    simp (length-take, length-drop) (omega (arith, placed-most a.list.now a.words c.requires c.loop-k.k (omega arith)))

pub loop-k-preserved : goal.loop-k-preserved
loop-k-preserved c =
    let a = c.args in
    let table = table_is a.list.now a.words c.requires c.loop-k.k (omega arith) (omega arith) c.table_of.result c.table_of.ensures in
    (omega arith, filled_more _ (replicate 32 (replicate 32 0)) 16 _ _ _ c.loop-k.invariant.1 (omega arith) table)

pub returns : goal.returns
returns c =
    let list = c.args.list.now in
    let n = words-all list c.args.words c.requires in
    filled-all _ (replicate 32 (replicate 32 0)) 16 _ _ c.loop-k.invariant.1 (length-tables (folded_keywords list))
    (λ k h l. table-behind (folded_keywords list) k (omega (arith, n)) l)
