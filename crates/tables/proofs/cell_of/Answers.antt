use Rattle.std.proofs.Common.{◌∙◌, arith}
use Rattle.spec.specs.Keywords.{folded}
use Rattle.spec.specs.Table.{in_cell}
use Rattle.spec.proofs.Sets.{shl_one, set_room}
use Rattle.tables.proofs.Cells.{cell-ends}
use Rattle.tables.proofs.cell_of.Goals as goal

pub overflow_add-set : goal.overflow_add-set
overflow_add-set c =
    let a = c.args in
    let l = c.loop-s in
    rw (shl_one l.s (omega arith)) (record { fits = rw l.invariant (set_room (in_cell (folded a.flag a.keyword.now) a.i a.j) l.s (omega arith)) })

pub returns : goal.returns
returns c =
    let a = c.args in
    c.loop-s.invariant ∙ cell-ends a.flag a.keyword.now a.i a.j c.loop-s.s c.requires.1 (omega arith) (omega arith)
