use Rattle.std.proofs.Common.{arith}
use Rattle.spec.specs.Bytes.{in_set}
use Rattle.spec.proofs.Sets.{shl_one, set_room}
use Rattle.tables.specs.Tabled.{cell_at}
use Rattle.spans.proofs.ends_of.Goals as goal

pub overflow_add-set : goal.overflow_add-set
overflow_add-set c =
    let l = c.loop-p in
    let room = set_room (λ p. in_set (cell_at c.args.tables.now c.args.k p c.args.j) 0) l.p (omega arith) in
    rw (shl_one l.p (omega arith)) (record { fits = rw l.invariant room })
