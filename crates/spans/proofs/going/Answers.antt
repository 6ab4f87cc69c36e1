use Rattle.std.proofs.Common.{◌+◌, ◌-◌, ◌&&◌, arith}
use Rattle.spec.specs.Bytes.{in_set}
use Rattle.spec.proofs.Sets.{shl_one, set_room}
use Rattle.spans.proofs.going.Goals as goal

pub overflow_add-kept : goal.overflow_add-kept
overflow_add-kept c =
    let a = c.args in
    let l = c.loop-s in
    let room = set_room (λ s. in_set a.live s && in_set a.set (a.i - s + a.gone)) l.s (omega arith) in
    rw (shl_one l.s (omega arith)) (record { fits = rw l.invariant room })
