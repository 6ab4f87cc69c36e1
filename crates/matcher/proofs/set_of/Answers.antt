use Rattle.std.proofs.Common.{arith}
use Rattle.spec.proofs.Sets.{shl_one, set_room, turn_in, turn-out}
use Rattle.matcher.proofs.Inner.{inside, inside-end, inside-part}
use Rattle.matcher.proofs.set_of.Goals.{then-occurs_at, else-occurs_at}
use Rattle.matcher.proofs.set_of.Goals as goal

pub overflow_add-set : goal.overflow_add-set
overflow_add-set c =
    let a = c.args in
    let room = set_room (inside a.flag a.keyword.now a.chunk.now) c.loop-p.p (omega arith) in
    rw (shl_one c.loop-p.p (omega arith)) (record { fits = rw c.loop-p.invariant.1 room })

pub loop-p-preserved : goal.loop-p-preserved
loop-p-preserved c =
    let a = c.args in
    let l = c.loop-p in
    let t = inside a.flag a.keyword.now a.chunk.now in
    let r = c.occurs_at in
    let q = inside-part a.flag a.keyword.now a.chunk.now l.p (omega arith) r.result r.ensures in (
      omega arith,
      elim c.if-occurs_at.branch [
        | then-occurs_at w ↦ turn_in t l.p l.set c.if-occurs_at.set r.result (omega arith) l.invariant.1 q w.if-occurs_at.true w.set-is
        | else-occurs_at w ↦ turn-out t l.p l.set c.if-occurs_at.set r.result l.invariant.1 q w.if-occurs_at.false w.set-is
      ],
    )

pub returns : goal.returns
returns c =
    let a = c.args in
    inside-end a.flag a.keyword.now a.chunk.now c.loop-p.p c.loop-p.set c.loop-p.invariant.0 (λ h. omega arith) c.loop-p.invariant.1
