use Rattle.std.proofs.Common.{◌+◌, ◌≤◌, length, length-set, arith}
use Rattle.records.proofs.SetLaws.{set_size, size-some, put-none, put_some}
use Rattle.records.proofs.put_set.Goals as goal
use Rattle.records.proofs.put_set.Goals.{Else-set-eq-NO_STARTS}

pub returns-then-set-eq-NO_STARTS : goal.returns-then-set-eq-NO_STARTS
returns-then-set-eq-NO_STARTS c = let a = c.args in put-none a.out.now a.at a.k a.set c.if-set-eq-NO_STARTS.true

-- there is room for a set
room : (c : Else-set-eq-NO_STARTS) → c.args.at + set_size ≤ length c.args.out.now
room c = omega (arith, c.requires.0, size-some c.args.k c.args.set c.if-set-eq-NO_STARTS.false)

pub bounds-out-at : goal.bounds-out-at
bounds-out-at c = omega (arith, room (goal.at.bounds-out-at c).Else-set-eq-NO_STARTS)

pub bounds-out-at-2 : goal.bounds-out-at-2
bounds-out-at-2 c = simp length-set (omega (arith, room (goal.at.bounds-out-at-2 c).Else-set-eq-NO_STARTS))

pub write-requires : goal.write-requires
write-requires c = simp length-set (omega (arith, room (goal.at.write-requires c).Else-set-eq-NO_STARTS))

pub returns : goal.returns
returns c =
    let a = c.args in
    put_some a.out.now a.at a.k a.set c.write.new.out c.if-set-eq-NO_STARTS.false c.requires.0 c.write.ensures
