use Rattle.std.proofs.Common.{◌≤◌, ◌+◌, length, ◌∙◌, arith}
use Rattle.bodies.proofs.Turns.{left-all, turn-absent, turn-length, turn-bad, turn-within, turn-set-bad, turn_end, turn-good, left_end}
use Rattle.bodies.proofs.body_good.Goals.{In-Some, In-Some-set_part}
use Rattle.bodies.proofs.body_good.Goals as goal

pub loop-k-init : goal.loop-k-init
loop-k-init c = (omega arith, left-all c.args.format c.args.lengths.now c.args.body.now c.args.count c.args.size c.requires)

pub loop-k-preserved-then-not-is_next : goal.loop-k-preserved-then-not-is_next
loop-k-preserved-then-not-is_next c =
    let a = c.args in
    let same = turn-absent a.format a.lengths.now a.body.now a.count a.size c.requires c.loop-k.k c.loop-k.at (omega arith) (cc) in
    (c.loop-k.invariant.0, same ∙ c.loop-k.invariant.1)

pub returns-in_default : goal.returns-in_default
returns-in_default c =
    let a = c.args in
    turn-bad a.format a.lengths.now a.body.now a.count a.size c.requires c.loop-k.k c.loop-k.at (omega arith) c.in_default.ensures
    ∙ c.loop-k.invariant.1

-- a good record ends within the body
record-ends : (c : In-Some) → c.loop-k.at + c.in-Some.first ≤ length c.args.body.now
record-ends c =
    let a = c.args in
    turn-within a.format a.lengths.now a.body.now a.count a.size c.requires c.loop-k.k c.loop-k.at (omega arith) c.in-Some.first c.in-Some.ensures
    c.loop-k.invariant.0

pub overflow_add-behind : goal.overflow_add-behind
overflow_add-behind c = record { fits = omega (arith, record-ends (goal.at.overflow_add-behind c).In-Some) }

pub set_part-requires : goal.set_part-requires
set_part-requires c =
    let a = c.args in (
      record-ends (goal.at.set_part-requires c).In-Some,
      (turn-length a.format a.lengths.now a.body.now a.count a.size c.requires c.loop-k.k c.loop-k.at (omega arith)).short,
    )

pub returns-in_default-set_part : goal.returns-in_default-set_part
returns-in_default-set_part c =
    let a = c.args in
    turn-set-bad a.format a.lengths.now a.body.now a.count a.size c.requires c.loop-k.k c.loop-k.at (omega arith) c.in-Some.first c.in-Some.ensures
    c.in_default-set_part.ensures
    ∙ c.loop-k.invariant.1

-- a good set ends within the body
set-ends : (c : In-Some-set_part) → c.loop-k.at + c.in-Some.first + c.in-Some-set_part.second ≤ length c.args.body.now
set-ends c =
    let a = c.args in
    turn_end a.format a.lengths.now a.body.now a.count a.size c.requires c.loop-k.k c.loop-k.at (omega arith) c.in-Some.first c.in-Some.ensures
    c.in-Some-set_part.second c.in-Some-set_part.ensures c.loop-k.invariant.0

pub overflow_add-at : goal.overflow_add-at
overflow_add-at c = record { fits = omega (arith, set-ends (goal.at.overflow_add-at c).In-Some-set_part) }

pub loop-k-preserved : goal.loop-k-preserved
loop-k-preserved c =
    let a = c.args in
    let good = turn-good a.format a.lengths.now a.body.now a.count a.size c.requires c.loop-k.k c.loop-k.at (omega arith) c.in-Some.first c.in-Some.ensures
    c.in-Some-set_part.second c.in-Some-set_part.ensures in
    (set-ends (goal.at.loop-k-preserved c).In-Some-set_part, good ∙ c.loop-k.invariant.1)

pub returns : goal.returns
returns c =
    let a = c.args in
    left_end a.format a.lengths.now a.body.now a.count a.size c.requires c.loop-k.k c.loop-k.at (omega arith) c.loop-k.invariant.0 ∙ c.loop-k.invariant.1
