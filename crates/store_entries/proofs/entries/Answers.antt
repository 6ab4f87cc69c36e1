use Rattle.std.proofs.Common.{◌+◌, ◌*◌, ◌<◌, ◌≤◌, ◌⊎◌, ⊎_elim, arith}
use Rattle.std.proofs.lemmas.Grind.{common_steps}
use Rattle.spec.proofs.FieldLists.{field_lt}
use Rattle.store_entries.proofs.Entering.{turn-none, turn-long, turn-early, turn-beyond, turn_more}
use Rattle.store_entries.proofs.entries.Goals.{Else-not-contains}
use Rattle.store_entries.proofs.entries.Goals as goal

sized : (c : Else-not-contains) → (1 ≤ c.read.result) × (c.read.result ≤ 1048576)
sized c = (grind (arith, common_steps, c.contains.ensures.cases), grind (arith, common_steps, c.contains.ensures.cases))

pub overflow_add-end : goal.overflow_add-end
overflow_add-end c =
    let store = c.args.store.now in
    let bytes = c.type_inv.store in
    omega (arith, field_lt store (8 + 28 * c.loop-k.k + 20) 4 (λ i. (bytes i).fits), field_lt store (8 + 28 * c.loop-k.k + 24) 4 (λ i. (bytes i).fits))

pub returns-then-not-contains : goal.returns-then-not-contains
returns-then-not-contains c =
    let p = c.loop-k in
    let h : (c.read.result < 1) ⊎ (1048576 < c.read.result) = grind (arith, common_steps, c.contains.ensures.cases) in
    ⊎_elim
    (λ z. turn-none c.args.store.now c.args.count p.k p.at _ p.invariant c.loop-k-test.true _ _ c.read-offset.ensures c.read.ensures (omega arith))
    (λ l. turn-long c.args.store.now c.args.count p.k p.at _ p.invariant c.loop-k-test.true _ _ c.read-offset.ensures c.read.ensures l) h

pub returns-then-offset-at : goal.returns-then-offset-at
returns-then-offset-at c =
    let p = c.loop-k in
    let in_range = sized (goal.at.returns-then-offset-at c).Else-not-contains in
    turn-early c.args.store.now c.args.count p.k p.at _ p.invariant c.loop-k-test.true _ _ c.read-offset.ensures c.read.ensures
    in_range.0 in_range.1 c.if-offset-at.true

pub returns-then-end-gt-LARGEST : goal.returns-then-end-gt-LARGEST
returns-then-end-gt-LARGEST c =
    let p = c.loop-k in
    let in_range = sized (goal.at.returns-then-end-gt-LARGEST c).Else-not-contains in
    turn-beyond c.args.store.now c.args.count p.k p.at _ p.invariant c.loop-k-test.true _ _ c.read-offset.ensures c.read.ensures
    in_range.0 in_range.1 c.if-offset-at.false c.if-end-gt-LARGEST.true

pub loop-k-preserved : goal.loop-k-preserved
loop-k-preserved c =
    let p = c.loop-k in
    let in_range = sized (goal.at.loop-k-preserved c).Else-not-contains in
    turn_more c.args.store.now c.args.count p.k p.at _ p.invariant c.loop-k-test.true _ _ c.read-offset.ensures c.read.ensures
    in_range.0 in_range.1 c.if-offset-at.false c.if-end-gt-LARGEST.false
