use Rattle.std.proofs.Common.{◌≡◌, Bool, [], List, ℕ, ◌<◌, ap, ◌∙◌, sym, get_or, arith}
use Rattle.spec.specs.Bytes.{same}
use Rattle.automaton_table.specs.Building.{run, nodes_in}
use Rattle.automaton_table.proofs.Numbered.{length-nodes, nodes-at, found_here, found-later, found-never}
use Rattle.automaton_table.proofs.find.Goals as goal

-- what the test says of node s
tested : (flag : ℕ) (list starts lens key : List ℕ) (count s : ℕ) (r t : Bool) → s < count
    → r ≡ same key (run flag list (get_or starts s 0) (get_or lens s 0)) → r ≡ t → same key (get_or (nodes_in flag list starts lens count) s []) ≡ t
tested flag list starts lens key count s r t h e q = ap (same key) (nodes-at flag list starts lens count s h) ∙ sym e ∙ q

pub returns-then-alike_at : goal.returns-then-alike_at
returns-then-alike_at c =
    let a = c.args in
    found_here _ _ c.loop-s.s c.loop-s.invariant (omega (arith, length-nodes a.flag a.list.now a.starts.now a.lens.now a.count))
    (tested a.flag a.list.now a.starts.now a.lens.now _ _ _ _ _ c.loop-s-test.true c.alike_at.ensures c.if-alike_at.true)

pub loop-s-preserved : goal.loop-s-preserved
loop-s-preserved c =
    let a = c.args in
    found-later _ _ c.loop-s.s c.loop-s.invariant (omega (arith, length-nodes a.flag a.list.now a.starts.now a.lens.now a.count))
    (tested a.flag a.list.now a.starts.now a.lens.now _ _ _ _ _ c.loop-s-test.true c.alike_at.ensures c.if-alike_at.false)

pub returns : goal.returns
returns c =
    let a = c.args in
    let e : c.loop-s.s ≡ a.count = omega arith in
    sym e ∙ found-never _ _ c.loop-s.s c.loop-s.invariant (omega (arith, length-nodes a.flag a.list.now a.starts.now a.lens.now a.count))
