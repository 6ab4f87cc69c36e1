use Rattle.std.proofs.Common.{◌≡◌, ◌≤◌, ◌++◌, length, take, ap, ◌∙◌, arith}
use Rattle.automaton.specs.Walking.{walk_log}
use Rattle.automaton.specs.declared.Walked.{Walked}
use Rattle.windows.specs.Windows.{CanWindow}
use Rattle.windows.proofs.Windowing.{Filled, can-on, logged-part, logged-length, logged-room, filled-first, filled-walks, filled-can, filled-turn}
use Rattle.windows.proofs.fill.Goals as goal
use Rattle.windows.proofs.fill.Goals.{In-Some, After-walk_lanes-w}

pub loop-window-init : goal.loop-window-init
loop-window-init c =
    let a = c.args in
    let iterator = c.into_iter-window-iterator.ensures.into_iter_gives in
    let rest = ap (λ s. s.rest.now) iterator ∙ c.chunks-window-items.ensures.rest in
    record {
      size = ap (λ s. s.size) iterator ∙ c.chunks-window-items.ensures.size;
      filled = rw rest (filled-first c.requires.0 a.tally.counts a.out.now a.started.cursors c.requires.1);
    }

-- the logs have room still
can : (c : In-Some) → let a = c.args in let m = a.m.now in let l = c.loop-window in
    CanWindow m.list.now m.words a.chunk.now m.table.now m.ends.now l.log l.run1 l.run2 l.run3
can c = can-on c.requires.0 (omega arith) (omega arith) (omega arith) (omega arith)

-- the next window is the first of what is left, and short
filled : (c : In-Some) → let a = c.args in let m = a.m.now in let l = c.loop-window in
    Filled m.list.now m.words m.ends.now a.tally.counts a.chunk.now a.out.now a.started.cursors
    (c.in-Some.window.now ++ c.next.new.self.rest.now) l.out l.cursors l.at l.node
filled c = rw c.in-Some.ensures.steps.1.0 at c.loop-window.invariant.filled

short : (c : In-Some) → length c.in-Some.window.now ≤ 65536
short c = omega (arith, c.in-Some.ensures.steps.1.1, c.loop-window.invariant.size)

pub walk_lanes-w-requires : goal.walk_lanes-w-requires
walk_lanes-w-requires c =
    let a = c.args in
    let g = (goal.at.walk_lanes-w-requires c).In-Some in
    filled-walks (can g) a.tally.counts a.out.now a.started.cursors c.requires.1 _ _ _ _ _ _ (filled g) (short g)

-- the part of the log that the window wrote
part : (c : After-walk_lanes-w) → let w = c.walk_lanes-w in let l = c.loop-window in
    take w.result.logged w.new.log ≡ walk_log c.args.m.now.list.now l.node c.in-Some.window.now l.at
part c =
    let w = c.walk_lanes-w in
    let l = c.loop-window in
    logged-part c.args.m.now.list.now c.requires.0.rows.accepted l.node c.in-Some.window.now l.at w.result w.ensures.answer
    l.log w.new.log w.ensures.entries

pub slice_bounds-entries-end : goal.slice_bounds-entries-end
slice_bounds-entries-end c =
    let w = c.walk_lanes-w in
    let l = c.loop-window in
    logged-room c.args.m.now.list.now c.requires.0.rows.accepted l.node c.in-Some.window.now l.at w.result w.ensures.answer
    l.log w.new.log w.ensures.entries

pub slice_bounds-entries-end-in-loop-window : goal.slice_bounds-entries-end-in-loop-window
slice_bounds-entries-end-in-loop-window c =
    let w = c.walk_lanes-w in
    let l = c.loop-window in
    logged-length c.args.m.now.list.now c.requires.0.rows.accepted l.node c.in-Some.window.now l.at w.result w.ensures.answer
    l.log w.new.log w.ensures.entries

pub put_log-requires : goal.put_log-requires
put_log-requires c =
    let a = c.args in
    let g = goal.at.put_log-requires c in
    filled-can (can g.In-Some) a.tally.counts a.out.now a.started.cursors c.requires.1 _ _ _ _ _ _ (filled g.In-Some) (short g.In-Some) _
    (part g.After-walk_lanes-w)

pub loop-window-preserved : goal.loop-window-preserved
loop-window-preserved c =
    let a = c.args in
    let g = goal.at.loop-window-preserved c in
    record {
      size = c.in-Some.ensures.steps.0 ∙ c.loop-window.invariant.size;
      filled = filled-turn (can g.In-Some) a.tally.counts a.out.now a.started.cursors c.requires.1 _ _ _ _ _ _ (filled g.In-Some) (short g.In-Some) _
          (part g.After-walk_lanes-w) _ _ _ (ap (λ (x : Walked). x.node) c.walk_lanes-w.ensures.answer) c.put_log.ensures.0 c.put_log.ensures.1;
    }
