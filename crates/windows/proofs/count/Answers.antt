use Rattle.std.proofs.Common.{◌≤◌, ◌++◌, length, ap, ◌∙◌, arith}
use Rattle.windows.specs.Windows.{CanWindow}
use Rattle.windows.proofs.Windowing.{Toured, can-on, first-counts, toured-first, toured-counts, toured-turn, toured-joins, toured-end, sum-moves, sum-logged}
use Rattle.windows.proofs.count.Goals as goal
use Rattle.windows.proofs.count.Goals.{In-Some, After-count_window-w}

pub count_window-one-requires : goal.count_window-one-requires
count_window-one-requires c = first-counts c.requires _ _ c.split_at.ensures.by_index.0 (omega (arith, c.split_at.ensures.front_len, c.min.ensures))

pub loop-window-init : goal.loop-window-init
loop-window-init c =
    let iterator = c.into_iter-window-iterator.ensures.into_iter_gives in
    let rest = ap (λ s. s.rest.now) iterator ∙ c.chunks-window-items.ensures.rest in
    record {
      size = ap (λ s. s.size) iterator ∙ c.chunks-window-items.ensures.size;
      toured = rw rest (toured-first c.requires _ _ c.count_window-one.result c.split_at.ensures.by_index.0 c.count_window-one.ensures.answer);
    }

-- the logs have room still
can : (c : In-Some) → let a = c.args in let m = a.m.now in let l = c.loop-window in
    CanWindow m.list.now m.words a.chunk.now m.table.now m.ends.now l.log l.run1 l.run2 l.run3
can c = can-on c.requires (omega arith) (omega arith) (omega arith) (omega arith)

-- the next window is the first of what is left, and short
toured : (c : In-Some) → let a = c.args in let m = a.m.now in let l = c.loop-window in
    Toured m.list.now m.ends.now m.words.len a.chunk.now (c.in-Some.window.now ++ c.next.new.self.rest.now)
    l.at l.node l.moves l.logged l.tally
toured c = rw c.in-Some.ensures.steps.1.0 at c.loop-window.invariant.toured

short : (c : In-Some) → length c.in-Some.window.now ≤ 65536
short c = omega (arith, c.in-Some.ensures.steps.1.1, c.loop-window.invariant.size)

pub count_window-w-requires : goal.count_window-w-requires
count_window-w-requires c =
    let g = (goal.at.count_window-w-requires c).In-Some in
    toured-counts (can g) _ _ _ _ _ _ _ (toured g) (short g)

pub overflow_add-moves : goal.overflow_add-moves
overflow_add-moves c =
    let g = (goal.at.overflow_add-moves c).In-Some in
    omega (arith, sum-moves (can g) _ _ _ _ _ _ _ (toured g) (short g) _ c.count_window-w.ensures.answer, c.requires.places)

pub overflow_add-logged : goal.overflow_add-logged
overflow_add-logged c =
    let g = (goal.at.overflow_add-logged c).In-Some in
    omega (arith, sum-logged (can g) _ _ _ _ _ _ _ (toured g) (short g) _ c.count_window-w.ensures.answer, c.requires.places)

pub tally_with-tally-requires : goal.tally_with-tally-requires
tally_with-tally-requires c =
    let g = (goal.at.tally_with-tally-requires c).In-Some in
    toured-joins (can g) _ _ _ _ _ _ _ (toured g) (short g) _ c.count_window-w.ensures.answer

pub loop-window-preserved : goal.loop-window-preserved
loop-window-preserved c =
    let g = (goal.at.loop-window-preserved c).In-Some in
    record {
      size = c.in-Some.ensures.steps.0 ∙ c.loop-window.invariant.size;
      toured = toured-turn (can g) _ _ _ _ _ _ _ (toured g) (short g) _ c.count_window-w.ensures.answer c.tally_with-tally.result
          c.tally_with-tally.ensures;
    }

pub returns : goal.returns
returns c =
    let l = c.loop-window in
    toured-end c.requires _ l.at l.node l.moves l.logged l.tally c.in-None.ensures.steps.1.0 l.invariant.toured
