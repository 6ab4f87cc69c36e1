-- The lists have what the windows before `at` log.
use Rattle.std.proofs.Common.{◌≡◌}
use Rattle.windows.proofs.Windowing.{Filled}
use Rattle.windows.proofs.fill.Given as goal

abbrev pub invariant-loop-window : goal.invariant-loop-window
invariant-loop-window l = record {
  size : l.window-iterator.size ≡ 65536;
  filled : Filled l.m.list.now l.m.words l.m.ends.now l.tally.counts l.chunk l.initial.out l.initial.cursors
      l.window-iterator.rest.now l.out l.cursors l.at l.node;
}
