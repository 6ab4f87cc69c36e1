-- The windows before `at` are counted.
use Rattle.std.proofs.Common.{◌≡◌}
use Rattle.windows.proofs.Windowing.{Toured}
use Rattle.windows.proofs.count.Given as goal

abbrev pub invariant-loop-window : goal.invariant-loop-window
invariant-loop-window l = record {
  size : l.window-iterator.size ≡ 65536;
  toured : Toured l.m.list.now l.m.ends.now l.m.words.len l.chunk l.window-iterator.rest.now l.at l.node l.moves l.logged l.tally;
}
