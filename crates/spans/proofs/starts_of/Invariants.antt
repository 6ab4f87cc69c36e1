use Rattle.std.proofs.Common.{◌^◌, ◌<◌}
use Rattle.spans.proofs.Members.{Joined}
use Rattle.spans.proofs.starts_of.Given as goal

abbrev pub invariant-loop-cell : goal.invariant-loop-cell
invariant-loop-cell l = (l.set < 2 ^ 32) × Joined l.tables l.k l.i l.set l.cell-index
