-- With what the entries from the next on list written, the buffer is as promised.
use Rattle.offset_lists.proofs.Filling.{Going}
use Rattle.offset_lists.proofs.put_log.Given as goal

abbrev pub invariant-loop-entry : goal.invariant-loop-entry
invariant-loop-entry l = Going l.counts l.words.len l.ends l.log l.entry-index l.initial.out l.initial.cursors l.out l.cursors
