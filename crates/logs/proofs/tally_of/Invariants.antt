-- The entries that the iterator has left are still to come, those behind them are counted.
use Rattle.logs.proofs.Backwards.{Back}
use Rattle.logs.proofs.tally_of.Given as goal

abbrev pub invariant-loop-entry : goal.invariant-loop-entry
invariant-loop-entry l = Back l.ends l.len l.log l.entry-iterator.iter.rest.now (record { counts = l.counts; firsts = l.firsts })
