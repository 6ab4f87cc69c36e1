-- The keywords below k are joined, the others are as before.
use Rattle.logs.proofs.Joins.{Front, sum, first}
use Rattle.logs.proofs.tally_with.Given as goal

abbrev pub invariant-loop-k : goal.invariant-loop-k
invariant-loop-k l = record {
  counts : Front (sum l.initial.counts l.more_counts) l.initial.counts l.counts l.k;
  firsts : Front (first l.initial.counts l.initial.firsts l.more_firsts) l.initial.firsts l.firsts l.k;
}
