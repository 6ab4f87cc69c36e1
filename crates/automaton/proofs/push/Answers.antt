-- The cell logs one entry, or none.
use Rattle.std.proofs.Common.{rules}
use Rattle.spec.proofs.Splices.{splice-nil, set-splice}
use Rattle.automaton.specs.Walking.{entry_of}
use Rattle.automaton.proofs.push.Goals as goal

pub returns-then-cell-eq1-clause-count : goal.returns-then-cell-eq1-clause-count
unfolding entry_of
returns-then-cell-eq1-clause-count c = search rules

pub returns-then-cell-eq1-clause-entries : goal.returns-then-cell-eq1-clause-entries
unfolding entry_of
returns-then-cell-eq1-clause-entries c = search (rules, set-splice)

pub returns-clause-count : goal.returns-clause-count
unfolding entry_of
returns-clause-count c = search rules

pub returns-clause-entries : goal.returns-clause-entries
unfolding entry_of
returns-clause-entries c = search (rules, splice-nil)
