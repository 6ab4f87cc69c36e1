-- After k keywords it is the set of those below k.
use Rattle.std.proofs.Common.{◌≡◌}
use Rattle.spec.specs.Bytes.{set_of}
use Rattle.spec.specs.Join.{keyword_at}
use Rattle.spec.specs.Keywords.{flag_of, folded_keywords}
use Rattle.trie.specs.Endings.{is_ending}
use Rattle.automaton_table.specs.Building.{run}
use Rattle.automaton_table.proofs.ending_set.Given as goal

abbrev pub invariant-loop-k : goal.invariant-loop-k
invariant-loop-k l = l.set ≡ set_of (λ k. is_ending (keyword_at (folded_keywords l.list) k) (run (flag_of l.list) l.list l.at l.n)) l.k
