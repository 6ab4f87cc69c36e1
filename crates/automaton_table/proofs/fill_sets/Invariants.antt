-- What is left to write gives the whole.
use Rattle.std.proofs.Common.{◌≡◌, ◌-◌}
use Rattle.spec.specs.Bytes.{splice, written}
use Rattle.spec.specs.Keywords.{folded_keywords}
use Rattle.spec.proofs.Tabulated.{tabulated}
use Rattle.trie.specs.Numbers.{node_at}
use Rattle.automaton.specs.Automaton.{ending_set, sets_of}
use Rattle.automaton_table.proofs.fill_sets.Given as goal

abbrev pub invariant-loop-s : goal.invariant-loop-s
invariant-loop-s l =
    let keywords = folded_keywords l.list in
    splice l.sets l.s (tabulated (λ s. ending_set keywords (node_at keywords s)) l.s (l.count - l.s)) ≡ written l.initial.sets (sets_of keywords)
