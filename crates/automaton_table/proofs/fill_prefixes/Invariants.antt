-- What is left to write gives the whole.
use Rattle.std.proofs.Common.{◌≡◌, ◌-◌, ◌*◌, ◌/◌, ◌%◌}
use Rattle.spec.specs.Bytes.{splice, written}
use Rattle.spec.specs.Keywords.{folded_keywords}
use Rattle.spec.specs.Join.{keyword_at}
use Rattle.spec.proofs.Tabulated.{tabulated}
use Rattle.trie.specs.Endings.{prefix_at}
use Rattle.trie.specs.Numbers.{node_at}
use Rattle.automaton.specs.Automaton.{prefixes_of}
use Rattle.automaton_table.proofs.fill_prefixes.Given as goal

abbrev pub invariant-loop-i : goal.invariant-loop-i
invariant-loop-i l =
    let keywords = folded_keywords l.list in
    splice l.prefixes l.i (tabulated (λ i. prefix_at (keyword_at keywords (i % 16)) (node_at keywords (i / 16))) l.i (l.count * 16 - l.i))
    ≡ written l.initial.prefixes (prefixes_of keywords)
