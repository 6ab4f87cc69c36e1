-- The prefix is the largest number below i that passes.
use Rattle.std.proofs.Common.{◌≡◌, ◌-◌, take}
use Rattle.spec.specs.Bytes.{largest}
use Rattle.spec.specs.Keywords.{flag_of, folded_keywords}
use Rattle.spec.specs.Join.{keyword_at}
use Rattle.trie.specs.Endings.{is_ending, prefix_at}
use Rattle.automaton_table.specs.Building.{run}
use Rattle.automaton_table.proofs.prefix_at.Given as goal

abbrev pub invariant-loop-i : goal.invariant-loop-i
invariant-loop-i l =
    let w = keyword_at (folded_keywords l.list) l.k in
    let u = run (flag_of l.list) l.list l.at l.n in
    prefix_at w u ≡ largest (λ i. is_ending (take i w) u) (l.i - 1)
