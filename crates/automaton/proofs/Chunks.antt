-- What the walk of a whole chunk from the root tells the scan: its moves, and of each keyword the prefix and the offsets of its match record.
-- Assumes nothing.
use mathlib.Core.Path.{◌≡◌, sym, ap, ◌∙◌}
use mathlib.Core.List.{List, []}
use Prim.Native.Nat.{ℕ, ◌≤◌, ◌<◌}
use native.Mathlib.Omega.{arith}
use lib.ListN.{length}
use Rattle.spec.specs.Keywords.{flag_of, folded, folded_keywords}
use Rattle.spec.specs.Join.{keyword_at}
use Rattle.spec.specs.Form.{Form}
use Rattle.spec.specs.Records.{record_of}
use Rattle.spec.proofs.Folding.{folded-length}
use Rattle.spec.specs.Trie.{is_node, node_from, node_after, moves_from, moves_of}
use Rattle.trie.specs.Endings.{prefix_at}
use Rattle.trie.specs.Numbers.{node_number, node_at}
use Rattle.trie.proofs.Walks.{walk-node}
use Rattle.trie.proofs.Nodes.{longest-is-node}
use Rattle.trie.proofs.Numbering.{node-of-number, root-number}
use Rattle.trie.proofs.Records.{keyword-contained, prefix-at-node}
use Rattle.automaton.specs.Automaton.{log_from, offsets_in}
use Rattle.automaton.specs.Walking.{walked_of, walk_log}
use Rattle.automaton.proofs.Occurrences.{log-record}

module _ (list chunk : List ℕ) where
  abbrev keywords : List (List ℕ)
  keywords = folded_keywords list

  abbrev text : List ℕ
  text = folded (flag_of list) chunk

  root : node_at keywords 0 ≡ []
  root = (root-number keywords).1

  pub chunk-moves : (walked_of list 0 chunk 0).moves ≡ moves_of keywords text
  unfolding walked_of
  chunk-moves = ap (λ (u : List ℕ). moves_from keywords u text) root

  chunk-log : walk_log list 0 chunk 0 ≡ log_from keywords [] 0 text
  unfolding walk_log
  chunk-log = ap (λ (u : List ℕ). log_from keywords u 0 text) root

  -- the node that the walk's number names
  pub chunk-node : node_at keywords (walked_of list 0 chunk 0).node ≡ node_after keywords text
  unfolding walked_of
  chunk-node =
      ap (node_at keywords) (ap (λ (u : List ℕ). node_number keywords (node_from keywords u text)) root)
      ∙ node-of-number keywords (node_after keywords text) (ap (is_node keywords) (walk-node keywords text) ∙ longest-is-node keywords text)

  module _ (f : Form) (k : ℕ) (h : k < length keywords) where
    pub chunk-prefix : prefix_at (keyword_at keywords k) (node_at keywords (walked_of list 0 chunk 0).node) ≡ (record_of f (keyword_at keywords k) text).prefix
    chunk-prefix =
        ap (prefix_at (keyword_at keywords k)) chunk-node ∙ sym (prefix-at-node keywords (keyword_at keywords k) (keyword-contained keywords k h) f text)

    pub chunk-offsets : length chunk ≤ 1048576 → 1 ≤ length (keyword_at keywords k)
        → offsets_in keywords k (walk_log list 0 chunk 0) ≡ (record_of f (keyword_at keywords k) text).offsets
    chunk-offsets l n = ap (offsets_in keywords k) chunk-log ∙ log-record keywords k f text (omega (arith, folded-length (flag_of list) chunk)) h n
