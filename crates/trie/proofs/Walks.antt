-- Laws of the walk over a chunk. Its node is the longest ending of the bytes read that is a node, so only the last bytes count; its moves are at
-- most two a byte, since each link costs depth and each byte adds at most one. Assumes nothing.
use mathlib.Core.Path.{◌≡◌, refl, sym, ap, ◌∙◌}
use mathlib.Core.Bool.{true}
use mathlib.Core.List.{List, [], ◌∷◌, ◌++◌, map, append_assoc, append-nil}
use Prim.Native.Nat.{ℕ, ◌+◌, ◌-◌, ◌*◌, ◌≤◌}
use native.Mathlib.Nat.{zero-add}
use native.Mathlib.Omega.{arith}
use lib.ListN.{length, take, drop, take-append-drop}
use lib.Seq.{length-take-le}
use Rattle.spec.specs.Bytes.{sum}
use Rattle.spec.specs.Keywords.{folded_all, folded_keywords, flag_of, longest}
use Rattle.spec.specs.Store.{chunks_of}
use Rattle.spec.proofs.Folding.{lengths-folded}
use Rattle.spec.specs.Trie.{is_node, child, longest_node, step, node_from, moves_from, node_after, moves_of, moves_of_all, scan_moves}
use Rattle.trie.specs.Endings.{is_ending}
use Rattle.trie.proofs.Nodes.{longest-node, longest-window}
use Rattle.trie.proofs.Steps.{step-node, step-is-node, step-moves, step-moves-least}

module _ (keywords : List (List ℕ)) where
  -- ---- the node

  nodes-from : (x bytes : List ℕ) → node_from keywords (longest_node keywords x) bytes ≡ longest_node keywords (x ++ bytes)
  unfolding node_from
  nodes-from x [] = rw append-nil
  nodes-from x (b ∷ bytes) =
      ap (λ (v : List ℕ). node_from keywords v bytes) (step-node keywords x b)
      ∙ nodes-from (child x b) bytes
      ∙ ap (longest_node keywords) (append_assoc x (b ∷ []) bytes)

  -- after the bytes, the node is their longest ending that is a node
  pub walk-node : (bytes : List ℕ) → node_after keywords bytes ≡ longest_node keywords bytes
  unfolding longest_node
  walk-node bytes = nodes-from [] bytes

  -- the same, without `longest_node`
  pub walk-node-is : (bytes : List ℕ)
      → (is_node keywords (node_after keywords bytes) ≡ true)
      × (is_ending (node_after keywords bytes) bytes ≡ true)
      × ((u : List ℕ) → is_node keywords u ≡ true → is_ending u bytes ≡ true → length u ≤ length (node_after keywords bytes))
  walk-node-is bytes = rw walk-node (longest-node keywords bytes)

  -- the window: the node is told by the last n bytes, if no keyword is longer
  pub walk-window : (n : ℕ) (bytes : List ℕ) → longest keywords ≤ n → node_after keywords (drop (length bytes - n) bytes) ≡ node_after keywords bytes
  walk-window n bytes h = walk-node (drop (length bytes - n) bytes) ∙ longest-window keywords n bytes h ∙ sym (walk-node bytes)

  -- so at place p of a chunk, for keywords of at most 32 bytes
  pub window-32 : (chunk : List ℕ) (p : ℕ) → longest keywords ≤ 32 → p ≤ length chunk
      → node_after keywords (drop (p - 32) (take p chunk)) ≡ node_after keywords (take p chunk)
  window-32 chunk p h l =
      let e : length (take p chunk) ≡ p = length-take-le p chunk l in
      ap (λ (n : ℕ). node_after keywords (drop (n - 32) (take p chunk))) (sym e) ∙ walk-window 32 (take p chunk) h

  -- ---- a chunk in two parts

  pub node-append : (u x y : List ℕ) → node_from keywords u (x ++ y) ≡ node_from keywords (node_from keywords u x) y
  unfolding node_from
  node-append u [] y = refl
  node-append u (b ∷ x) y = node-append (step keywords u b).node x y

  pub moves-append : (u x y : List ℕ) → moves_from keywords u (x ++ y) ≡ moves_from keywords u x + moves_from keywords (node_from keywords u x) y
  unfolding node_from moves_from
  moves-append u [] y = sym (zero-add _)
  moves-append u (b ∷ x) y = omega (arith, moves-append (step keywords u b).node x y)

  -- the moves of a chunk in two lanes: the second lane's first node is told by the 32 bytes before it
  pub moves-lanes : (chunk : List ℕ) (p : ℕ) → longest keywords ≤ 32 → p ≤ length chunk
      → moves_of keywords chunk
      ≡ moves_of keywords (take p chunk) + moves_from keywords (node_after keywords (drop (p - 32) (take p chunk))) (drop p chunk)
  moves-lanes chunk p h l =
      ap (moves_of keywords) (sym (take-append-drop p chunk))
      ∙ moves-append [] (take p chunk) (drop p chunk)
      ∙ ap (λ (v : List ℕ). moves_of keywords (take p chunk) + moves_from keywords v (drop p chunk)) (sym (window-32 chunk p h l))

  -- ---- the moves

  pub moves_from_lem : (u bytes : List ℕ) → is_node keywords u ≡ true
      → moves_from keywords u bytes + length (node_from keywords u bytes) ≤ length u + 2 * length bytes
  unfolding node_from moves_from
  moves_from_lem u [] e = omega arith
  moves_from_lem u (b ∷ bytes) e =
      omega (arith, step-moves keywords u b e, moves_from_lem (step keywords u b).node bytes (step-is-node keywords u b e))

  -- at most two moves a byte
  pub walk-moves : (chunk : List ℕ) → moves_of keywords chunk ≤ 2 * length chunk
  unfolding is_node
  walk-moves chunk = omega (arith, moves_from_lem [] chunk refl)

  -- and at least one
  pub walk-moves-least : (u bytes : List ℕ) → length bytes ≤ moves_from keywords u bytes
  unfolding moves_from
  walk-moves-least u [] = omega arith
  walk-moves-least u (b ∷ bytes) = omega (arith, step-moves-least keywords u b, walk-moves-least (step keywords u b).node bytes)

  -- summed over chunks
  pub walk-moves-all : (chunks : List (List ℕ)) → moves_of_all keywords chunks ≤ 2 * sum (map length chunks)
  unfolding moves_of_all
  walk-moves-all [] = omega arith
  walk-moves-all (chunk ∷ chunks) = omega (arith, walk-moves chunk, walk-moves-all chunks)

-- the moves that a scan reports are at most twice the bytes of the chunks
pub scan-moves : (list store : List ℕ) → scan_moves list store ≤ 2 * sum (map length (chunks_of store))
unfolding scan_moves
scan-moves list store =
    let e : sum (map length (folded_all (flag_of list) (chunks_of store))) ≡ sum (map length (chunks_of store)) =
    ap sum (lengths-folded (flag_of list) (chunks_of store)) in
    omega (arith, walk-moves-all (folded_keywords list) (folded_all (flag_of list) (chunks_of store)))
