-- A walk in parts: bytes in two parts are walked one after the other, and the logs joined; the node between is told by the 32 bytes before it.
-- Assumes nothing.
use mathlib.Core.Path.{◌≡◌, refl, sym, ap, ap₂, ◌∙◌}
use mathlib.Core.Bool.{true}
use mathlib.Core.List.{List, [], ◌∷◌, ◌++◌, append_assoc}
use Prim.Native.Nat.{ℕ, suc, ◌+◌, ◌-◌, ◌*◌, ◌≤◌, ◌<◌}
use native.Mathlib.Nat.{add-zero}
use native.Mathlib.Omega.{arith}
use lib.ListN.{length, drop, length-append}
use lib.Seq.{drop-append-add}
use Rattle.spec.specs.Bytes.{splice, written}
use Rattle.spec.specs.Keywords.{flag_of, folded, folded_keywords, longest, keyword_front_code}
use Rattle.spec.proofs.Folding.{folded-length, folded-drop}
use Rattle.spec.proofs.Folding.{folded-append}
use Rattle.spec.proofs.Splices.{splice-then}
use Rattle.spec.specs.Trie.{is_node, Step, step, node_from, moves_from, node_after}
use Rattle.trie.specs.Numbers.{node_count, node_number, node_at}
use Rattle.trie.proofs.Nodes.{node-length, longest-of-node}
use Rattle.trie.proofs.Steps.{step-is-node, step-moves}
use Rattle.trie.proofs.Walks.{walk-node, walk-window, node-append, moves-append}
use Rattle.trie.proofs.Numbering.{number-below, node-of-number, number-is-node}
use Rattle.automaton.specs.Automaton.{accepts, logged, log_from}
use Rattle.automaton.specs.Walking.{walked_of, walk_log, number_after}
use Rattle.automaton.specs.declared.Walked.{Walked}
use Rattle.automaton.proofs.Cells.{small}
use Rattle.automaton.proofs.Lanes.{keep-most}

module _ (keywords : List (List ℕ)) where
  logged-most : (s : Step) (at : ℕ) → length (logged keywords s at) ≤ 1
  unfolding logged
  logged-most s at = keep-most (accepts keywords s.node) (node_number keywords s.node * 1048576 + at)

  from-is-node : (u bytes : List ℕ) → is_node keywords u ≡ true → is_node keywords (node_from keywords u bytes) ≡ true
  unfolding node_from
  from-is-node u [] e = e
  from-is-node u (b ∷ bytes) e = from-is-node (step keywords u b).node bytes (step-is-node keywords u b e)

  moves-most : (u bytes : List ℕ) → is_node keywords u ≡ true → moves_from keywords u bytes + length (node_from keywords u bytes) ≤ length u + 2 * length bytes
  unfolding node_from moves_from
  moves-most u [] e = omega arith
  moves-most u (b ∷ bytes) e = omega (arith, step-moves keywords u b e, moves-most (step keywords u b).node bytes (step-is-node keywords u b e))

  pub log-append : (u : List ℕ) (at : ℕ) (x y : List ℕ)
      → log_from keywords u at (x ++ y) ≡ log_from keywords u at x ++ log_from keywords (node_from keywords u x) (at + length x) y
  unfolding log_from node_from
  log-append u at [] y = ap (λ (k : ℕ). log_from keywords u k y) (sym (add-zero at))
  log-append u at (b ∷ x) y =
      let v = (step keywords u b).node in
      let e : suc at + length x ≡ at + suc (length x) = omega arith in
      ap (λ (l : List ℕ). logged keywords (step keywords u b) at ++ l)
      (log-append v (suc at) x y ∙ ap (λ (k : ℕ). log_from keywords v (suc at) x ++ log_from keywords (node_from keywords v x) k y) e)
      ∙ sym (append_assoc (logged keywords (step keywords u b) at) (log_from keywords v (suc at) x) (log_from keywords (node_from keywords v x) (at + suc
      (length x)) y))

  log-most : (u : List ℕ) (at : ℕ) (x : List ℕ) → length (log_from keywords u at x) ≤ length x
  unfolding log_from
  log-most u at [] = omega arith
  log-most u at (b ∷ x) =
      let v = (step keywords u b).node in
      omega (
        arith,
        length-append (logged keywords (step keywords u b) at) (log_from keywords v (suc at) x),
        log-most v (suc at) x,
        logged-most
            (step keywords u b) at,
      )

  -- from any node, the last 32 bytes tell the node
  from-window : (u x : List ℕ) → longest keywords ≤ 32 → is_node keywords u ≡ true → 32 ≤ length x
      → node_after keywords (drop (length x - 32) x) ≡ node_from keywords u x
  from-window u x m e h =
      let n : length (u ++ x) - 32 ≡ length u + (length x - 32) = omega (arith, length-append u x) in
      let d : drop (length (u ++ x) - 32) (u ++ x) ≡ drop (length x - 32) x = ap (λ (k : ℕ). drop k (u ++ x)) n ∙ drop-append-add u x (length x - 32) in
      ap (node_after keywords) (sym d) ∙ walk-window keywords 32 (u ++ x) m ∙ node-append keywords [] u x
      ∙ ap (λ (v : List ℕ). node_from keywords v x) (walk-node keywords u ∙ longest-of-node keywords u e)

-- ---- the walks of a list

module _ (list : List ℕ) (front : keyword_front_code list ≡ 0) where
  abbrev words : List (List ℕ)
  words = folded_keywords list

  abbrev text : List ℕ → List ℕ
  text bytes = folded (flag_of list) bytes

  module _ (node : ℕ) (inside : node < node_count words) where
    is-node : is_node words (node_at words node) ≡ true
    is-node = number-is-node words node inside

    -- the node after the bytes is one
    pub walked-inside : (bytes : List ℕ) (at : ℕ) → (walked_of list node bytes at).node < node_count words
    unfolding walked_of
    walked-inside bytes at = number-below words (node_from words (node_at words node) (text bytes)) (from-is-node words (node_at words node) (text bytes) is-node)

    walked-node : (bytes : List ℕ) (at : ℕ) → node_at words (walked_of list node bytes at).node ≡ node_from words (node_at words node) (text bytes)
    unfolding walked_of
    walked-node bytes at = node-of-number words (node_from words (node_at words node) (text bytes)) (from-is-node words (node_at words node) (text bytes) is-node)

    -- at most two moves a byte, and one for each byte of the first node
    pub walked-moves : (bytes : List ℕ) (at : ℕ) → (walked_of list node bytes at).moves ≤ 32 + 2 * length bytes
    unfolding walked_of
    walked-moves bytes at =
        omega (
          arith,
          moves-most words (node_at words node) (text bytes) is-node,
          node-length words (node_at words node) is-node,
          (small list front).short,
          folded-length (flag_of list) bytes,
        )

    -- the node after 32 bytes or more, from their last 32
    pub window-node : (bytes : List ℕ) (at : ℕ) → 32 ≤ length bytes → number_after list (drop (length bytes - 32) bytes) ≡ (walked_of list node bytes at).node
    unfolding walked_of number_after
    window-node bytes at h =
        let long = folded-length (flag_of list) bytes in
        let e : text (drop (length bytes - 32) bytes) ≡ drop (length (text bytes) - 32) (text bytes) =
        folded-drop (flag_of list) (length bytes - 32) bytes ∙ ap (λ (k : ℕ). drop (k - 32) (text bytes)) (sym long) in
        ap (node_number words) (ap (node_after words) e ∙ from-window words (node_at words node) (text bytes) (small list front).short is-node (omega (
          arith,
          long,
        )))

    -- two parts
    module _ (x y : List ℕ) (at : ℕ) where
      abbrev between : ℕ
      between = (walked_of list node x at).node

      pub log-parts : walk_log list node (x ++ y) at ≡ walk_log list node x at ++ walk_log list between y (at + length x)
      unfolding walk_log
      log-parts =
          ap (log_from words (node_at words node) at) (folded-append (flag_of list) x y)
          ∙ log-append words (node_at words node) at (text x) (text y)
          ∙ ap₂ (λ (v : List ℕ) (k : ℕ). log_from words (node_at words node) at (text x) ++ log_from words v (at + k) (text y))
          (sym (walked-node x at)) (folded-length (flag_of list) x)

      pub node-parts : (walked_of list node (x ++ y) at).node ≡ (walked_of list between y (at + length x)).node
      unfolding walked_of
      node-parts =
          ap (node_number words) (ap (node_from words (node_at words node)) (folded-append (flag_of list) x y)
          ∙ node-append words (node_at words node) (text x) (text y) ∙ ap (λ (v : List ℕ). node_from words v (text y)) (sym (walked-node x at)))

      pub moves-parts : (walked_of list node (x ++ y) at).moves ≡ (walked_of list node x at).moves + (walked_of list between y (at + length x)).moves
      unfolding walked_of
      moves-parts =
          ap (moves_from words (node_at words node)) (folded-append (flag_of list) x y) ∙ moves-append words (node_at words node) (text x) (text y)
          ∙ ap (λ (v : List ℕ). moves_from words (node_at words node) (text x) + moves_from words v (text y)) (sym (walked-node x at))

  pub logged-is : (node : ℕ) (bytes : List ℕ) (at : ℕ) → (walked_of list node bytes at).logged ≡ length (walk_log list node bytes at)
  unfolding walked_of walk_log
  logged-is node bytes at = refl

  -- no more entries than bytes
  pub log-short : (node : ℕ) (bytes : List ℕ) (at : ℕ) → length (walk_log list node bytes at) ≤ length bytes
  unfolding walk_log
  log-short node bytes at = omega (arith, log-most words (node_at words node) at (text bytes), folded-length (flag_of list) bytes)

  pub two-logs : (node n at p : ℕ) (x y : List ℕ) → node < node_count words → n ≡ (walked_of list node x at).node → p ≡ at + length x
      → walk_log list node (x ++ y) at ≡ walk_log list node x at ++ walk_log list n y p
  two-logs node n at p x y h e q =
      log-parts node h x y at ∙ ap₂ (λ (m k : ℕ). walk_log list node x at ++ walk_log list m y k) (sym e) (sym q)

  pub two-nodes : (node n at p : ℕ) (x y : List ℕ) → node < node_count words → n ≡ (walked_of list node x at).node → p ≡ at + length x
      → (walked_of list node (x ++ y) at).node ≡ (walked_of list n y p).node
  two-nodes node n at p x y h e q = node-parts node h x y at ∙ ap₂ (λ (m k : ℕ). (walked_of list m y k).node) (sym e) (sym q)

  pub two-moves : (node n at p : ℕ) (x y : List ℕ) → node < node_count words → n ≡ (walked_of list node x at).node → p ≡ at + length x
      → (walked_of list node (x ++ y) at).moves ≡ (walked_of list node x at).moves + (walked_of list n y p).moves
  two-moves node n at p x y h e q =
      moves-parts node h x y at ∙ ap₂ (λ (m k : ℕ). (walked_of list node x at).moves + (walked_of list m y k).moves) (sym e) (sym q)

  -- ---- two parts, one after the other, into one log
  pub walked-two : (node n at p : ℕ) (bytes x y log₀ log₁ last : List ℕ) (w v : Walked) → node < node_count words → bytes ≡ x ++ y → p ≡ at + length x
      → length bytes ≤ length log₀
      → w ≡ walked_of list node x at → log₁ ≡ written log₀ (walk_log list node x at) → n ≡ w.node
      → v ≡ walked_of list n y p → last ≡ splice log₁ w.logged (walk_log list n y p)
      → (record { node = v.node; moves = w.moves + v.moves; logged = w.logged + v.logged } ≡ walked_of list node bytes at)
      × (last ≡ written log₀ (walk_log list node bytes at))
  walked-two node n at p bytes x y log₀ log₁ last w v h b q room ew e₁ en ev e₂ =
      let between : n ≡ (walked_of list node x at).node = en ∙ ap (λ (r : Walked). r.node) ew in
      let log : walk_log list node bytes at ≡ walk_log list node x at ++ walk_log list n y p =
      ap (λ (l : List ℕ). walk_log list node l at) b ∙ two-logs node n at p x y h between q in
      let k : w.logged ≡ length (walk_log list node x at) = ap (λ (r : Walked). r.logged) ew ∙ logged-is node x at in
      let m : v.logged ≡ length (walk_log list n y p) = ap (λ (r : Walked). r.logged) ev ∙ logged-is n y p in
      let node-is : v.node ≡ (walked_of list node bytes at).node =
      ap (λ (r : Walked). r.node) ev ∙ sym (two-nodes node n at p x y h between q) ∙ ap (λ (l : List ℕ). (walked_of list node l at).node) (sym b) in
      let moves-is : w.moves + v.moves ≡ (walked_of list node bytes at).moves =
      ap₂ (λ (i j : ℕ). i + j) (ap (λ (r : Walked). r.moves) ew) (ap (λ (r : Walked). r.moves) ev)
      ∙ sym (two-moves node n at p x y h between q) ∙ ap (λ (l : List ℕ). (walked_of list node l at).moves) (sym b) in
      let logged-is' : w.logged + v.logged ≡ (walked_of list node bytes at).logged =
      ap₂ (λ (i j : ℕ). i + j) k m ∙ sym (length-append (walk_log list node x at) (walk_log list n y p)) ∙ ap length (sym log)
      ∙ sym (logged-is node bytes at) in (
        λ i. record { node = node-is i; moves = moves-is i; logged = logged-is' i },
        splice-then log₀ 0 (walk_log list node x at) (walk_log list n y p) {out₁ = log₁} {out₂ = last} {place = w.logged} (omega arith) e₁ (omega (arith, k)) e₂
            ∙ ap (splice log₀ 0) (sym log),
      )
