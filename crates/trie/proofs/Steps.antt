-- Laws of one step. It is what request #103 says, case by case; its node is the longest ending that is a node; its moves are paid by two and the
-- depth lost. The way there is `seek`, the step without links: it goes down all endings and makes a move at each that is a node. Assumes nothing.
use mathlib.Core.Path.{◌≡◌, refl, sym, ap, ◌∙◌}
use mathlib.Core.Logic.{◌⊎◌, inl, inr}
use mathlib.Core.Bool.{true, false, cond}
use mathlib.Core.List.{List, [], ◌∷◌}
use Prim.Native.Nat.{ℕ, zero, suc, ◌+◌, ◌≤◌}
use native.Mathlib.Nat.{le_refl}
use native.Mathlib.Omega.{arith}
use lib.ListN.{length, length-append}
use Rattle.spec.proofs.Tests.{eqb-ne, bool_cases, cond-elim}
use Rattle.spec.specs.Trie.{is_node, child, has_child, longest_node, link, Step, stops, arrived, one_more, follow, step}
use Rattle.trie.proofs.Nodes.{no-child, longest-of-node, longest-of-tail, longest-is-node, link-node}

module _ (keywords : List (List ℕ)) where
  stops-some : (a : ℕ) (u : List ℕ) (b : ℕ) → stops keywords (a ∷ u) b ≡ has_child keywords (a ∷ u) b
  unfolding stops
  stops-some a u b = rw (eqb-ne (suc (length u)) 0 (λ e. omega arith))

  -- ---- the step without links

  unfoldable seek : List ℕ → ℕ → Step
  seek [] b = arrived keywords [] b
  seek (a ∷ u) b = cond (is_node keywords (a ∷ u)) (cond (has_child keywords (a ∷ u) b) (arrived keywords (a ∷ u) b) (one_more (seek u b))) (seek u b)

  seek-child : (a : ℕ) (u : List ℕ) (b : ℕ) → is_node keywords (a ∷ u) ≡ true → has_child keywords (a ∷ u) b ≡ true
      → seek (a ∷ u) b ≡ arrived keywords (a ∷ u) b
  unfolding seek
  seek-child a u b n h = rw (n, h)

  seek-link : (a : ℕ) (u : List ℕ) (b : ℕ) → is_node keywords (a ∷ u) ≡ true → has_child keywords (a ∷ u) b ≡ false
      → seek (a ∷ u) b ≡ one_more (seek u b)
  unfolding seek
  seek-link a u b n h = rw (n, h)

  seek-tail : (a : ℕ) (u : List ℕ) (b : ℕ) → is_node keywords (a ∷ u) ≡ false → seek (a ∷ u) b ≡ seek u b
  unfolding seek
  seek-tail a u b n = rw n

  -- it finds the longest node by itself
  seek-longest : (x : List ℕ) (b : ℕ) → seek (longest_node keywords x) b ≡ seek x b
  unfolding longest_node
  seek-longest [] b = refl
  seek-longest (a ∷ u) b = go (bool_cases (is_node keywords (a ∷ u))) (seek-longest u b)
    where
      go : (is_node keywords (a ∷ u) ≡ true) ⊎ (is_node keywords (a ∷ u) ≡ false) → seek (longest_node keywords u) b ≡ seek u b
          → seek (longest_node keywords (a ∷ u)) b ≡ seek (a ∷ u) b
      go (inl n) ih = ap (λ (y : List ℕ). seek y b) (longest-of-node keywords (a ∷ u) n)
      go (inr n) ih = ap (λ (y : List ℕ). seek y b) (longest-of-tail keywords a u n) ∙ ih ∙ sym (seek-tail a u b n)

  seek-of-link : (a : ℕ) (u : List ℕ) (b : ℕ) → seek (link keywords (a ∷ u)) b ≡ seek u b
  unfolding link
  seek-of-link a u b = seek-longest u b

  -- from a node, with links enough, links lead there
  follow-seek : (n : ℕ) (u : List ℕ) (b : ℕ) → is_node keywords u ≡ true → length u ≤ n → follow keywords n u b ≡ seek u b
  unfolding follow seek stops
  follow-seek zero [] b e l = refl
  follow-seek zero (a ∷ u) b e l = let z : ⊥ = omega arith in absurd z
  follow-seek (suc n) [] b e l = refl
  follow-seek (suc n) (a ∷ u) b e l =
      let v = link keywords (a ∷ u) in
      let ih : follow keywords n v b ≡ seek v b = follow-seek n v b (link-node keywords a u).0 (omega (arith, (link-node keywords a u).2)) in
      rw (e, stops-some a u b, ih, seek-of-link a u b)

  -- a step from a node
  step-seek : (u : List ℕ) (b : ℕ) → is_node keywords u ≡ true → step keywords u b ≡ seek u b
  unfolding step
  step-seek u b e = follow-seek (length u) u b e (le_refl _)

  -- ---- the step, as request #103 says it

  -- a node with a child by the byte: to the child, one move
  pub step-child : (u : List ℕ) (b : ℕ) → has_child keywords u b ≡ true → ((step keywords u b).node ≡ child u b) × ((step keywords u b).moves ≡ 1)
  unfolding step follow stops arrived
  step-child [] b h = (rw h, refl)
  step-child (a ∷ u) b h = (rw (stops-some a u b, h), rw (stops-some a u b, h))

  -- the root without one: stay, one move
  pub step-root : (b : ℕ) → has_child keywords [] b ≡ false → ((step keywords [] b).node ≡ []) × ((step keywords [] b).moves ≡ 1)
  unfolding step follow arrived
  step-root b h = (rw h, refl)

  step-linked : (a : ℕ) (u : List ℕ) (b : ℕ) → has_child keywords (a ∷ u) b ≡ false
      → step keywords (a ∷ u) b ≡ one_more (step keywords (link keywords (a ∷ u)) b)
  unfolding step follow
  step-linked a u b h =
      let v = link keywords (a ∷ u) in
      let n = link-node keywords a u in
      let e : follow keywords (length u) v b ≡ step keywords v b =
      follow-seek (length u) v b n.0 (omega (arith, n.2)) ∙ sym (step-seek v b n.0) in
      rw (stops-some a u b, h, e)

  -- another node without one: follow the link, one move, and go on from there
  pub step-link : (a : ℕ) (u : List ℕ) (b : ℕ) → has_child keywords (a ∷ u) b ≡ false
      → ((step keywords (a ∷ u) b).node ≡ (step keywords (link keywords (a ∷ u)) b).node)
      × ((step keywords (a ∷ u) b).moves ≡ suc (step keywords (link keywords (a ∷ u)) b).moves)
  unfolding one_more
  step-link a u b h = (ap (λ (s : Step). s.node) (step-linked a u b h), ap (λ (s : Step). s.moves) (step-linked a u b h))

  -- ---- the node

  arrived-child : (u : List ℕ) (b : ℕ) → has_child keywords u b ≡ true → (arrived keywords u b).node ≡ child u b
  unfolding arrived
  arrived-child u b h = rw h

  seek-node : (x : List ℕ) (b : ℕ) → (seek x b).node ≡ longest_node keywords (child x b)
  unfolding seek arrived one_more has_child longest_node
  seek-node [] b = refl
  seek-node (a ∷ u) b = go (bool_cases (is_node keywords (a ∷ u))) (bool_cases (has_child keywords (a ∷ u) b)) (seek-node u b)
    where
      go : (is_node keywords (a ∷ u) ≡ true) ⊎ (is_node keywords (a ∷ u) ≡ false)
          → (has_child keywords (a ∷ u) b ≡ true) ⊎ (has_child keywords (a ∷ u) b ≡ false)
          → (seek u b).node ≡ longest_node keywords (child u b) → (seek (a ∷ u) b).node ≡ longest_node keywords (child (a ∷ u) b)
      go (inl n) (inl h) ih =
          ap (λ (s : Step). s.node) (seek-child a u b n h) ∙ arrived-child (a ∷ u) b h ∙ sym (longest-of-node keywords (child (a ∷ u) b) h)
      go (inl n) (inr h) ih = ap (λ (s : Step). s.node) (seek-link a u b n h) ∙ ih ∙ sym (longest-of-tail keywords a (child u b) h)
      go (inr n) h ih =
          ap (λ (s : Step). s.node) (seek-tail a u b n) ∙ ih ∙ sym (longest-of-tail keywords a (child u b) (no-child keywords (a ∷ u) b n))

  -- a step from the longest node of the bytes leads to the longest node of one byte more
  pub step-node : (x : List ℕ) (b : ℕ) → (step keywords (longest_node keywords x) b).node ≡ longest_node keywords (child x b)
  step-node x b =
      ap (λ (s : Step). s.node) (step-seek (longest_node keywords x) b (longest-is-node keywords x) ∙ seek-longest x b) ∙ seek-node x b

  pub step-is-node : (u : List ℕ) (b : ℕ) → is_node keywords u ≡ true → is_node keywords (step keywords u b).node ≡ true
  step-is-node u b e =
      ap (is_node keywords) (ap (λ (s : Step). s.node) (step-seek u b e) ∙ seek-node u b) ∙ longest-is-node keywords (child u b)

  -- how links are built: the link of a child is one step from the link of its parent
  pub link-child : (a : ℕ) (u : List ℕ) (b : ℕ) → link keywords (child (a ∷ u) b) ≡ (step keywords (link keywords (a ∷ u)) b).node
  unfolding link
  link-child a u b = sym (step-node u b)

  -- ---- the moves

  -- what a step has cost and how deep it leads
  abbrev pub spent : Step → ℕ
  spent s = s.moves + length s.node

  arrived-moves : (u : List ℕ) (b : ℕ) → spent (arrived keywords u b) ≤ length u + 2
  unfolding arrived
  arrived-moves u b =
      cond-elim (λ v. 1 + length v ≤ length u + 2) (has_child keywords u b) (child u b) [] (λ _. omega (arith, length-append u (b ∷ []))) (λ _. omega arith)

  seek-moves : (x : List ℕ) (b : ℕ) → spent (seek x b) ≤ length x + 2
  unfolding seek one_more
  seek-moves [] b = arrived-moves [] b
  seek-moves (a ∷ u) b =
      let ih : spent (seek u b) ≤ length u + 2 = seek-moves u b in
      cond-elim (λ s. spent s ≤ suc (length u) + 2) (is_node keywords (a ∷ u)) _ (seek u b)
      (λ _. cond-elim (λ s. spent s ≤ suc (length u) + 2) (has_child keywords (a ∷ u) b) (arrived keywords (a ∷ u) b) (one_more (seek u b))
      (λ _. arrived-moves (a ∷ u) b) (λ _. omega arith))
      (λ _. omega arith)

  follow-least : (n : ℕ) (u : List ℕ) (b : ℕ) → 1 ≤ (follow keywords n u b).moves
  unfolding follow arrived one_more
  follow-least zero u b = le_refl 1
  follow-least (suc n) u b =
      cond-elim (λ s. 1 ≤ s.moves) (stops keywords u b) (arrived keywords u b) (one_more (follow keywords n (link keywords u) b))
      (λ _. le_refl 1) (λ _. omega arith)

  -- moves and the depth after are at most the depth before and 2
  pub step-moves : (u : List ℕ) (b : ℕ) → is_node keywords u ≡ true → spent (step keywords u b) ≤ length u + 2
  step-moves u b e = rw (step-seek u b e) (seek-moves u b)

  -- a step takes at least one move
  pub step-moves-least : (u : List ℕ) (b : ℕ) → 1 ≤ (step keywords u b).moves
  unfolding step
  step-moves-least u b = follow-least (length u) u b
