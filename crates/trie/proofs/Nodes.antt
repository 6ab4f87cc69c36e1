-- Laws of the nodes: beginnings of nodes are nodes, `longest_node` is the longest ending that is a node, and so is the failure link among the
-- proper ones. What an ending that is a node says of the bytes, it says of their longest node. Assumes nothing.
use mathlib.Core.Path.{◌≡◌, refl, sym, ap, ◌∙◌}
use mathlib.Core.Logic.{◌≢◌, ◌⊎◌, inl, inr}
use mathlib.Core.Bool.{Bool, true, false, ◌||◌, or-true, false≢true}
use mathlib.Core.List.{List, [], ◌∷◌, ◌++◌}
use Prim.Native.Nat.{ℕ, zero, suc, ◌-◌, ◌≤◌, ◌<◌, max}
use native.Mathlib.Omega.{arith}
use lib.ListN.{length, take, drop}
use lib.Dec.{eqb}
use Rattle.spec.specs.Bytes.{same, begins, contains}
use Rattle.spec.specs.Keywords.{longest}
use Rattle.spec.proofs.Tests.{le-or-lt, cond-elim, false_of, eqb_same, and_left, and_right, bool_cases}
use Rattle.spec.proofs.Same.{same-eq}
use Rattle.spec.proofs.Begins.{begins-short}
use Rattle.spec.specs.Trie.{some_begins, is_node, child, has_child, longest_node, link}
use Rattle.trie.specs.Endings.{is_ending}
use Rattle.trie.proofs.Endings.{ending-self, ending-tail, ending-more, ending-le}

or_cases : (a b : Bool) → (a || b) ≡ true → (a ≡ true) ⊎ (b ≡ true)
or_cases true b e = inl refl
or_cases false b e = inr e

-- ---- beginnings

begins-shorter : (u v w : List ℕ) → begins (u ++ v) w ≡ true → begins u w ≡ true
begins-shorter [] v w e = refl
begins-shorter (a ∷ u) v [] e = e
begins-shorter (a ∷ u) v (b ∷ w) e =
    rw (and_left (eqb a b) (begins (u ++ v) w) e, begins-shorter u v w (and_right (eqb a b) (begins (u ++ v) w) e))

some-shorter : (ws : List (List ℕ)) (u v : List ℕ) → some_begins ws (u ++ v) ≡ true → some_begins ws u ≡ true
unfolding some_begins
some-shorter [] u v e = e
some-shorter (w ∷ ws) u v e = go (or_cases (begins (u ++ v) w) (some_begins ws (u ++ v)) e) (some-shorter ws u v)
  where
    go : (begins (u ++ v) w ≡ true) ⊎ (some_begins ws (u ++ v) ≡ true) → (some_begins ws (u ++ v) ≡ true → some_begins ws u ≡ true)
        → (begins u w || some_begins ws u) ≡ true
    go (inl l) ih = rw (begins-shorter u v w l)
    go (inr r) ih = rw (ih r, or-true)

-- a beginning of a node is a node
pub node-shorter : (keywords : List (List ℕ)) (u v : List ℕ) → is_node keywords (u ++ v) ≡ true → is_node keywords u ≡ true
unfolding is_node
node-shorter keywords [] v e = refl
node-shorter keywords (a ∷ u) v e = some-shorter keywords (a ∷ u) v e

pub begins-take : (i : ℕ) (w : List ℕ) → begins (take i w) w ≡ true
begins-take zero w = refl
begins-take (suc i) [] = refl
begins-take (suc i) (a ∷ w) = rw (eqb_same a) (begins-take i w)

some-take : (keywords : List (List ℕ)) (w : List ℕ) (i : ℕ) → contains w keywords ≡ true → some_begins keywords (take i w) ≡ true
unfolding some_begins
some-take [] w i e = e
some-take (k ∷ ks) w i e = go (or_cases (same w k) (contains w ks) e) (some-take ks w i)
  where
    go : (same w k ≡ true) ⊎ (contains w ks ≡ true) → (contains w ks ≡ true → some_begins ks (take i w) ≡ true)
        → (begins (take i w) k || some_begins ks (take i w)) ≡ true
    go (inl s) ih = rw (← same-eq w k s, begins-take i w)
    go (inr c) ih = rw (ih c, or-true)

node-of-some : (keywords : List (List ℕ)) (u : List ℕ) → some_begins keywords u ≡ true → is_node keywords u ≡ true
unfolding is_node
node-of-some keywords [] e = refl
node-of-some keywords (a ∷ u) e = e

-- every beginning of a keyword is a node
pub beginning-is-node : (keywords : List (List ℕ)) (keyword : List ℕ) (i : ℕ) → contains keyword keywords ≡ true → is_node keywords (take i keyword) ≡ true
beginning-is-node keywords w i e = node-of-some keywords (take i w) (some-take keywords w i e)

-- what begins a keyword is no longer
pub begins-length : (u w : List ℕ) → begins u w ≡ true → length u ≤ length w
begins-length u w e = go (le-or-lt (length u) (length w))
  where
    go : (length u ≤ length w) ⊎ (length w < length u) → length u ≤ length w
    go (inl l) = l
    go (inr l) = absurd (false≢true (sym (begins-short u w l) ∙ e))

some-length : (keywords : List (List ℕ)) (u : List ℕ) → some_begins keywords u ≡ true → length u ≤ longest keywords
unfolding some_begins
some-length [] u e = absurd (false≢true e)
some-length (w ∷ ws) u e = go (or_cases (begins u w) (some_begins ws u) e) (some-length ws u)
  where
    go : (begins u w ≡ true) ⊎ (some_begins ws u ≡ true) → (some_begins ws u ≡ true → length u ≤ longest ws) → length u ≤ max (length w) (longest ws)
    go (inl b) ih = omega (arith, begins-length u w b)
    go (inr s) ih = omega (arith, ih s)

-- no node is longer than the longest keyword
pub node-length : (keywords : List (List ℕ)) (u : List ℕ) → is_node keywords u ≡ true → length u ≤ longest keywords
unfolding is_node
node-length keywords [] e = omega arith
node-length keywords (a ∷ u) e = some-length keywords (a ∷ u) e

module _ (keywords : List (List ℕ)) where
  -- what is no node has no child
  pub no-child : (u : List ℕ) (b : ℕ) → is_node keywords u ≡ false → has_child keywords u b ≡ false
  unfolding has_child
  no-child u b e = false_of (is_node keywords (child u b)) (λ t. false≢true (sym e ∙ node-shorter keywords u (b ∷ []) t))

  -- ---- the longest ending that is a node

  -- a node is its own
  pub longest-of-node : (u : List ℕ) → is_node keywords u ≡ true → longest_node keywords u ≡ u
  unfolding longest_node
  longest-of-node [] e = refl
  longest-of-node (a ∷ u) e = rw e

  -- of what is no node, that of the tail
  pub longest-of-tail : (a : ℕ) (u : List ℕ) → is_node keywords (a ∷ u) ≡ false → longest_node keywords (a ∷ u) ≡ longest_node keywords u
  unfolding longest_node
  longest-of-tail a u e = rw e

  pub longest-is-node : (x : List ℕ) → is_node keywords (longest_node keywords x) ≡ true
  unfolding longest_node is_node
  longest-is-node [] = refl
  longest-is-node (a ∷ u) =
      cond-elim (λ r. is_node keywords r ≡ true) (is_node keywords (a ∷ u)) (a ∷ u) (longest_node keywords u) (λ e. e) (λ _. longest-is-node u)

  pub longest-is-ending : (x : List ℕ) → is_ending (longest_node keywords x) x ≡ true
  unfolding longest_node
  longest-is-ending [] = ending-self []
  longest-is-ending (a ∷ u) =
      cond-elim (λ r. is_ending r (a ∷ u) ≡ true) (is_node keywords (a ∷ u)) (a ∷ u) (longest_node keywords u)
      (λ _. ending-self (a ∷ u)) (λ _. ending-more (longest_node keywords u) a u (longest-is-ending u))

  pub longest-length : (x : List ℕ) → length (longest_node keywords x) ≤ length x
  longest-length x = ending-le (longest_node keywords x) x (longest-is-ending x)

  -- an ending that is a node is an ending of the longest one
  pub ending-of-longest : (u x : List ℕ) → is_node keywords u ≡ true → is_ending u x ≡ is_ending u (longest_node keywords x)
  unfolding longest_node
  ending-of-longest u [] e = refl
  ending-of-longest u (a ∷ x) e = go (bool_cases (is_node keywords (a ∷ x))) (ending-of-longest u x e)
    where
      go : (is_node keywords (a ∷ x) ≡ true) ⊎ (is_node keywords (a ∷ x) ≡ false) → is_ending u x ≡ is_ending u (longest_node keywords x)
          → is_ending u (a ∷ x) ≡ is_ending u (longest_node keywords (a ∷ x))
      go (inl n) ih = ap (is_ending u) (sym (longest-of-node (a ∷ x) n))
      go (inr n) ih =
          ending-tail u a x (λ q. false≢true (sym n ∙ ap (is_node keywords) (sym q) ∙ e)) ∙ ih ∙ ap (is_ending u) (sym (longest-of-tail a x n))

  -- so none is longer
  pub longest-most : (u x : List ℕ) → is_node keywords u ≡ true → is_ending u x ≡ true → length u ≤ length (longest_node keywords x)
  longest-most u x n e = ending-le u (longest_node keywords x) (sym (ending-of-longest u x n) ∙ e)

  -- `longest_node` is what its name says: a node, an ending, and the longest of these
  pub longest-node : (x : List ℕ)
      → (is_node keywords (longest_node keywords x) ≡ true)
      × (is_ending (longest_node keywords x) x ≡ true)
      × ((u : List ℕ) → is_node keywords u ≡ true → is_ending u x ≡ true → length u ≤ length (longest_node keywords x))
  longest-node x = (longest-is-node x, longest-is-ending x, λ u n e. longest-most u x n e)

  -- it lies within the last n bytes, if no keyword is longer
  pub longest-window : (n : ℕ) (x : List ℕ) → longest keywords ≤ n → longest_node keywords (drop (length x - n) x) ≡ longest_node keywords x
  longest-window n [] h = let e : 0 - n ≡ 0 = omega arith in rw e
  longest-window n (a ∷ x) h = go (le-or-lt (suc (length x)) n) (longest-window n x h)
    where
      go : (suc (length x) ≤ n) ⊎ (n < suc (length x)) → longest_node keywords (drop (length x - n) x) ≡ longest_node keywords x
          → longest_node keywords (drop (suc (length x) - n) (a ∷ x)) ≡ longest_node keywords (a ∷ x)
      go (inl l) ih = let e : suc (length x) - n ≡ 0 = omega arith in rw e
      go (inr l) ih =
          let e : suc (length x) - n ≡ suc (length x - n) = omega arith in
          let no : is_node keywords (a ∷ x) ≡ false = false_of (is_node keywords (a ∷ x)) (λ t. omega (arith, node-length keywords (a ∷ x) t)) in
          rw e (ih ∙ sym (longest-of-tail a x no))

  -- ---- failure links

  -- a failure link is what its name says: from a node other than the root to a node, a proper ending, and the longest of these
  pub link-node : (a : ℕ) (u : List ℕ)
      → (is_node keywords (link keywords (a ∷ u)) ≡ true)
      × (is_ending (link keywords (a ∷ u)) (a ∷ u) ≡ true)
      × (length (link keywords (a ∷ u)) < length (a ∷ u))
      × ((v : List ℕ) → is_node keywords v ≡ true → is_ending v (a ∷ u) ≡ true → length v < length (a ∷ u) → length v ≤ length (link keywords (a ∷ u)))
  unfolding link
  link-node a u = (
    longest-is-node u,
    ending-more (longest_node keywords u) a u (longest-is-ending u),
    omega (arith, longest-length u),
    λ v n e l. longest-most v u n (sym (ending-tail v a u (λ q. omega (arith, ap length q))) ∙ e),
  )

  -- the keywords that end at a node: itself, or those that end at its link
  pub ending-of-link : (w u : List ℕ) (a : ℕ) → is_node keywords w ≡ true → w ≢ a ∷ u → is_ending w (a ∷ u) ≡ is_ending w (link keywords (a ∷ u))
  unfolding link
  ending-of-link w u a e h = ending-tail w a u h ∙ ending-of-longest w u e
