-- The nodes by number: there is a number for each node and a node for each number, the root's is 0, and there are at most one more of them than the
-- keywords have bytes. Their list is `distinct` of all beginnings, so these are its laws. Assumes nothing.
use mathlib.Core.Path.{◌≡◌, refl, sym, ap, ap₂, ◌∙◌}
use mathlib.Core.Bool.{true}
use mathlib.Core.List.{List, [], ◌∷◌, map}
use Prim.Native.Nat.{ℕ, suc, ◌+◌, ◌≤◌, ◌<◌}
use native.Mathlib.Omega.{arith}
use borrow.Author.Tests.{ltb-true}
use lib.ListN.{length, take, drop, get_or, length-append}
use lib.Seq.{take_at}
use Rattle.spec.specs.Bytes.{begins, contains, position_of, joined, sum}
use Rattle.spec.specs.Keywords.{flag_of, keywords_of, folded_keywords, longest}
use Rattle.spec.proofs.Begins.{begins-split}
use Rattle.spec.proofs.JoinIsSearch.{longest-folded}
use Rattle.spec.proofs.KeywordLaws.{Accepted, folded-count, longest-most, sum-most}
use Rattle.spec.proofs.EntryLaws.{contains-position, contains-at, position-of, position_at}
use Rattle.spec.proofs.RecordLaws.{bool-ext}
use Rattle.spec.proofs.Tabulated.{length-tabulated, tabulated-at}
use Rattle.spec.specs.Trie.{some_begins, is_node}
use Rattle.trie.specs.Numbers.{beginnings, distinct, nodes_of, node_count, node_number, node_at}
use Rattle.trie.proofs.Nodes.{begins-take, begins-length}
use Rattle.trie.proofs.Distinct.{contains-append, distinct-length, distinct-contains, distinct-once}

-- ---- the beginnings of a keyword

pub beginnings-length : (w : List ℕ) → length (beginnings w) ≡ length w
unfolding beginnings
beginnings-length w = length-tabulated (λ i. take i w) 1 (length w)

pub beginnings-at : (w : List ℕ) (i : ℕ) → i < length w → get_or (beginnings w) i [] ≡ take (1 + i) w
unfolding beginnings
beginnings-at w i h = tabulated-at (λ i. take i w) 1 (length w) i [] h

contained : (u : List ℕ) (xs : List (List ℕ)) → contains u xs ≡ true → position_of u xs < length xs
contained u xs e = ltb-true (position_of u xs) (length xs) (sym (contains-position u xs) ∙ e)

beginning-begins : (u w : List ℕ) → contains u (beginnings w) ≡ true → begins u w ≡ true
beginning-begins u w e =
    let l : position_of u (beginnings w) < length (beginnings w) = contained u (beginnings w) e in
    let q : u ≡ take (1 + position_of u (beginnings w)) w =
    sym (position-of u (beginnings w) l) ∙ beginnings-at w (position_of u (beginnings w)) (omega (arith, beginnings-length w)) in
    ap (λ (v : List ℕ). begins v w) q ∙ begins-take (1 + position_of u (beginnings w)) w

begins-beginning : (a : ℕ) (u w : List ℕ) → begins (a ∷ u) w ≡ true → contains (a ∷ u) (beginnings w) ≡ true
begins-beginning a u w e =
    let l : suc (length u) ≤ length w = begins-length (a ∷ u) w e in
    let n : 1 + length u ≡ suc (length u) = omega arith in
    let q : get_or (beginnings w) (length u) [] ≡ a ∷ u =
    beginnings-at w (length u) l
    ∙ ap₂ {C = List ℕ} (λ k x. take k x) n (begins-split (a ∷ u) w e)
    ∙ take_at (a ∷ u) (drop (suc (length u)) w) (suc (length u)) refl in
    ap (λ (v : List ℕ). contains v (beginnings w)) (sym q) ∙ contains-at (beginnings w) (length u) (omega (arith, beginnings-length w))

beginnings-contain : (a : ℕ) (u w : List ℕ) → contains (a ∷ u) (beginnings w) ≡ begins (a ∷ u) w
beginnings-contain a u w = bool-ext (contains (a ∷ u) (beginnings w)) (begins (a ∷ u) w) (beginning-begins (a ∷ u) w) (begins-beginning a u w)

-- ---- the list of the nodes

all-contain : (a : ℕ) (u : List ℕ) (keywords : List (List ℕ)) → contains (a ∷ u) (joined (map beginnings keywords)) ≡ some_begins keywords (a ∷ u)
unfolding some_begins
all-contain a u [] = refl
all-contain a u (w ∷ ws) = contains-append (a ∷ u) (beginnings w) (joined (map beginnings ws)) ∙ rw (beginnings-contain a u w, all-contain a u ws)

all-length : (keywords : List (List ℕ)) → length (joined (map beginnings keywords)) ≡ sum (map length keywords)
all-length [] = refl
all-length (w ∷ ws) = length-append (beginnings w) (joined (map beginnings ws)) ∙ rw (beginnings-length w, all-length ws)

module _ (keywords : List (List ℕ)) where
  -- it has exactly the nodes
  pub nodes-contain : (u : List ℕ) → contains u (nodes_of keywords) ≡ is_node keywords u
  unfolding nodes_of is_node
  nodes-contain [] = distinct-contains [] ([] ∷ joined (map beginnings keywords))
  nodes-contain (a ∷ u) = distinct-contains (a ∷ u) ([] ∷ joined (map beginnings keywords)) ∙ all-contain a u keywords

  -- at most one more than the keywords have bytes
  pub count_most : node_count keywords ≤ 1 + sum (map length keywords)
  unfolding node_count nodes_of
  count_most = omega (arith, distinct-length ([] ∷ joined (map beginnings keywords)), all-length keywords)

  -- at most 513 for 16 keywords of 32 bytes
  pub count-513 : length keywords ≤ 16 → longest keywords ≤ 32 → node_count keywords ≤ 513
  count-513 few short = omega (arith, count_most, sum-most keywords short)

  -- ---- numbers

  -- a node has a number, and is the node with that number
  pub number-below : (u : List ℕ) → is_node keywords u ≡ true → node_number keywords u < node_count keywords
  unfolding node_number node_count
  number-below u n = contained u (nodes_of keywords) (nodes-contain u ∙ n)

  pub node-of-number : (u : List ℕ) → is_node keywords u ≡ true → node_at keywords (node_number keywords u) ≡ u
  unfolding node_number node_at
  node-of-number u n = position-of u (nodes_of keywords) (contained u (nodes_of keywords) (nodes-contain u ∙ n))

  -- a number below the count is a node's, and that node's number
  pub number-is-node : (k : ℕ) → k < node_count keywords → is_node keywords (node_at keywords k) ≡ true
  unfolding node_count node_at
  number-is-node k h = sym (nodes-contain (get_or (nodes_of keywords) k [])) ∙ contains-at (nodes_of keywords) k h

  pub number-of-node : (k : ℕ) → k < node_count keywords → node_number keywords (node_at keywords k) ≡ k
  unfolding node_count node_at node_number nodes_of
  number-of-node k h = position_at (nodes_of keywords) k (distinct-once ([] ∷ joined (map beginnings keywords))) h

  -- the root is node 0
  pub root-number : (node_number keywords [] ≡ 0) × (node_at keywords 0 ≡ [])
  unfolding node_number node_at nodes_of distinct
  root-number = (refl, refl)

-- ---- an accepted keyword list

module _ (list : List ℕ) (good : Accepted list) where
  -- no keyword is longer than 32 bytes, so the window of 32 bytes does
  pub accepted-short : longest (folded_keywords list) ≤ 32
  unfolding folded_keywords
  accepted-short =
      let l : longest (keywords_of list) ≤ 32 = longest-most (keywords_of list) 32 (λ k h. (good.proper k (omega (arith, good.count))).1) in
      omega (arith, longest-folded (flag_of list) (keywords_of list))

  pub accepted-count : node_count (folded_keywords list) ≤ 513
  accepted-count = count-513 (folded_keywords list) (omega (arith, folded-count list, good.count, good.most)) accepted-short
