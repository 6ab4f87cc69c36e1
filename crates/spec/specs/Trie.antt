-- Request #103: the trie of the keywords and the walk of a chunk over it (Aho-Corasick; source document 000, section 3.1).
-- A node (the paper's "state") is the list of the bytes that lead to it, so the root is []. Keywords and chunks here are folded already.
use Rattle.std.specs.Prelude.{Bool, true, false, ◌||◌, cond, List, [], ◌∷◌, ◌++◌, map, ℕ, zero, suc, ◌+◌, length, eqb}
use Rattle.spec.specs.Bytes.{begins, sum}
use Rattle.spec.specs.Keywords.{flag_of, folded_all, folded_keywords}
use Rattle.spec.specs.Store.{chunks_of}

-- ---- nodes

-- Some keyword begins with these bytes.
unfoldable pub some_begins : List (List ℕ) → List ℕ → Bool
some_begins [] u = false
some_begins (keyword ∷ keywords) u = begins u keyword || some_begins keywords u

-- The nodes: all beginnings of the keywords. The empty one is the root, which is there whatever the keywords are.
unfoldable pub is_node : List (List ℕ) → List ℕ → Bool
is_node keywords [] = true
is_node keywords (a ∷ u) = some_begins keywords (a ∷ u)

-- Where a node's "child link" by a byte leads, and whether there is one.
abbrev pub child : List ℕ → ℕ → List ℕ
child u b = u ++ b ∷ []

unfoldable pub has_child : List (List ℕ) → List ℕ → ℕ → Bool
has_child keywords u b = is_node keywords (child u b)

-- The longest ending of the bytes that is a node.
unfoldable pub longest_node : List (List ℕ) → List ℕ → List ℕ
longest_node keywords [] = []
longest_node keywords (a ∷ u) = cond (is_node keywords (a ∷ u)) (a ∷ u) (longest_node keywords u)

-- A node's "failure link" leads to its longest proper ending ("strict suffix") that is a node.
unfoldable pub link : List (List ℕ) → List ℕ → List ℕ
link keywords [] = []
link keywords (a ∷ u) = longest_node keywords u

-- ---- one byte

-- The node that a byte leads to, and the moves made.
pub record Step : Type 0 where
  pub node : List ℕ
  pub moves : ℕ

-- No link is followed from the root, nor from a node that has a child by the byte.
unfoldable pub stops : List (List ℕ) → List ℕ → ℕ → Bool
stops keywords u b = eqb (length u) 0 || has_child keywords u b

-- There: to the child, or stay at the root. One move.
unfoldable pub arrived : List (List ℕ) → List ℕ → ℕ → Step
arrived keywords u b = record { node = cond (has_child keywords u b) (child u b) []; moves = 1 }

-- A link was followed before this step: one move more.
unfoldable pub one_more : Step → Step
one_more s = record { node = s.node; moves = suc s.moves }

-- At most n links followed, each one move; then the child or the root.
unfoldable pub follow : List (List ℕ) → ℕ → List ℕ → ℕ → Step
follow keywords zero u b = arrived keywords u b
follow keywords (suc n) u b = cond (stops keywords u b) (arrived keywords u b) (one_more (follow keywords n (link keywords u) b))

-- The step for a byte. A link is shorter than its node, so as many links as the node has bytes lead to the root.
unfoldable pub step : List (List ℕ) → List ℕ → ℕ → Step
step keywords u b = follow keywords (length u) u b

-- ---- a chunk

-- The node after the bytes, from node u on.
unfoldable pub node_from : List (List ℕ) → List ℕ → List ℕ → List ℕ
node_from keywords u [] = u
node_from keywords u (b ∷ bytes) = node_from keywords (step keywords u b).node bytes

-- The moves that the bytes take, from node u on.
unfoldable pub moves_from : List (List ℕ) → List ℕ → List ℕ → ℕ
moves_from keywords u [] = 0
moves_from keywords u (b ∷ bytes) = (step keywords u b).moves + moves_from keywords (step keywords u b).node bytes

-- Each chunk starts at the root.
abbrev pub node_after : List (List ℕ) → List ℕ → List ℕ
node_after keywords bytes = node_from keywords [] bytes

abbrev pub moves_of : List (List ℕ) → List ℕ → ℕ
moves_of keywords chunk = moves_from keywords [] chunk

-- The moves of chunks, summed.
unfoldable pub moves_of_all : List (List ℕ) → List (List ℕ) → ℕ
moves_of_all keywords chunks = sum (map (moves_of keywords) chunks)

-- The moves that a scan reports: of all chunks of the store, as keywords and chunks compare.
unfoldable pub scan_moves : List ℕ → List ℕ → ℕ
scan_moves list store = moves_of_all (folded_keywords list) (folded_all (flag_of list) (chunks_of store))
