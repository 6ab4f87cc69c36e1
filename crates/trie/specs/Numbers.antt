-- The nodes as a finite table: each has a number, the root 0.
use Rattle.std.specs.Prelude.{cond, List, [], ◌∷◌, map, ℕ, length, take, get_or}
use Rattle.spec.specs.Bytes.{same, position_of, each, joined}

-- The keyword's beginnings, shortest first, without the empty one.
unfoldable pub beginnings : List ℕ → List (List ℕ)
beginnings keyword = each (λ i. take i keyword ∷ []) 1 (length keyword)

-- The lists that are not the same as `key`.
unfoldable pub without : List ℕ → List (List ℕ) → List (List ℕ)
without key [] = []
without key (x ∷ xs) = cond (same key x) (without key xs) (x ∷ without key xs)

-- Each list once, where it first appears.
unfoldable pub distinct : List (List ℕ) → List (List ℕ)
distinct [] = []
distinct (x ∷ xs) = x ∷ without x (distinct xs)

-- All nodes: the root, then the keywords' beginnings in the order in which they first appear.
unfoldable pub nodes_of : List (List ℕ) → List (List ℕ)
nodes_of keywords = distinct ([] ∷ joined (map beginnings keywords))

unfoldable pub node_count : List (List ℕ) → ℕ
node_count keywords = length (nodes_of keywords)

-- A node's number, and the node with that number.
unfoldable pub node_number : List (List ℕ) → List ℕ → ℕ
node_number keywords u = position_of u (nodes_of keywords)

unfoldable pub node_at : List (List ℕ) → ℕ → List ℕ
node_at keywords k = get_or (nodes_of keywords) k []
