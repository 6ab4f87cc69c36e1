-- What the functions that build the table ask and answer.
use Rattle.std.specs.Prelude.{◌≡◌, ◌≢◌, ◌&&◌, cond, List, [], ◌∷◌, ◌++◌, ℕ, suc, ◌+◌, ◌*◌, ◌≤◌, ◌<◌, length, take, get_or, eqb}
use Rattle.spec.specs.Bytes.{part, same, contains, each}
use Rattle.spec.specs.Keywords.{flag_of, folded, folded_keywords, keyword_front_code}
use Rattle.keywords.specs.declared.Keywords.{Keywords}
use Rattle.keywords.specs.Parsed.{Reads}
use Rattle.spec.specs.Trie.{child, has_child, link}
use Rattle.trie.specs.Numbers.{beginnings, nodes_of, node_count, node_number, node_at}
use Rattle.automaton.specs.Automaton.{ending_set, cell_of}
use Rattle.automaton.specs.Walking.{Row}

-- ---- nodes as parts of the list

-- The n bytes of the list from `at`, as they compare.
abbrev pub run : ℕ → List ℕ → ℕ → ℕ → List ℕ
run flag list at n = folded flag (part list at n)

-- The nodes that two arrays say: node s is the lens[s] bytes from starts[s].
unfoldable pub nodes_in : ℕ → List ℕ → List ℕ → List ℕ → ℕ → List (List ℕ)
nodes_in flag list starts lens count = each (λ s. run flag list (get_or starts s 0) (get_or lens s 0) ∷ []) 0 count

-- They lie within the list.
pub record Within (list starts lens : List ℕ) (count : ℕ) : Type 0 where
  pub wide : count ≤ length starts
  pub wide-lens : count ≤ length lens
  pub room : (s : ℕ) → s < count → get_or starts s 0 + get_or lens s 0 ≤ length list

-- A node added at the end, unless it is there.
unfoldable pub with_node : List (List ℕ) → List ℕ → List (List ℕ)
with_node nodes u = cond (contains u nodes) nodes (nodes ++ u ∷ [])

-- Several nodes added, one after the other.
unfoldable pub with_nodes : List (List ℕ) → List (List ℕ) → List (List ℕ)
with_nodes nodes [] = nodes
with_nodes nodes (u ∷ us) = with_nodes (with_node nodes u) us

-- What adding a keyword's beginnings gives: `before` were the nodes, the keyword is the n bytes from `at`.
pub record Added (flag : ℕ) (list : List ℕ) (before : List (List ℕ)) (count at n : ℕ) (starts lens : List ℕ) (r : ℕ) : Type 0 where
  pub nodes : nodes_in flag list starts lens r ≡ with_nodes before (beginnings (run flag list at n))
  pub within : Within list starts lens r
  pub few : r ≤ count + n

-- The arrays say the nodes of the list, each by its number.
pub record Numbered (list starts lens : List ℕ) (count : ℕ) : Type 0 where
  pub wide : length starts ≡ 513
  pub wide-lens : length lens ≡ 513
  pub within : Within list starts lens count
  pub nodes : nodes_in (flag_of list) list starts lens count ≡ nodes_of (folded_keywords list)

-- What functions on the nodes of a list ask.
pub record Ready (list : List ℕ) (words : Keywords) (starts lens : List ℕ) (count : ℕ) : Type 0 where
  pub reads : Reads list words
  pub numbered : Numbered list starts lens count

-- ---- rows

-- The byte by which v is a child of u; 256 if it is none.
unfoldable pub child_byte : List ℕ → List ℕ → ℕ
child_byte u v = cond (eqb (length v) (suc (length u)) && same u (take (length u) v)) (get_or v (length u) 0) 256

-- The number of u's child by byte c; 0 if it has none.
unfoldable pub child_number : List (List ℕ) → List ℕ → ℕ → ℕ
child_number keywords u c = cond (has_child keywords u c) (node_number keywords (child u c)) 0

-- The row of node s.
unfoldable pub row_of : ℕ → List (List ℕ) → ℕ → List ℕ
row_of flag keywords s = each (λ b. cell_of flag keywords s b ∷ []) 0 256

-- An array says the children of node s; its last element says nothing.
pub record Children (keywords : List (List ℕ)) (s : ℕ) (children : List ℕ) : Type 0 where
  pub wide : length children ≡ 257
  pub at : (c : ℕ) → c < 256 → get_or children c 0 ≡ child_number keywords (node_at keywords s) c

-- An array says the sets of the nodes.
pub record Sets (keywords : List (List ℕ)) (sets : List ℕ) : Type 0 where
  pub wide : node_count keywords ≤ length sets
  pub at : (s : ℕ) → s < node_count keywords → get_or sets s 0 ≡ ending_set keywords (node_at keywords s)

-- What a row asks: its node's children, and the row of its failure link.
pub record CanFill (list table sets children : List ℕ) (flag s linked : ℕ) : Type 0 where
  pub accepted : keyword_front_code list ≡ 0
  pub flags : flag ≡ flag_of list
  pub inside : s < node_count (folded_keywords list)
  pub known : Sets (folded_keywords list) sets
  pub born : Children (folded_keywords list) s children
  pub number : linked ≡ node_number (folded_keywords list) (link (folded_keywords list) (node_at (folded_keywords list) s))
  pub row : s ≢ 0 → Row list table linked

-- What filling the row of node s asks: the rows of all nodes with fewer bytes.
pub record CanBuild (list : List ℕ) (words : Keywords) (starts lens : List ℕ) (count : ℕ) (sets table : List ℕ) : Type 0 where
  pub ready : Ready list words starts lens count
  pub known : Sets (folded_keywords list) sets
  pub room : count * 256 ≤ length table

-- Filled up to node s among those of d bytes: all nodes with fewer bytes, and of those with d bytes the ones below s. Behind the rows, the table is as it was.
pub record Built (list before table : List ℕ) (d s : ℕ) : Type 0 where
  pub wide : length table ≡ length before
  pub rows : (t : ℕ) → t < node_count (folded_keywords list) → length (node_at (folded_keywords list) t) * 513 + t < d * 513 + s → Row list table t
  pub rest : (i : ℕ) → node_count (folded_keywords list) * 256 ≤ i → get_or table i 0 ≡ get_or before i 0

-- What building asks: a list that was read, and arrays that have room for 513 nodes.
pub record CanMake (list : List ℕ) (words : Keywords) (table sets prefixes : List ℕ) : Type 0 where
  pub reads : Reads list words
  pub cells : 131328 ≤ length table
  pub bits : 513 ≤ length sets
  pub lengths : 8208 ≤ length prefixes
