-- Request #103 as arrays: the trie's table, what is known of each node, and the log of a walk. Nodes stand by their numbers. The keywords are as
-- they compare; a byte is folded by the cell that it leads to.
use Rattle.std.specs.Prelude.{Bool, cond, List, [], ◌∷◌, ◌++◌, ℕ, suc, ◌+◌, ◌-◌, ◌*◌, ◌/◌, ◌%◌, ◌^◌, length, eqb, ltb}
use Rattle.spec.specs.Bytes.{each, keep, set_of}
use Rattle.spec.specs.Keywords.{fold_byte}
use Rattle.spec.specs.Join.{keyword_at}
use Rattle.spec.specs.Trie.{Step, step}
use Rattle.trie.specs.Endings.{is_ending, prefix_at}
use Rattle.trie.specs.Numbers.{node_count, node_number, node_at}

-- ---- nodes

-- The keywords that node u ends with, as a set: bit k for keyword k.
unfoldable pub ending_set : List (List ℕ) → List ℕ → ℕ
ending_set keywords u = set_of (λ k. is_ending (keyword_at keywords k) u) (length keywords)

-- Node u ends with some keyword.
unfoldable pub accepts : List (List ℕ) → List ℕ → Bool
accepts keywords u = ltb 0 (ending_set keywords u)

-- The sets of all nodes.
unfoldable pub sets_of : List (List ℕ) → List ℕ
sets_of keywords = each (λ s. ending_set keywords (node_at keywords s) ∷ []) 0 (node_count keywords)

-- The prefixes of all nodes: for node s and keyword k at 16 * s + k. 0 behind the last keyword.
unfoldable pub prefixes_of : List (List ℕ) → List ℕ
prefixes_of keywords = each (λ i. prefix_at (keyword_at keywords (i % 16)) (node_at keywords (i / 16)) ∷ []) 0 (node_count keywords * 16)

-- ---- the table

-- A step as one number: the node that it leads to, whether a keyword ends there, and the moves.
unfoldable pub packed : List (List ℕ) → Step → ℕ
packed keywords s = node_number keywords s.node * 256 + cond (accepts keywords s.node) 1 0 * 262144 + s.moves * 16777216

-- The cell for node number s and byte b.
unfoldable pub cell_of : ℕ → List (List ℕ) → ℕ → ℕ → ℕ
cell_of flag keywords s b = packed keywords (step keywords (node_at keywords s) (fold_byte flag b))

-- All cells: that for s and b at 256 * s + b.
unfoldable pub table_of : ℕ → List (List ℕ) → List ℕ
table_of flag keywords = each (λ i. cell_of flag keywords (i / 256) (i % 256) ∷ []) 0 (node_count keywords * 256)

-- ---- the log

-- What a step at a place logs: the node and the place, if a keyword ends there.
unfoldable pub logged : List (List ℕ) → Step → ℕ → List ℕ
logged keywords s at = keep (accepts keywords s.node) (node_number keywords s.node * 1048576 + at)

-- The log of the bytes, from node u on; `at` is the first byte's place in the chunk.
unfoldable pub log_from : List (List ℕ) → List ℕ → ℕ → List ℕ → List ℕ
log_from keywords u at [] = []
log_from keywords u at (b ∷ bytes) =
    logged keywords (step keywords u b) at ++ log_from keywords (step keywords u b).node (suc at) bytes

-- What a log tells of keyword k: the offsets of its occurrences, each its length back from the place where a node ends with it.
unfoldable pub offsets_in : List (List ℕ) → ℕ → List ℕ → List ℕ
offsets_in keywords k [] = []
offsets_in keywords k (entry ∷ log) =
    keep (eqb (ending_set keywords (node_at keywords (entry / 1048576)) / 2 ^ k % 2) 1) (entry % 1048576 + 1 - length (keyword_at keywords k))
    ++ offsets_in keywords k log
