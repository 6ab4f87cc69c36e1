-- Request #103: what the log that the walk of a chunk leaves says of each keyword.
-- Keywords and chunks here are folded already.
use Rattle.std.specs.Prelude.{◌≡◌, true, List, [], ◌∷◌, ◌++◌, ℕ, ◌+◌, ◌*◌, ◌-◌, ◌/◌, ◌%◌, ◌≤◌, ◌<◌, length, get_or}
use Rattle.spec.specs.Bytes.{keep, in_set}
use Rattle.spec.specs.Join.{keyword_at}
use Rattle.spec.specs.Trie.{is_node, node_after}
use Rattle.trie.specs.Endings.{prefix_at}
use Rattle.trie.specs.Numbers.{node_count, node_number}
use Rattle.automaton.specs.Automaton.{ending_set, log_from}

-- ---- the log

-- An entry: a node's number, and the place in the chunk of the byte that led there.
unfoldable pub entry_of : ℕ → ℕ → ℕ
entry_of number place = number * 1048576 + place

unfoldable pub number_in : ℕ → ℕ
number_in entry = entry / 1048576

unfoldable pub place_in : ℕ → ℕ
place_in entry = entry % 1048576

-- Each chunk starts at the root.
abbrev pub log_of : List (List ℕ) → List ℕ → List ℕ
log_of keywords chunk = log_from keywords [] 0 chunk

-- ---- what it says

-- The keywords that end at an entry's place; `ends` has the set of each node, by its number.
unfoldable pub set_at : List ℕ → ℕ → ℕ
set_at ends entry = get_or ends (number_in entry) 0

-- The offsets that a log says of keyword k, of length n: each occurrence starts n bytes before its end.
unfoldable pub logged_offsets : List ℕ → ℕ → ℕ → List ℕ → List ℕ
logged_offsets ends k n [] = []
logged_offsets ends k n (entry ∷ log) = keep (in_set (set_at ends entry) k) (place_in entry + 1 - n) ++ logged_offsets ends k n log

-- ---- what the functions here ask of it

-- The arrays of the trie: `ends` has the set of each node; `tails` has, for each node and keyword, the length of the keyword's longest proper
-- beginning that ends the node.
pub record Tabled (keywords : List (List ℕ)) (ends tails : List ℕ) : Type 0 where
  pub wide : node_count keywords ≤ length ends
  pub long : node_count keywords * 16 ≤ length tails
  pub set : (u : List ℕ) → is_node keywords u ≡ true → get_or ends (node_number keywords u) 0 ≡ ending_set keywords u
  pub tail : (u : List ℕ) (k : ℕ) → is_node keywords u ≡ true → k < length keywords
      → get_or tails (node_number keywords u * 16 + k) 0 ≡ prefix_at (keyword_at keywords k) u

-- What the walk of a chunk leaves: its log, and the number of its last node.
pub record Walked (keywords : List (List ℕ)) (chunk log : List ℕ) (last : ℕ) : Type 0 where
  pub logged : log ≡ log_of keywords chunk
  pub ended : last ≡ node_number keywords (node_after keywords chunk)

-- What reading an entry asks: its node has a set, of keywords below 16, none of them longer than what was read; `len` has their lengths.
pub record Fits (ends len : List ℕ) (entry : ℕ) : Type 0 where
  pub node : number_in entry < length ends
  pub few : set_at ends entry < 65536
  pub back : (k : ℕ) → in_set (set_at ends entry) k ≡ true → get_or len k 0 ≤ place_in entry + 1

abbrev pub AllFit : List ℕ → List ℕ → List ℕ → Type 0
AllFit ends len log = (i : ℕ) → i < length log → Fits ends len (get_or log i 0)
