-- Request #103's moves of small tries, by computation. Assumes nothing.
use mathlib.Core.Path.{◌≡◌, refl}
use mathlib.Core.List.{List, [], ◌∷◌, map}
use Prim.Native.Nat.{ℕ}
use lib.ListN.{replicate}
use Rattle.spec.specs.Trie.{some_begins, is_node, has_child, longest_node, link, stops, arrived, one_more, follow, step, node_from, moves_from}
use Rattle.spec.specs.Trie.{moves_of, moves_of_all, scan_moves}

-- every definition that moves are computed with
unfoldable pub moving : ℕ
unfolding some_begins is_node has_child longest_node link stops arrived one_more follow step node_from moves_from moves_of_all scan_moves
moving = 0

abbrev pub dedup : List ℕ
dedup = 0x44 ∷ 0x45 ∷ 0x44 ∷ 0x55 ∷ 0x50 ∷ []

abbrev pub up : List ℕ
up = 0x55 ∷ 0x50 ∷ []

abbrev pub dede : List ℕ
dede = 0x44 ∷ 0x45 ∷ 0x44 ∷ 0x45 ∷ []

abbrev pub dedupx : List ℕ
dedupx = 0x44 ∷ 0x45 ∷ 0x44 ∷ 0x55 ∷ 0x50 ∷ 0x58 ∷ []

-- DEDUP, UP: the links of DED, DEDU and DEDUP lead to D, U and UP
pub dedup-links : map (link (dedup ∷ up ∷ [])) ((0x44 ∷ 0x45 ∷ 0x44 ∷ []) ∷ (0x44 ∷ 0x45 ∷ 0x44 ∷ 0x55 ∷ []) ∷ dedup ∷ [])
    ≡ (0x44 ∷ []) ∷ (0x55 ∷ []) ∷ up ∷ []
unfolding moving
dedup-links = refl

-- DEDE: from DED by its link to D, and on to DE, 5 moves; DEDUP: 5; DEDUPX: from the leaf by UP to the root, 8
pub dedup-moves : map (moves_of (dedup ∷ up ∷ [])) (dede ∷ dedup ∷ dedupx ∷ []) ≡ 5 ∷ 5 ∷ 8 ∷ []
unfolding moving
dedup-moves = refl

-- AAAA: AAAAAA 8, AAAX 7
pub aaaa-moves : map (moves_of (replicate 4 0x41 ∷ [])) (replicate 6 0x41 ∷ (0x41 ∷ 0x41 ∷ 0x41 ∷ 0x58 ∷ []) ∷ []) ≡ 8 ∷ 7 ∷ []
unfolding moving
aaaa-moves = refl

-- A: AAAA 7, BBBB 4; no chunks 0
pub a-moves : map (moves_of ((0x41 ∷ []) ∷ [])) (replicate 4 0x41 ∷ replicate 4 0x42 ∷ [] ∷ []) ≡ 7 ∷ 4 ∷ 0 ∷ []
unfolding moving
a-moves = refl

-- chunks one by one, each from the root: DEDU, then PUP is 4 and 3 moves
pub chunk-moves : moves_of_all (dedup ∷ up ∷ []) ((0x44 ∷ 0x45 ∷ 0x44 ∷ 0x55 ∷ []) ∷ (0x50 ∷ 0x55 ∷ 0x50 ∷ []) ∷ []) ≡ 7
unfolding moving
chunk-moves = refl
