-- What nodes tell, of small tries, by computation: he, she, his, hers over "ushers", and the paper's DEDUP, UP (its figure 2). Links and moves of
-- the latter: spec/proofs/MoveExamples. Assumes nothing.
use mathlib.Core.Path.{◌≡◌, refl}
use mathlib.Core.Bool.{true, false}
use mathlib.Core.List.{List, [], ◌∷◌, map}
use Prim.Native.Nat.{ℕ}
use Rattle.spec.specs.Trie.{link, node_after, moves_of}
use Rattle.spec.proofs.MoveExamples.{moving, dedup, up}
use Rattle.trie.specs.Endings.{is_ending, ends_at, prefix_at}
use Rattle.trie.specs.Numbers.{beginnings, without, distinct, nodes_of, node_count, node_number, node_at}

-- every definition that the examples compute with
unfoldable pub definitions : ℕ
unfolding moving is_ending ends_at prefix_at beginnings without distinct nodes_of node_count node_number node_at
definitions = 0

-- ---- he, she, his, hers

abbrev pub he : List ℕ
he = 0x68 ∷ 0x65 ∷ []

abbrev pub she : List ℕ
she = 0x73 ∷ 0x68 ∷ 0x65 ∷ []

abbrev pub his : List ℕ
his = 0x68 ∷ 0x69 ∷ 0x73 ∷ []

abbrev pub hers : List ℕ
hers = 0x68 ∷ 0x65 ∷ 0x72 ∷ 0x73 ∷ []

abbrev pub ushers : List ℕ
ushers = 0x75 ∷ 0x73 ∷ 0x68 ∷ 0x65 ∷ 0x72 ∷ 0x73 ∷ []

abbrev pub four : List (List ℕ)
four = he ∷ she ∷ his ∷ hers ∷ []

-- the links of she, his, sh
pub four-links : map (link four) (she ∷ his ∷ (0x73 ∷ 0x68 ∷ []) ∷ []) ≡ he ∷ (0x73 ∷ []) ∷ (0x68 ∷ []) ∷ []
unfolding definitions
four-links = refl

-- after "ushe" the node is she, whose ending he is a keyword too; the walk ends at hers
pub ushers-nodes : map (node_after four) ((0x75 ∷ 0x73 ∷ 0x68 ∷ 0x65 ∷ []) ∷ ushers ∷ []) ≡ she ∷ hers ∷ []
unfolding definitions
ushers-nodes = refl

pub ushers-ends : map (λ keyword. ends_at keyword ushers 4) four ≡ true ∷ true ∷ false ∷ false ∷ []
unfolding definitions
ushers-ends = refl

-- six bytes and one link (from she, by r): 7 moves
pub ushers-moves : moves_of four ushers ≡ 7
unfolding definitions
ushers-moves = refl

-- prefixes at the end of "ushers": none of he, s of she, none of his; of hers none but the whole
pub ushers-prefixes : map (λ keyword. prefix_at keyword (node_after four ushers)) four ≡ 0 ∷ 1 ∷ 0 ∷ 0 ∷ []
unfolding definitions
ushers-prefixes = refl

-- ten nodes: root, h, he, s, sh, she, hi, his, her, hers
pub four-nodes : (node_count four ≡ 10) × (map (node_number four) (he ∷ she ∷ his ∷ hers ∷ []) ≡ 2 ∷ 5 ∷ 7 ∷ 9 ∷ [])
unfolding definitions
four-nodes = (refl, refl)

-- ---- the paper's DEDUP, UP

abbrev pub two : List (List ℕ)
two = dedup ∷ up ∷ []

-- a chunk that ends with DEDU: prefix DEDU of DEDUP, prefix U of UP
pub dedu-prefixes : map (λ keyword. prefix_at keyword (0x44 ∷ 0x45 ∷ 0x44 ∷ 0x55 ∷ [])) two ≡ 4 ∷ 1 ∷ []
unfolding definitions
dedu-prefixes = refl
