-- The definitions at work: he, she, his, hers, and the text ushers. Assumes nothing.
use mathlib.Core.Path.{◌≡◌, refl}
use mathlib.Core.List.{[], ◌∷◌, map}
use Prim.Native.Nat.{ℕ, ◌+◌, ◌*◌}
use Rattle.spec.specs.Keywords.{fold_byte, is_upper}
use Rattle.trie.proofs.Examples.{definitions, four, he, she, hers, ushers}
use Rattle.automaton.specs.Automaton.{ending_set, accepts, packed, cell_of, logged, log_from, offsets_in}

-- every definition that the examples compute with
unfoldable pub tables : ℕ
unfolding definitions ending_set accepts packed cell_of logged log_from offsets_in fold_byte is_upper
tables = 0

-- she ends with he and she, hers with itself alone
pub four-sets : map (ending_set four) (he ∷ she ∷ hers ∷ []) ≡ 1 ∷ 3 ∷ 8 ∷ []
unfolding tables
four-sets = refl

-- from she (node 5) by r over he to her (node 8), where no keyword ends: two moves; by R under the fold flag the same
pub she-r : map (cell_of 1 four 5) (0x72 ∷ 0x52 ∷ []) ≡ (8 * 256 + 2 * 16777216) ∷ (8 * 256 + 2 * 16777216) ∷ []
unfolding tables
she-r = refl

-- from her by s to hers (node 9), where a keyword ends: one move
pub her-s : cell_of 0 four 8 0x73 ≡ 9 * 256 + 262144 + 16777216
unfolding tables
her-s = refl

-- ushers: she at place 3, hers at place 5
pub ushers-log : log_from four [] 0 ushers ≡ (5 * 1048576 + 3) ∷ (9 * 1048576 + 5) ∷ []
unfolding tables
ushers-log = refl

-- so he is at 2, she at 1, his nowhere, hers at 2
pub ushers-offsets : map (λ k. offsets_in four k (log_from four [] 0 ushers)) (0 ∷ 1 ∷ 2 ∷ 3 ∷ []) ≡ (2 ∷ []) ∷ (1 ∷ []) ∷ [] ∷ (2 ∷ []) ∷ []
unfolding tables
ushers-offsets = refl
