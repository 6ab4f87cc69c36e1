-- What the program prints, by computation: document 01's small vault; no file at all. Assumes nothing.
use mathlib.Core.Path.{◌≡◌, refl}
use mathlib.Core.List.{[], ◌∷◌, ◌++◌}
use Prim.Native.Nat.{ℕ}
use Rattle.spec.specs.Search.{occurrences_in, occurrences_in_all, restored, direct_search, search_join_code, search_code}
use Rattle.theory.specs.Cases.{store, keywords, recipes}
use Rattle.theory.specs.Holes.{holed_store}
use Rattle.theory.proofs.Cases.{definitions}
use Rattle.spec.specs.Program.{decimal_within, decimal, occurrence_text, occurrences_text, list_text, refused_text, too_long_text, search_text, program_text}

-- the definitions that the texts compute with: those of the search, then all of them
unfoldable searches : ℕ
unfolding definitions occurrences_in occurrences_in_all restored direct_search search_join_code search_code
searches = 0

unfoldable texts : ℕ
unfolding searches decimal_within decimal occurrence_text occurrences_text list_text refused_text too_long_text search_text program_text
texts = 0

-- finds 3, then 0 1 0, 0 3 0, 1 0 1
pub small-vault : program_text store keywords recipes
    ≡ (0x66 ∷ 0x69 ∷ 0x6E ∷ 0x64 ∷ 0x73 ∷ 0x20 ∷ 0x33 ∷ 0x0A ∷ [])
    ++ (0x30 ∷ 0x20 ∷ 0x31 ∷ 0x20 ∷ 0x30 ∷ 0x0A ∷ [])
    ++ (0x30 ∷ 0x20 ∷ 0x33 ∷ 0x20 ∷ 0x30 ∷ 0x0A ∷ [])
    ++ (0x31 ∷ 0x20 ∷ 0x30 ∷ 0x20 ∷ 0x31 ∷ 0x0A ∷ [])
unfolding texts
small-vault = refl

-- request #106: the same with holes in the store
pub small-vault-with-holes : program_text holed_store keywords recipes ≡ program_text store keywords recipes
unfolding texts
small-vault-with-holes = refl

-- refused 1
pub no-files : program_text [] [] [] ≡ 0x72 ∷ 0x65 ∷ 0x66 ∷ 0x75 ∷ 0x73 ∷ 0x65 ∷ 0x64 ∷ 0x20 ∷ 0x31 ∷ 0x0A ∷ []
unfolding texts
no-files = refl

-- 4294967295
pub ten-digits : decimal 4294967295 ≡ 0x34 ∷ 0x32 ∷ 0x39 ∷ 0x34 ∷ 0x39 ∷ 0x36 ∷ 0x37 ∷ 0x32 ∷ 0x39 ∷ 0x35 ∷ []
unfolding texts
ten-digits = refl

pub zero-digit : decimal 0 ≡ 0x30 ∷ []
unfolding texts
zero-digit = refl
