-- The direct search of written inputs is a search of the files that the chunks make: every reader reads what was written (WrittenKeywords,
-- WrittenStores, WrittenRecipes), and a fingerprint's position in the store is that of the first chunk with it. Assumes nothing.
use mathlib.Core.Path.{◌≡◌, refl, sym, ap, ◌∙◌}
use mathlib.Core.Logic.{⊎_elim}
use mathlib.Core.Bool.{true}
use mathlib.Core.List.{List, [], ◌∷◌, map}
use Prim.Native.Nat.{ℕ, ◌≤◌, ◌<◌}
use native.Mathlib.Omega.{arith}
use lib.ListN.{length, get_or, length-map}
use Rattle.spec.specs.Bytes.{largest32, same, contains, position_of, every, joined}
use Rattle.spec.specs.Keywords.{folded, folded_all, keyword_list_bytes, folded_keywords}
use Rattle.spec.specs.Store.{Chunk, Placed, placed_bytes, chunk_at}
use Rattle.spec.specs.Recipes.{recipes_bytes}
use Rattle.spec.specs.Search.{chunk_named, restored, occurrences_in_all, direct_search}
use Rattle.spec.proofs.Tests.{bool_cases}
use Rattle.theory.specs.WrittenInputs.{file_fits, chunks_in, chunks_fit, bytes_under, all_named, WrittenInputs}
use Rattle.spec.proofs.FileLaws.{map_same}
use Rattle.theory.proofs.ScanThenJoin.{position_in}
use Rattle.theory.proofs.WrittenKeywords.{keyword-list-reads, written-keywords}
use Rattle.theory.proofs.WrittenStores.{keys_under, store-read, written-stores}
use Rattle.theory.proofs.WrittenRecipes.{recipes-read, written-recipes}

-- the first chunk with a fingerprint stands at the fingerprint's position
pub bytes-under : (chunks : List Chunk) (key : List ℕ)
    → bytes_under chunks key ≡ get_or (map (λ c. c.bytes) chunks) (position_of key (map (λ c. c.key) chunks)) []
bytes-under [] key = refl
bytes-under (c ∷ cs) key = ⊎_elim (λ t. rw t) (λ f. rw f (bytes-under cs key)) (bool_cases (same key c.key))

module _ (placed : List Placed) (hole : List ℕ) (fits : chunks_fit placed ≡ true) where
  named-is : (key : List ℕ) → contains key (keys_under placed) ≡ true → chunk_named (placed_bytes placed hole) key ≡ bytes_under (chunks_in placed) key
  named-is key e =
      let l : position_of key (keys_under placed) < length placed = omega (
        arith,
        position_in (keys_under placed) key e,
        length-map (chunks_in placed) (λ c. c.key),
        length-map placed (λ p. p.chunk),
      ) in
      ap (λ (keys : List (List ℕ)). chunk_at (placed_bytes placed hole) (position_of key keys)) (store-read placed hole fits).keys
      ∙ (store-read placed hole fits).bytes (position_of key (keys_under placed)) l
      ∙ sym (bytes-under (chunks_in placed) key)

  restored-is : (file : List (List ℕ)) → every (λ key. contains key (keys_under placed)) file ≡ true
      → restored (placed_bytes placed hole) file ≡ joined (map (bytes_under (chunks_in placed)) file)
  unfolding restored
  restored-is file e =
      ap joined (map_same (λ key. contains key (keys_under placed)) (chunk_named (placed_bytes placed hole)) (bytes_under (chunks_in placed)) [] file e named-is)

pub written-search : (flag : ℕ) (keywords : List (List ℕ)) (placed : List Placed) (hole : List ℕ) (files : List (List (List ℕ)))
    → chunks_fit placed ≡ true → length files ≤ largest32 → every file_fits files ≡ true → all_named (chunks_in placed) files ≡ true
    → direct_search (keyword_list_bytes flag keywords) (placed_bytes placed hole) (recipes_bytes files)
    ≡ occurrences_in_all 0 (folded_all flag keywords) (map (λ file. folded flag (joined (map (bytes_under (chunks_in placed)) file))) files)
unfolding direct_search folded_keywords
written-search flag keywords placed hole files fits small fit named =
    let k = keyword-list-reads flag keywords in
    rw (k.fold, k.words, recipes-read files small fit)
    (ap (occurrences_in_all 0 (folded_all flag keywords))
    (map_same (λ file. every (λ key. contains key (keys_under placed)) file) _ _ [] files named
    (λ file e. ap (folded flag) (restored-is placed hole fits file e))))

pub written-inputs : WrittenInputs
written-inputs = record { keyword_lists = written-keywords; recipes_files = written-recipes; stores = written-stores; searches = written-search }
