-- The directory of an index, in the terms of the contracts and in those of the definitions. Assumes nothing.
use mathlib.Core.Path.{◌≡◌, subst}
use mathlib.Core.List.{List}
use Prim.Native.Nat.{ℕ, ◌+◌}
use Rattle.spec.specs.Directory.{size_at}
use Rattle.spec.specs.Keywords.{list_size}
use Rattle.spec.specs.Store.{chunk_count}
use Rattle.spec.specs.Index.{list_in, index_layout, index_keys}
use Rattle.spec.specs.Recipes.{file_code}
use Rattle.files.specs.Measures.{keys_at, sizes_at, Slotted}
use Rattle.files.proofs.Slots.{Tested, slotted}

module _ (index : List ℕ) (start count : ℕ) (s : start ≡ 8 + list_size (list_in index)) (c : count ≡ chunk_count index) where
  pub index-keys : keys_at index start count ≡ index_keys index
  unfolding index_keys index_layout
  index-keys = rw (s, c)

  -- what `file_code` answers and leaves
  module _ (inner_least : ℕ) (file : List (List ℕ)) (slots₀ slots : List ℕ) (code : ℕ)
      (t : Tested (keys_at index start count) (sizes_at index start) inner_least file slots₀ slots code) where
    pub index-code : code ≡ file_code (index_keys index) (size_at (index_layout index) index) inner_least file
    unfolding index_keys index_layout
    index-code = rw (s, c) at t.0

    pub index-slotted : code ≡ 0 → Slotted (index_keys index) file slots
    index-slotted z =
        subst (λ (keys : List (List ℕ)). Slotted keys file slots) index-keys
        (slotted (keys_at index start count) (sizes_at index start) inner_least file slots₀ slots code t z)
