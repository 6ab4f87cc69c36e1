-- The marked chunks entry by entry: how many there are and how many bytes they have, their entries and their bytes. Assumes nothing.
use mathlib.Core.Path.{◌≡◌, refl, sym, ap, ◌∙◌}
use mathlib.Core.Bool.{Bool, true, false, cond}
use mathlib.Core.List.{List, [], ◌∷◌, ◌++◌, map, append_assoc}
use Prim.Native.Nat.{ℕ, suc, ◌+◌, ◌*◌, ◌-◌, ◌≤◌, ◌<◌}
use native.Mathlib.Nat.{add-zero}
use native.Mathlib.Numerals.{add-one}
use native.Mathlib.Omega.{arith}
use lib.ListN.{length, get_or, length-append}
use Rattle.spec.specs.Bytes.{each, le_bytes}
use Rattle.spec.specs.Store.{Chunk, gapless, store_directory_bytes, chunk_count, chunk_at}
use Rattle.compact.specs.Marking.{marked_at, marked_from, chunk_bytes}

-- ---- one entry

module _ (store : List ℕ) (k : ℕ) where
  pub marked-count : (marked : Bool) → length (marked_at store marked k) ≡ cond marked 1 0
  marked-count true = refl
  marked-count false = refl

  pub marked-bytes : (marked : Bool) → length (chunk_bytes (marked_at store marked k)) ≡ cond marked 1 0 * length (chunk_at store k)
  marked-bytes true = omega (arith, length-append (chunk_at store k) [])
  marked-bytes false = omega arith

-- ---- from entry k on

module _ (store : List ℕ) (marks : List Bool) where
  pub marked_step : (k : ℕ) → k < chunk_count store → marked_from store marks k ≡ marked_at store (get_or marks k false) k ++ marked_from store marks (k + 1)
  marked_step k l =
      let e : chunk_count store - k ≡ suc (chunk_count store - (k + 1)) = omega arith in
      ap (λ (n : ℕ). each (λ j. marked_at store (get_or marks j false) j) k n) e
      ∙ ap (λ (i : ℕ). marked_at store (get_or marks k false) k ++ each (λ j. marked_at store (get_or marks j false) j) i (chunk_count store - (k + 1)))
      (sym (add-one k))

  pub marked-end : (k : ℕ) → chunk_count store ≤ k → marked_from store marks k ≡ []
  marked-end k h = let e : chunk_count store - k ≡ 0 = omega arith in ap (λ (n : ℕ). each (λ j. marked_at store (get_or marks j false) j) k n) e

pub bytes-append : (cs ds : List Chunk) → chunk_bytes (cs ++ ds) ≡ chunk_bytes cs ++ chunk_bytes ds
bytes-append [] ds = refl
bytes-append (c ∷ cs) ds = rw (bytes-append cs ds) (sym (append_assoc c.bytes (chunk_bytes cs) (chunk_bytes ds)))

map-append : (cs ds : List Chunk) → map gapless (cs ++ ds) ≡ map gapless cs ++ map gapless ds
map-append [] ds = refl
map-append (c ∷ cs) ds = ap (λ l. gapless c ∷ l) (map-append cs ds)

pub directory-append : (at : ℕ) (cs ds : List Chunk)
    → store_directory_bytes at (map gapless (cs ++ ds))
    ≡ store_directory_bytes at (map gapless cs) ++ store_directory_bytes (at + length (chunk_bytes cs)) (map gapless ds)
unfolding store_directory_bytes
directory-append at [] ds = ap (λ (n : ℕ). store_directory_bytes n (map gapless ds)) (sym (add-zero at))
directory-append at (c ∷ cs) ds =
    let e : at + 0 + length c.bytes + length (chunk_bytes cs) ≡ at + length (chunk_bytes (c ∷ cs)) =
    omega (arith, length-append c.bytes (chunk_bytes cs)) in
    rw (directory-append (at + 0 + length c.bytes) cs ds, e)
    (sym (append_assoc (c.key ++ le_bytes 4 (at + 0) ++ le_bytes 4 (length c.bytes)) (store_directory_bytes (at + 0 + length c.bytes) (map gapless cs)) _))

-- a step of both sums, of one mark
module _ (store : List ℕ) (marks : List Bool) (k : ℕ) (l : k < chunk_count store) where
  pub count-step : length (marked_from store marks k) ≡ cond (get_or marks k false) 1 0 + length (marked_from store marks (k + 1))
  count-step =
      ap length (marked_step store marks k l) ∙ length-append (marked_at store (get_or marks k false) k) (marked_from store marks (k + 1))
      ∙ ap (λ (n : ℕ). n + length (marked_from store marks (k + 1))) (marked-count store k (get_or marks k false))

  pub size_step : length (chunk_bytes (marked_from store marks k))
      ≡ cond (get_or marks k false) 1 0 * length (chunk_at store k) + length (chunk_bytes (marked_from store marks (k + 1)))
  size_step =
      ap (λ (cs : List Chunk). length (chunk_bytes cs)) (marked_step store marks k l)
      ∙ ap length (bytes-append (marked_at store (get_or marks k false) k) (marked_from store marks (k + 1)))
      ∙ length-append (chunk_bytes (marked_at store (get_or marks k false) k)) (chunk_bytes (marked_from store marks (k + 1)))
      ∙ ap (λ (n : ℕ). n + length (chunk_bytes (marked_from store marks (k + 1)))) (marked-bytes store k (get_or marks k false))
