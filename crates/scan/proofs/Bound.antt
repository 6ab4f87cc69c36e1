-- The bound by which a scan writes at once. Assumes nothing.
use mathlib.Core.Path.{◌≡◌, ap}
use mathlib.Core.List.{List}
use Prim.Native.Nat.{ℕ, zero, suc, ◌+◌, ◌*◌, ◌-◌, ◌≤◌, ◌<◌}
use native.Mathlib.Nat.{mul-add, mul-le-mul_left}
use native.Mathlib.Numerals.{add-one}
use native.Mathlib.Omega.{arith}
use lib.ListN.{length}
use Rattle.spec.specs.Directory.{directory_end, offset_at}
use Rattle.spec.specs.Store.{store_layout, chunk_count, chunk_at, chunk_end, store_code}
use Rattle.spec.specs.Keywords.{count_of}
use Rattle.spec.specs.Form.{newest}
use Rattle.spec.specs.Scan.{scan_index}
use Rattle.spec.proofs.StoreLaws.{store-good, chunk-length}
use Rattle.records.proofs.BodyLaws.{body-most}
use Rattle.keywords.specs.declared.Keywords.{Keywords}
use Rattle.keywords.specs.Parsed.{Reads}
use Rattle.index_writer.proofs.Parts.{bodies-length, bodies-end, index-length}
use Rattle.index_writer.specs.Layout.{bodies_from}
use Rattle.scan.specs.Answers.{most_bytes}

module _ (list store : List ℕ) (good : store_code store ≡ 0) where
  -- and all of them are not longer than the bound: the chunks lie one after the other in the store, so their lengths together are at most its own
  module _ (words : Keywords) (reads : Reads list words) where
    -- what n chunks from place `at` on can take of it, for one keyword
    abbrev share : ℕ → ℕ → ℕ
    share n at = 17 * n + 3 * (length store - at)

    bodies-share : (n k at : ℕ) → n + k ≡ chunk_count store → (0 < n → at ≤ offset_at store_layout store k)
        → length (bodies_from newest list store k) ≤ words.count * share n at
    bodies-share zero k at e from = omega (arith, ap length (bodies-end newest list store k (omega arith)))
    bodies-share (suc n) k at e from =
        let g = store-good store good in
        let l : k < chunk_count store = omega arith in
        let end = chunk_end store k in
        let next : 0 < n → end ≤ offset_at store_layout store (k + 1) = λ h. rw add-one (g.chunks.next k (omega arith) (omega arith)) in
        let one = body-most list words reads (chunk_at store k) in
        let long = chunk-length store g k l in
        let inside = (g.chunks.within k (omega arith) (omega arith)).1 in
        let split : (17 + 3 * length (chunk_at store k)) + share n end ≤ share (suc n) at = omega (arith, long, inside, from (omega arith)) in
        omega (
          arith,
          bodies-length newest list store k l,
          one,
          bodies-share n (k + 1) end (omega arith) next,
          mul-le-mul_left words.count split,
          mul-add words.count (17 + 3 * length (chunk_at store k)) (share n end),
        )

    pub index-most : words.count ≡ count_of list → length (scan_index newest list store) ≤ most_bytes list store
    unfolding most_bytes
    index-most c =
        let first = directory_end store_layout (chunk_count store) in
        let b = bodies-share (chunk_count store) 0 first (omega arith) (λ h. ((store-good store good).chunks.within 0 (omega arith) (omega arith)).0) in
        let more : words.count * share (chunk_count store) first ≤ words.count * (17 * chunk_count store + 3 * length store) =
        mul-le-mul_left words.count (omega arith) in
        omega (arith, index-length list store good, b, more, ap (λ (x : ℕ). x * (17 * chunk_count store + 3 * length store)) c)
