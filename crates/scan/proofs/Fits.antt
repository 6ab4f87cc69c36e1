-- The bound by which a scan writes in one walk. The idea: of a store within 32 bits the bound is a number of 64 bits, of a longer one it is beyond 32;
-- and an index is never longer than its bound. Assumes nothing.
use mathlib.Core.Path.{◌≡◌, sym, ap₂, ◌∙◌}
use mathlib.Core.Bool.{Bool, true, false, ◌&&◌, and-false}
use mathlib.Core.List.{List}
use Prim.Native.Nat.{ℕ, ◌+◌, ◌*◌, ◌≤◌, ◌<◌}
use native.Mathlib.Nat.{mul-le-mul_right}
use native.Mathlib.Omega.{arith}
use mir.Syntax.{w64}
use mir.Val.{Fits}
use lib.ListN.{length}
use lib.Dec.{leb}
use borrow.Author.Tests.{le-leb, lt-leb, leb-true}
use Rattle.spec.specs.Form.{newest}
use Rattle.spec.specs.Scan.{scan_index}
use Rattle.spec.proofs.StoreLaws.{store-good}
use Rattle.spec.proofs.Tests.{le-of-and, and_right}
use Rattle.keywords.specs.declared.Keywords.{Keywords}
use Rattle.keywords.proofs.Reading.{parsed}
use Rattle.index_writer.specs.Layout.{bodies_from, Walks}
use Rattle.scan.specs.Answers.{most_bytes}
use Rattle.index_writer.proofs.Parts.{index-length, bodies-most}
use Rattle.scan.proofs.Bound.{index-most}

module _ {list : List ℕ} {words : Keywords} {store : List ℕ} {count : ℕ} (w : Walks list words store count) where
  pub count-few : count ≤ 65000
  count-few = omega (arith, w.counted, (store-good store w.checked).few)

  -- what one keyword can take of the bound, and all of them
  module _ (short : length store ≤ 4294967295) where
    pub share-few : 17 * count + 3 * length store ≤ 17 * 65000 + 3 * 4294967295
    share-few = omega (arith, count-few, short)

    pub shares-few : words.count * (17 * count + 3 * length store) ≤ 16 * (17 * 65000 + 3 * 4294967295)
    shares-few =
        let few : words.count * (17 * count + 3 * length store) ≤ 16 * (17 * count + 3 * length store) =
        mul-le-mul_right (17 * count + 3 * length store) (parsed list words w.reads).few in
        omega (arith, few, share-few)

  pub most-is : 8 + length list + 32 * count + words.count * (17 * count + 3 * length store) ≡ most_bytes list store
  unfolding most_bytes
  most-is =
      ap₂ {C = ℕ} (λ n k. 8 + length list + 32 * n + k * (17 * n + 3 * length store)) w.counted (parsed list words w.reads).counts

  -- the bound of a longer store is beyond 32 bits
  pub fits-never : 4294967295 < length store → (room : ℕ) → false ≡ (leb (most_bytes list store) room && leb (most_bytes list store) 4294967295)
  fits-never h room =
      let one : 1 * (17 * count + 3 * length store) ≤ words.count * (17 * count + 3 * length store) =
      mul-le-mul_right (17 * count + 3 * length store) (parsed list words w.reads).nonempty in
      sym (rw (lt-leb (most_bytes list store) 4294967295 (omega (arith, one, most-is)), and-false))

  -- the comparison, by the way taken
  module _ (most room : ℕ) (e : most ≡ most_bytes list store) where
    pub fits_not : room < most → leb most room ≡ (leb (most_bytes list store) room && leb (most_bytes list store) 4294967295)
    fits_not h = rw (← e, lt-leb most room h)

    pub fits-so : most ≤ room → leb most 4294967295 ≡ (leb (most_bytes list store) room && leb (most_bytes list store) 4294967295)
    fits-so h = sym (rw (← e, le-leb most room h))

  -- where it says so, the index fits
  pub index-fits : (room : ℕ) (b : Bool) → b ≡ (leb (most_bytes list store) room && leb (most_bytes list store) 4294967295) → b ≡ true
      → (length (scan_index newest list store) ≤ room) × (length (scan_index newest list store) ≤ 4294967295)
  index-fits room b e t =
      let both = sym e ∙ t in
      let first = le-of-and (most_bytes list store) room (leb (most_bytes list store) 4294967295) both in
      let second = leb-true (most_bytes list store) 4294967295 (and_right (leb (most_bytes list store) room) _ both) in
      let most = index-most list store w.checked words w.reads (parsed list words w.reads).counts in
      (omega (arith, most, first), omega (arith, most, second))

  -- ---- what was measured

  module _ (size : ℕ) (e : size ≡ length (bodies_from newest list store 0)) where
    pub size_few : size ≤ 50331920 * 65000
    size_few = omega (arith, e, bodies-most list store w.checked w.reads.accepted, (store-good store w.checked).few)

    -- the code's sum for the index's length is a number of 64 bits; so are its parts, below
    pub whole-fits : length list * 1 < 9223372036854775808 → Fits w64 (8 + length list + 32 * count + size)
    whole-fits short = omega (arith, count-few, size_few)

    pub len_is : 8 + length list + 32 * count + size ≡ length (scan_index newest list store)
    len_is = omega (arith, e, w.counted, index-length list store w.checked)

  pub entries_fit : Fits w64 (32 * count)
  entries_fit = omega (arith, count-few)

  pub directory-fits : length list * 1 < 9223372036854775808 → Fits w64 (8 + length list + 32 * count)
  directory-fits short = omega (arith, count-few)
