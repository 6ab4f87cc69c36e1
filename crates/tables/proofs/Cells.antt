-- A cell by comparisons of parts of the keyword, and its set by going through the starts; then what the arrays hold. Assumes nothing.
use mathlib.Core.Path.{◌≡◌, sym, ap, ◌∙◌}
use mathlib.Core.Bool.{Bool, false, ◌&&◌, and_comm, and-false}
use mathlib.Core.List.{List, []}
use Prim.Native.Nat.{ℕ, zero, suc, ◌+◌, ◌-◌, ◌≤◌, ◌<◌}
use native.Mathlib.Nat.{add-sub_cancel_left, zero-mul, zero-add}
use native.Mathlib.Omega.{arith}
use borrow.Author.Tests.{lt-ltb, le-ltb}
use lib.ListN.{length, take, drop, get_or, replicate, length-drop, get_or-eq_default}
use lib.Seq.{take_all}
use Rattle.spec.specs.Bytes.{begins, occurs_at}
use Rattle.spec.specs.Keywords.{folded, folded_keywords}
use Rattle.spec.specs.Table.{in_cell, set_of}
use Rattle.spec.specs.Join.{crosses, starts, keyword_at}
use Rattle.spec.proofs.Tests.{leb-true}
use Rattle.spec.proofs.Tabulated.{length-tabulated, tabulated-at}
use Rattle.spec.proofs.Folding.{folded-take, folded-drop, folded-length}
use Rattle.spec.proofs.Point.{crosses-split}
use Rattle.spec.proofs.Stream.{cell-edge}
use Rattle.spec.proofs.KeywordLaws.{accepted, folded-count, folded-keyword}
use Rattle.keywords.specs.declared.Keywords.{Keywords}
use Rattle.keywords.specs.Parsed.{Reads, Parsed}
use Rattle.keywords.proofs.Reading.{parsed}
use Rattle.tables.specs.Tabled.{cell_set, cell_in, cells_of, table_of, tables_of, cell_at}

-- ---- one start

cell-split : (w : List ℕ) (i j s : ℕ) → i ≤ length w → s < i
    → in_cell w i j s ≡ (begins (take (i - s) w) (drop s (take i w)) && begins (drop (i - s) w) (drop (length w - j) w))
unfolding crosses starts
cell-split w i j s h l =
    let e : i - (i - s) ≡ s = omega arith in
    let c = crosses-split w i j (i - s) h in
    rw (leb-true (i - s) i (omega arith), e) at c

module _ (flag : ℕ) (word : List ℕ) (i j s : ℕ) (hi : i < length word) (hj : j < length word) (hs : s < i) where
  tail-part : (a : ℕ) → folded flag (take (length word - a) (drop a word)) ≡ drop a (folded flag word)
  tail-part a =
      let l : length (drop a word) ≤ length word - a = omega (arith, length-drop a word) in
      rw (take_all, folded-drop)

  pub in-cell-parts : in_cell (folded flag word) i j s
      ≡ (occurs_at (folded flag (take (length word - (i - s)) (drop (i - s) word)))
      (folded flag (take (length word - (length word - j)) (drop (length word - j) word))) 0
      && occurs_at (folded flag (take (i - s) word)) (folded flag (take i word)) s)
  in-cell-parts =
      let w = folded flag word in
      let l : i ≤ length w = rw folded-length (omega arith) in
      let front = begins (take (i - s) w) (drop s (take i w)) in
      let back = begins (drop (i - s) w) (drop (length word - j) w) in
      cell-split w i j s l hs
      ∙ rw (tail-part (i - s), tail-part (length word - j), folded-take, folded-take, folded-length) (and_comm front back)

-- ---- the set

-- numbers that do not pass add nothing
set_beyond : (t : ℕ → Bool) (m d : ℕ) → ((s : ℕ) → m ≤ s → t s ≡ false) → set_of t (d + m) ≡ set_of t m
set_beyond t m zero h = rw zero-add
set_beyond t m (suc d) h = let e : suc d + m ≡ suc (d + m) = omega arith in rw (e, h (d + m) (omega arith), zero-mul, zero-add) (set_beyond t m d h)

-- the keyword has room for the starts below i + j - n + 1 only
pub cell-ends : (flag : ℕ) (word : List ℕ) (i j m : ℕ) → j < length word → m ≤ i → i + j < m + length word
    → set_of (in_cell (folded flag word) i j) m ≡ cell_set (folded flag word) i j
unfolding cell_set
cell-ends flag word i j m hj l h =
    let w = folded flag word in
    let n = folded-length flag word in
    let e : i - m + m ≡ i = omega arith in
    sym (set_beyond (in_cell w i j) m (i - m) (λ s u. cell-edge w i j s (omega (arith, n)) (omega (arith, n))))
    ∙ ap (set_of (in_cell w i j)) e

-- ---- the elements of the arrays

module _ (keyword : List ℕ) where
  pub length-cells : (i : ℕ) → length (cells_of keyword i) ≡ 32
  unfolding cells_of
  length-cells i = length-tabulated (cell_in keyword i) 0 32

  pub length-table : length (table_of keyword) ≡ 32
  unfolding table_of
  length-table = length-tabulated (cells_of keyword) 0 32

  cells_at : (i j : ℕ) → j < 32 → get_or (cells_of keyword i) j 0 ≡ cell_in keyword i j
  unfolding cells_of
  cells_at i j h = tabulated-at (cell_in keyword i) 0 32 j 0 h ∙ rw zero-add

  pub row_at : (i : ℕ) (d : List ℕ) → i < 32 → get_or (table_of keyword) i d ≡ cells_of keyword i
  unfolding table_of
  row_at i d h = tabulated-at (cells_of keyword) 0 32 i d h ∙ rw zero-add

  -- within the keyword's length, and behind it
  pub cell-inside : (i j : ℕ) → i < length keyword → j < length keyword → length keyword ≤ 32 → get_or (cells_of keyword i) j 0 ≡ cell_set keyword i j
  unfolding cell_in
  cell-inside i j h l n = cells_at i j (omega arith) ∙ rw (lt-ltb i (length keyword) h, lt-ltb j (length keyword) l)

  pub cell-behind : (i j : ℕ) → length keyword ≤ j → j < 32 → get_or (cells_of keyword i) j 0 ≡ 0
  unfolding cell_in
  cell-behind i j h l = cells_at i j l ∙ rw (le-ltb j (length keyword) h, and-false)

  pub row-behind : (i : ℕ) → length keyword ≤ i → i < 32 → get_or (table_of keyword) i (replicate 32 0) ≡ replicate 32 0
  unfolding cells_of cell_in
  row-behind i h l = row_at i (replicate 32 0) l ∙ rw (le-ltb i (length keyword) h)

module _ (keywords : List (List ℕ)) where
  pub length-tables : length (tables_of keywords) ≡ 16
  unfolding tables_of
  length-tables = length-tabulated (λ k. table_of (keyword_at keywords k)) 0 16

  pub table_at : (k : ℕ) (d : List (List ℕ)) → k < 16 → get_or (tables_of keywords) k d ≡ table_of (keyword_at keywords k)
  unfolding tables_of
  table_at k d h = tabulated-at (λ m. table_of (keyword_at keywords m)) 0 16 k d h ∙ rw zero-add

  pub table-behind : (k : ℕ) → length keywords ≤ k → k < 16 → get_or (tables_of keywords) k (replicate 32 (replicate 32 0)) ≡ replicate 32 (replicate 32 0)
  unfolding table_of cells_of cell_in
  table-behind k h l = table_at k (replicate 32 (replicate 32 0)) l ∙ rw (get_or-eq_default keywords [] h)

  -- what callers read
  pub cell-at : (tables : List (List (List ℕ))) → tables ≡ tables_of keywords → (k i j : ℕ) → k < 16 → length (keyword_at keywords k) ≤ 32
      → i < length (keyword_at keywords k) → j < length (keyword_at keywords k) → cell_at tables k i j ≡ cell_set (keyword_at keywords k) i j
  cell-at tables e k i j h n l m =
      rw (e, table_at k [] h, row_at (keyword_at keywords k) i [] (omega arith)) (cell-inside (keyword_at keywords k) i j l m n)

-- ---- the keywords of a list

module _ (list : List ℕ) (words : Keywords) (r : Reads list words) where
  read : Parsed list words
  read = parsed list words r

  pub words-few : words.count ≤ 16
  words-few = read.few

  pub words-all : length (folded_keywords list) ≡ words.count
  words-all = folded-count list ∙ (accepted list r.accepted).count ∙ sym read.counts

  pub placed-room : (k : ℕ) → k < words.count → get_or words.start k 0 + get_or words.len k 0 ≤ length list
  placed-room k h = omega (arith, (read.placed k h).room, read.ends, read.room)

  pub placed-most : (k : ℕ) → k < words.count → get_or words.len k 0 ≤ 32
  placed-most k h = (read.placed k h).most

  -- the keyword as the code hands it on, a slice of the list
  slice_is : (k : ℕ) → k < words.count
      → let at = get_or words.start k 0 in
      folded words.flag (take (at + get_or words.len k 0 - at) (drop at list)) ≡ keyword_at (folded_keywords list) k
  slice_is k h = rw (add-sub_cancel_left, read.flags, (read.placed k h).bytes) (sym (folded-keyword list k))

  -- its table is the one at k
  pub table_is : (k : ℕ) → k < words.count → k < 16 → (table : List (List ℕ))
      → let at = get_or words.start k 0 in
      table ≡ table_of (folded words.flag (take (at + get_or words.len k 0 - at) (drop at list)))
      → table ≡ get_or (tables_of (folded_keywords list)) k (replicate 32 (replicate 32 0))
  table_is k h l table e = e ∙ ap table_of (slice_is k h) ∙ sym (table_at (folded_keywords list) k (replicate 32 (replicate 32 0)) l)
