-- What the keyword check's 0 gives. One step of the reading (`read_step`) carries it: a length byte n is 1 to 32, n bytes are there, and
-- the rest is read the same way. Assumes nothing.
use mathlib.Core.Path.{◌≡◌, refl, ap}
use mathlib.Core.Bool.{false, ◌||◌}
use mathlib.Core.List.{List, [], ◌∷◌, map}
use Prim.Native.Nat.{ℕ, zero, suc, ◌*◌, ◌≤◌, ◌<◌}
use native.Mathlib.Omega.{arith}
use borrow.Author.Tests.{ltb-false, eqb-false}
use lib.Dec.{eqb, ltb}
use lib.ListN.{length, drop, get_or, length-drop, length-map, get_or-map}
use lib.Seq.{length-take-le}
use Rattle.spec.specs.Bytes.{twice, sum}
use Rattle.spec.specs.Keywords.{folded, count_of, flag_of, read_keywords, keywords_size, keywords_of, list_size, folded_keywords, read_code}
use Rattle.spec.specs.Keywords.{header_wrong, keyword_code, keyword_front_code, longest}
use Rattle.spec.proofs.Codes.{passed, passed-whole, all-passed, all-passed-whole, or_left, or_right}
use Rattle.spec.proofs.Folding.{folded-length, lengths-folded}

-- ---- the reading

pub record Step (count n : ℕ) (bytes : List ℕ) : Type 0 where
  pub nonempty : 1 ≤ n
  pub most : n ≤ 32
  pub room : n ≤ length bytes
  pub rest : read_code count (drop n bytes) ≡ 0

pub read_step : (count n : ℕ) (bytes : List ℕ) → read_code (suc count) (n ∷ bytes) ≡ 0 → Step count n bytes
read_step count n bytes e =
    let a = passed _ 3 _ (omega arith) e in
    let b = passed _ 1 _ (omega arith) a.1 in
    let c = passed-whole _ _ b.1 in
    record {
      nonempty = omega (arith, eqb-false n 0 (or_left (eqb n 0) (ltb 32 n) a.0));
      most = ltb-false 32 n (or_right (eqb n 0) (ltb 32 n) a.0);
      room = ltb-false (length bytes) n b.0;
      rest = c.0;
    }

-- an absent length byte
pub read-absent : (count : ℕ) → read_code (suc count) [] ≡ 0 → ⊥
read-absent count e = omega arith

pub read_count : (count : ℕ) (bytes : List ℕ) → read_code count bytes ≡ 0 → length (read_keywords count bytes) ≡ count
read_count zero bytes e = refl
read_count (suc count) [] e = absurd (read-absent count e)
read_count (suc count) (n ∷ bytes) e = ap suc (read_count count (drop n bytes) (read_step count n bytes e).rest)

pub read-room : (count : ℕ) (bytes : List ℕ) → read_code count bytes ≡ 0 → keywords_size count bytes ≤ length bytes
read-room zero bytes e = omega arith
read-room (suc count) [] e = absurd (read-absent count e)
read-room (suc count) (n ∷ bytes) e =
    let s = read_step count n bytes e in
    omega (arith, s.room, read-room count (drop n bytes) s.rest, length-drop n bytes)

pub read-most : (count : ℕ) (bytes : List ℕ) → read_code count bytes ≡ 0 → keywords_size count bytes ≤ 33 * count
read-most zero bytes e = omega arith
read-most (suc count) [] e = absurd (read-absent count e)
read-most (suc count) (n ∷ bytes) e =
    let s = read_step count n bytes e in
    omega (arith, s.most, read-most count (drop n bytes) s.rest)

-- a keyword's length
abbrev pub Proper : List ℕ → Type 0
Proper keyword = (1 ≤ length keyword) × (length keyword ≤ 32)

pub read-proper : (count : ℕ) (bytes : List ℕ) → read_code count bytes ≡ 0 → (k : ℕ) → k < count → Proper (get_or (read_keywords count bytes) k [])
read-proper zero bytes e k h = let z : ⊥ = omega arith in absurd z
read-proper (suc count) [] e k h = absurd (read-absent count e)
read-proper (suc count) (n ∷ bytes) e zero h =
    let s = read_step count n bytes e in
    let l = length-take-le n bytes s.room in
    (omega (arith, s.nonempty), omega (arith, s.most))
read-proper (suc count) (n ∷ bytes) e (suc k) h = read-proper count (drop n bytes) (read_step count n bytes e).rest k (omega arith)

-- ---- an accepted list

pub record Accepted (list : List ℕ) : Type 0 where
  pub header : 2 ≤ length list
  pub nonempty : 1 ≤ count_of list
  pub most : count_of list ≤ 16
  pub flag : flag_of list ≤ 1
  pub count : length (keywords_of list) ≡ count_of list
  pub proper : (k : ℕ) → k < count_of list → Proper (get_or (keywords_of list) k [])
  -- the list ends within the bytes, and is short
  pub size : list_size list ≤ length list
  pub short : list_size list ≤ 530
  pub differ : twice (folded_keywords list) ≡ false
  -- the reading itself, for walks along the bytes
  pub read : read_code (count_of list) (drop 2 list) ≡ 0

pub accepted : (list : List ℕ) → keyword_front_code list ≡ 0 → Accepted list
unfolding keyword_front_code keywords_of list_size
accepted list e =
    let a = passed _ 1 _ (omega arith) e in
    let b = passed _ 2 _ (omega arith) a.1 in
    let c = passed-whole _ _ b.1 in
    let d = passed _ 4 _ (omega arith) c.1 in
    let header = ltb-false (length list) 2 a.0 in
    let counts = or_left (eqb (count_of list) 0 || ltb 16 (count_of list)) (ltb 1 (flag_of list)) b.0 in
    let most = ltb-false 16 (count_of list) (or_right (eqb (count_of list) 0) (ltb 16 (count_of list)) counts) in
    record {
      header = header;
      nonempty = omega (arith, eqb-false (count_of list) 0 (or_left (eqb (count_of list) 0) (ltb 16 (count_of list)) counts));
      most = most;
      flag = ltb-false 1 (flag_of list) (or_right (eqb (count_of list) 0 || ltb 16 (count_of list)) (ltb 1 (flag_of list)) b.0);
      count = read_count (count_of list) (drop 2 list) c.0;
      proper = read-proper (count_of list) (drop 2 list) c.0;
      size = omega (arith, read-room (count_of list) (drop 2 list) c.0, length-drop 2 list);
      short = omega (arith, read-most (count_of list) (drop 2 list) c.0);
      differ = d.0;
      read = c.0;
    }

-- the whole check: the same, and nothing is left over
whole-tests : (list : List ℕ) → keyword_code list ≡ 0
    → (ltb (length list) 2 ≡ false) × (header_wrong list ≡ false) × (read_code (count_of list) (drop 2 list) ≡ 0) × (ltb (list_size list) (length list) ≡ false) × (twice (folded_keywords list) ≡ false)
unfolding keyword_code
whole-tests list e =
    let a = passed _ 1 _ (omega arith) e in
    let b = passed _ 2 _ (omega arith) a.1 in
    let c = passed-whole _ _ b.1 in
    let d = passed _ 1 _ (omega arith) c.1 in
    (a.0, b.0, c.0, d.0, (passed _ 4 _ (omega arith) d.1).0)

pub keyword-front : (list : List ℕ) → keyword_code list ≡ 0 → keyword_front_code list ≡ 0
unfolding keyword_front_code
keyword-front list e = let t = whole-tests list e in all-passed _ _ _ t.0 (all-passed _ _ _ t.1 (all-passed-whole _ _ t.2 (all-passed _ _ _ t.4 refl)))

pub keyword-whole : (list : List ℕ) → keyword_code list ≡ 0 → list_size list ≡ length list
keyword-whole list e = omega (arith, ltb-false (list_size list) (length list) (whole-tests list e).3, (accepted list (keyword-front list e)).size)

-- ---- the keywords as they compare have the same numbers and lengths

pub folded-count : (list : List ℕ) → length (folded_keywords list) ≡ length (keywords_of list)
unfolding folded_keywords
folded-count list = length-map (keywords_of list) (folded (flag_of list))

pub folded-keyword : (list : List ℕ) (k : ℕ) → get_or (folded_keywords list) k [] ≡ folded (flag_of list) (get_or (keywords_of list) k [])
unfolding folded_keywords folded
folded-keyword list k = get_or-map (folded (flag_of list)) (keywords_of list) k []

pub folded-lengths : (list : List ℕ) → map length (folded_keywords list) ≡ map length (keywords_of list)
unfolding folded_keywords
folded-lengths list = lengths-folded (flag_of list) (keywords_of list)

pub folded-proper : (list : List ℕ) → keyword_front_code list ≡ 0 → (k : ℕ) → k < count_of list → Proper (get_or (folded_keywords list) k [])
folded-proper list e k h = rw (folded-keyword list k, folded-length) ((accepted list e).proper k h)

-- ---- the longest keyword

pub longest-most : (keywords : List (List ℕ)) (m : ℕ) → ((k : ℕ) → k < length keywords → length (get_or keywords k []) ≤ m) → longest keywords ≤ m
longest-most [] m h = omega arith
longest-most (w ∷ ws) m h = omega (arith, h 0 (omega arith), longest-most ws m (λ k l. h (suc k) (omega arith)))

-- keywords of at most 32 bytes have at most 32 times as many bytes as they are
pub sum-most : (keywords : List (List ℕ)) → longest keywords ≤ 32 → sum (map length keywords) ≤ 32 * length keywords
sum-most [] h = omega arith
sum-most (w ∷ ws) h = omega (arith, sum-most ws (omega arith))
