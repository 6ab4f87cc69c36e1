-- Laws of the clients' counts (request #110): counts added one by one, the counts of lists one after the other, counts by client from counts by keyword,
-- what a good key and counts of 64 bits say. Assumes nothing.
use mathlib.Core.Path.{◌≡◌, refl, sym, ap, ap₂, ◌∙◌}
use mathlib.Core.Bool.{Bool, true, false, cond}
use mathlib.Core.List.{List, [], ◌∷◌, ◌++◌}
use Prim.Native.Nat.{ℕ, zero, suc, ◌+◌, ◌≤◌, ◌<◌}
use native.Mathlib.Nat.{zero-add, add-zero, add_assoc, not-suc-le-zero, le_of_suc-le-suc}
use native.Mathlib.Omega.{arith}
use borrow.Author.Tests.{eqb-true, leb-true, ltb-true}
use lib.Dec.{eqb, leb, ltb}
use lib.ListN.{length, get_or, take}
use lib.Seq.{ext_get_or, get_or-take, length-take-le}
use Rattle.spec.specs.Bytes.{every}
use Rattle.spec.specs.Join.{Occurrence, count_by, counts_by, sums, is_key}
use Rattle.spec.proofs.Tests.{and_left, and_right}
use Rattle.spec.proofs.FileLaws.{every-at}
use Rattle.spec.proofs.Sums.{sum_up, sum_same, sum-none, sum-add, sum-single}
use Rattle.spec.proofs.Tabulated.{length-tabulated, tabulated-at}

-- ---- counts added one by one

pub length-sums : (l m : List ℕ) → length (sums l m) ≡ length l
length-sums [] m = refl
length-sums (x ∷ l) [] = refl
length-sums (x ∷ l) (y ∷ m) = ap suc (length-sums l m)

-- what is missing in the second counts as 0
pub sums_at : (l m : List ℕ) (c : ℕ) → c < length l → get_or (sums l m) c 0 ≡ get_or l c 0 + get_or m c 0
sums_at [] m c h = absurd (not-suc-le-zero h)
sums_at (x ∷ l) [] c h = sym (add-zero (get_or (x ∷ l) c 0))
sums_at (x ∷ l) (y ∷ m) zero h = refl
sums_at (x ∷ l) (y ∷ m) (suc c) h = sums_at l m c (le_of_suc-le-suc h)

pub sums-ext : (l m o : List ℕ) → ((c : ℕ) → c < length l → get_or m c 0 ≡ get_or o c 0) → sums l m ≡ sums l o
sums-ext l m o h =
    ext_get_or 0 (sums l m) (sums l o) (length-sums l m ∙ sym (length-sums l o)) (λ c u.
    let v : c < length l = omega (arith, length-sums l m) in
    sums_at l m c v ∙ ap (λ (n : ℕ). get_or l c 0 + n) (h c v) ∙ sym (sums_at l o c v))

pub sums-assoc : (l m o : List ℕ) → length l ≤ length m → sums (sums l m) o ≡ sums l (sums m o)
sums-assoc l m o e =
    ext_get_or 0 (sums (sums l m) o) (sums l (sums m o)) (length-sums (sums l m) o ∙ length-sums l m ∙ sym (length-sums l (sums m o))) (λ c u.
    let v : c < length l = omega (arith, length-sums (sums l m) o, length-sums l m) in
    sums_at (sums l m) o c (omega (arith, length-sums l m))
    ∙ ap (λ (n : ℕ). n + get_or o c 0) (sums_at l m c v)
    ∙ add_assoc (get_or l c 0) (get_or m c 0) (get_or o c 0)
    ∙ ap (λ (n : ℕ). get_or l c 0 + n) (sym (sums_at m o c (omega arith)))
    ∙ sym (sums_at l (sums m o) c v))

-- ---- counts by any number of the keywords

module _ (number : ℕ → ℕ) where
  pub length-counts : (m : ℕ) (list : List Occurrence) → length (counts_by number m list) ≡ m
  unfolding counts_by
  length-counts m list = length-tabulated (λ n. count_by number n list) 0 m

  pub count_at : (m : ℕ) (list : List Occurrence) (n : ℕ) → n < m → get_or (counts_by number m list) n 0 ≡ count_by number n list
  unfolding counts_by
  count_at m list n h = tabulated-at (λ n. count_by number n list) 0 m n 0 h ∙ ap (λ (x : ℕ). count_by number x list) (zero-add n)

  pub count_none : (n : ℕ) → count_by number n [] ≡ 0
  unfolding count_by
  count_none n = refl

  pub count-append : (n : ℕ) (l m : List Occurrence) → count_by number n (l ++ m) ≡ count_by number n l + count_by number n m
  unfolding count_by
  count-append n [] m = sym (zero-add (count_by number n m))
  count-append n (o ∷ l) m =
      ap (λ (x : ℕ). cond (eqb (number o.keyword) n) 1 0 + x) (count-append n l m)
      ∙ sym (add_assoc (cond (eqb (number o.keyword) n) 1 0) (count_by number n l) (count_by number n m))

  pub counts-append : (k : ℕ) (l m : List Occurrence) → counts_by number k (l ++ m) ≡ sums (counts_by number k l) (counts_by number k m)
  counts-append k l m =
      ext_get_or 0 (counts_by number k (l ++ m)) (sums (counts_by number k l) (counts_by number k m))
      (length-counts k (l ++ m) ∙ sym (length-sums (counts_by number k l) (counts_by number k m) ∙ length-counts k l)) (λ c u.
      let v : c < k = omega (arith, length-counts k (l ++ m)) in
      count_at k (l ++ m) c v
      ∙ count-append c l m
      ∙ ap₂ (λ (x y : ℕ). x + y) (sym (count_at k l c v)) (sym (count_at k m c v))
      ∙ sym (sums_at (counts_by number k l) (counts_by number k m) c (omega (arith, length-counts k l))))

  -- no list has more of a number than occurrences
  cond-most : (b : Bool) → cond b 1 0 ≤ 1
  cond-most true = omega arith
  cond-most false = omega arith

  pub count_most : (n : ℕ) (list : List Occurrence) → count_by number n list ≤ length list
  unfolding count_by
  count_most n [] = omega arith
  count_most n (o ∷ rest) = omega (arith, cond-most (eqb (number o.keyword) n), count_most n rest)

-- ---- counts by client from counts by keyword

cond-add : (b : Bool) (x y : ℕ) → cond b (x + y) 0 ≡ cond b x 0 + cond b y 0
cond-add true x y = refl
cond-add false x y = refl

cond_same : (b : Bool) (x : ℕ) → cond b x x ≡ x
cond_same true x = refl
cond_same false x = refl

cond-swap : (a b : Bool) (x y : ℕ) → cond a (cond b x y) y ≡ cond b (cond a x y) y
cond-swap true true x y = refl
cond-swap true false x y = refl
cond-swap false true x y = refl
cond-swap false false x y = refl

-- a keyword's occurrences have its number: each number's count is the sum of the counts of its keywords
pub grouped : (number : ℕ → ℕ) (n m : ℕ) (list : List Occurrence) → every (λ o. ltb o.keyword m) list ≡ true
    → count_by number n list ≡ sum_up (λ k. cond (eqb (number k) n) (count_by (λ j. j) k list) 0) 0 m
unfolding count_by
grouped number n m [] h = sym (sum_same _ (λ k. 0) 0 m (λ k u v. cond_same (eqb (number k) n) 0) ∙ sum-none 0 m)
grouped number n m (o ∷ rest) h =
    ap₂ (λ (x y : ℕ). x + y)
    (sym (sum-single (λ k. cond (eqb (number k) n) 1 0) o.keyword 0 m (omega arith)
    (omega (arith, ltb-true o.keyword m (and_left (ltb o.keyword m) (every (λ o. ltb o.keyword m) rest) h)))))
    (grouped number n m rest (and_right (ltb o.keyword m) (every (λ o. ltb o.keyword m) rest) h))
    ∙ sym (sum-add _ _ 0 m)
    ∙ sum_same _ _ 0 m (λ k u v. ap (λ (x : ℕ). x + cond (eqb (number k) n) (count_by (λ j. j) k rest) 0) (cond-swap (eqb o.keyword k) (eqb (number k) n) 1 0)
    ∙ sym (cond-add (eqb (number k) n) (cond (eqb o.keyword k) 1 0) (count_by (λ j. j) k rest)))

-- ---- a good key, and counts of 64 bits

pub key-length : (keywords : ℕ) (key : List ℕ) → is_key keywords key ≡ true → length key ≡ 16
unfolding is_key
key-length keywords key g = eqb-true (length key) 16 (and_left (eqb (length key) 16) (every (λ client. leb client 3) (take keywords key)) g)

pub key-client : (keywords : ℕ) (key : List ℕ) → is_key keywords key ≡ true → keywords ≤ 16 → (k : ℕ) → k < keywords → get_or key k 0 < 4
unfolding is_key
key-client keywords key g f k l =
    let n : length key ≡ 16 = key-length keywords key g in
    let t = and_right (eqb (length key) 16) (every (λ client. leb client 3) (take keywords key)) g in
    let long : length (take keywords key) ≡ keywords = length-take-le keywords key (omega arith) in
    let a = every-at (λ client. leb client 3) (take keywords key) k 0 t (omega arith) in
    omega (arith, leb-true (get_or key k 0) 3 (sym (ap (λ (c : ℕ). leb c 3) (get_or-take keywords key k 0 l)) ∙ a))
