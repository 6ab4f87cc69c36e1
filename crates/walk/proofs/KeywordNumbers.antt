-- The keyword numbers of a file's occurrences: they do not hang on the file's number, nor on where the file starts, and they are below the number of
-- keywords. Assumes nothing.
use mathlib.Core.Path.{◌≡◌, refl, sym, ap, ap₂, ◌∙◌}
use mathlib.Core.Bool.{Bool, true, false, cond, ◌&&◌}
use mathlib.Core.List.{List, [], ◌∷◌, ◌++◌, map, map-append}
use Prim.Native.Nat.{ℕ, zero, suc, ◌+◌, ◌≤◌, ◌<◌}
use native.Mathlib.Omega.{arith}
use borrow.Author.Tests.{lt-ltb}
use lib.ListN.{length, length-map}
use lib.Dec.{eqb, ltb}
use Rattle.spec.specs.Bytes.{each, keep, every, sum}
use Rattle.spec.specs.Keywords.{folded_keywords}
use Rattle.spec.specs.Form.{Form, form_of}
use Rattle.spec.specs.Records.{ChunkRecords}
use Rattle.spec.specs.Index.{list_in, index_code}
use Rattle.spec.specs.Opened.{opened_of}
use Rattle.spec.specs.Join.{Occurrence, occurrences_at, listed, join_from, join_files, join_list, count_by, counts_by}
use Rattle.spec.proofs.Tests.{and_left, and_right}
use Rattle.spec.proofs.Each.{each-match}
use Rattle.spec.proofs.Tabulated.{tabulated-same}
use Rattle.walk.specs.Walking.{chunks_in, file_list, keyword_counts, Checked}
use Rattle.walk.proofs.Entries.{keywords-count, few}

-- ---- whatever the file's number, and wherever it starts

abbrev numbers_in : List Occurrence → List ℕ
numbers_in list = map (λ o. o.keyword) list

numbers_keep : (b : Bool) (o : Occurrence) → numbers_in (keep b o) ≡ keep b o.keyword
numbers_keep true o = refl
numbers_keep false o = refl

numbers-each : (f : ℕ → List Occurrence) (a n : ℕ) → numbers_in (each f a n) ≡ each (λ p. numbers_in (f p)) a n
numbers-each f a zero = refl
numbers-each f a (suc n) =
    map-append (λ o. o.keyword) (f a) (each f (suc a) n) ∙ ap {B = List ℕ} (λ (l : List ℕ). numbers_in (f a) ++ l) (numbers-each f (suc a) n)

numbers-at : (file count offset : ℕ) (t : ℕ → Bool) → numbers_in (occurrences_at file count t offset) ≡ each (λ k. keep (t k) k) 0 count
unfolding occurrences_at
numbers-at file count offset t = numbers-each _ 0 count ∙ each-match _ _ 0 0 count (λ k l. numbers_keep (t (0 + k)) _)

numbers-join : (keywords : List (List ℕ)) (chunks : List ChunkRecords) (file base file' base' : ℕ)
    → numbers_in (join_from file keywords base chunks) ≡ numbers_in (join_from file' keywords base' chunks)
unfolding join_from
numbers-join keywords [] file base file' base' = refl
numbers-join keywords (here ∷ rest) file base file' base' =
    let at : ℕ → ℕ → ℕ → List Occurrence = λ file base at. occurrences_at file (length keywords) (listed keywords here rest at) (base + at) in
    map-append (λ o. o.keyword) (each (at file base) 0 here.size) (join_from file keywords (base + here.size) rest)
    ∙ ap₂ {C = List ℕ} (λ (l m : List ℕ). l ++ m)
    (numbers-each (at file base) 0 here.size
    ∙ each-match _ _ 0 0 here.size (λ p l.
    numbers-at file (length keywords) (base + (0 + p)) (listed keywords here rest (0 + p))
    ∙ sym (numbers-at file' (length keywords) (base' + (0 + p)) (listed keywords here rest (0 + p))))
    ∙ sym (numbers-each (at file' base') 0 here.size))
    (numbers-join keywords rest file (base + here.size) file' (base' + here.size))
    ∙ sym (map-append (λ o. o.keyword) (each (at file' base') 0 here.size) (join_from file' keywords (base' + here.size) rest))

pub join-length : (keywords : List (List ℕ)) (chunks : List ChunkRecords) (file base file' base' : ℕ)
    → length (join_from file keywords base chunks) ≡ length (join_from file' keywords base' chunks)
join-length keywords chunks file base file' base' =
    sym (length-map (join_from file keywords base chunks) (λ o. o.keyword))
    ∙ ap length (numbers-join keywords chunks file base file' base')
    ∙ length-map (join_from file' keywords base' chunks) (λ o. o.keyword)

-- a count asks for the keyword numbers only
count-numbers : (number : ℕ → ℕ) (n : ℕ) (list : List Occurrence)
    → count_by number n list ≡ sum (map (λ k. cond (eqb (number k) n) 1 0) (numbers_in list))
unfolding count_by
count-numbers number n [] = refl
count-numbers number n (o ∷ rest) = ap (λ (x : ℕ). cond (eqb (number o.keyword) n) 1 0 + x) (count-numbers number n rest)

pub join-counts : (number : ℕ → ℕ) (m : ℕ) (keywords : List (List ℕ)) (chunks : List ChunkRecords) (file base file' base' : ℕ)
    → counts_by number m (join_from file keywords base chunks) ≡ counts_by number m (join_from file' keywords base' chunks)
unfolding counts_by
join-counts number m keywords chunks file base file' base' =
    tabulated-same _ _ m (λ n l.
    count-numbers number n (join_from file keywords base chunks)
    ∙ ap (λ (ks : List ℕ). sum (map (λ k. cond (eqb (number k) n) 1 0) ks)) (numbers-join keywords chunks file base file' base')
    ∙ sym (count-numbers number n (join_from file' keywords base' chunks)))

-- HOW MANY OCCURRENCES EACH KEYWORD HAS IN A FILE DOES NOT HANG ON THE FILE'S NUMBER
pub keywords-any : (index file : List ℕ) (number : ℕ) → keyword_counts (file_list number index file) ≡ keyword_counts (file_list 0 index file)
keywords-any index file number = join-counts (λ k. k) 16 (folded_keywords (list_in index)) (chunks_in index file) number 0 0 0

-- ---- no number is too large

module _ (most : ℕ) where
  abbrev fine : Occurrence → Bool
  fine o = ltb o.keyword most

  every-keep : (b : Bool) (o : Occurrence) → fine o ≡ true → every fine (keep b o) ≡ true
  every-keep true o h = ap (λ (t : Bool). t && true) h
  every-keep false o h = refl

  every_append : (l m : List Occurrence) → every fine l ≡ true → every fine m ≡ true → every fine (l ++ m) ≡ true
  every_append [] m g h = h
  every_append (o ∷ l) m g h =
      ap₂ (λ (a b : Bool). a && b) (and_left (fine o) (every fine l) g) (every_append l m (and_right (fine o) (every fine l) g) h)

  every-each : (f : ℕ → List Occurrence) (a n : ℕ) → ((p : ℕ) → p < a + n → every fine (f p) ≡ true) → every fine (each f a n) ≡ true
  every-each f a zero h = refl
  every-each f a (suc n) h = every_append (f a) (each f (suc a) n) (h a (omega arith)) (every-each f (suc a) n (λ p l. h p (omega arith)))

  below_at : (file count offset : ℕ) (t : ℕ → Bool) → count ≤ most → every fine (occurrences_at file count t offset) ≡ true
  unfolding occurrences_at
  below_at file count offset t l = every-each _ 0 count (λ k u. every-keep (t k) _ (lt-ltb k most (omega arith)))

  module _ (keywords : List (List ℕ)) (l : length keywords ≤ most) where
    below-join : (file base : ℕ) (chunks : List ChunkRecords) → every fine (join_from file keywords base chunks) ≡ true
    unfolding join_from
    below-join file base [] = refl
    below-join file base (here ∷ rest) =
        every_append (each (λ at. occurrences_at file (length keywords) (listed keywords here rest at) (base + at)) 0 here.size) _
        (every-each _ 0 here.size (λ at u. below_at file (length keywords) (base + at) (listed keywords here rest at) l))
        (below-join file (base + here.size) rest)

    below-files : (file : ℕ) (files : List (List ChunkRecords)) → every fine (join_files file keywords files) ≡ true
    unfolding join_files
    below-files file [] = refl
    below-files file (chunks ∷ rest) = every_append (join_from file keywords 0 chunks) _ (below-join file 0 chunks) (below-files (suc file) rest)

-- a checked index has at most 16 keywords
pub keywords-most : (index : List ℕ) → index_code (form_of index) index ≡ 0 → length (folded_keywords (list_in index)) ≤ 16
keywords-most index good =
    let d : Checked index (opened_of index) = record { good = good; read = refl } in
    omega (arith, few index (opened_of index) d, keywords-count index (opened_of index) d)

-- EVERY OCCURRENCE OF A JOIN HAS THE NUMBER OF A KEYWORD
pub numbers-below : (f : Form) (index recipes : List ℕ)
    → every (λ o. ltb o.keyword (length (folded_keywords (list_in index)))) (join_list f index recipes) ≡ true
unfolding join_list
numbers-below f index recipes =
    let words : List (List ℕ) = folded_keywords (list_in index) in
    below-files (length words) words (omega arith) 0 _
