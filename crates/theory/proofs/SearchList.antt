-- Theorem 2: the direct search lists every occurrence once, by file, offset and keyword, and nothing else. Its list is ranges inside ranges:
-- the list of one number of a range has that number as one of its parts, so membership goes to one number and the order is the range's. Assumes
-- nothing.
use mathlib.Core.Path.{◌≡◌, refl, sym, ap, ◌∙◌}
use mathlib.Core.Logic.{◌≢◌, ◌⊎◌, inl, inr, ⊎_elim}
use mathlib.Core.Bool.{Bool, true, false, ◌&&◌, ◌||◌, or_assoc, or-false, and-false, and-true, false≢true}
use mathlib.Core.List.{List, [], ◌∷◌, ◌++◌, map}
use Prim.Native.Nat.{ℕ, zero, suc, ◌+◌, ◌-◌, ◌≤◌, ◌<◌}
use native.Mathlib.Nat.{zero-add, eq-or-lt_of_le, not-suc-le-zero}
use native.Mathlib.Omega.{arith}
use lib.ListN.{length, get_or}
use lib.Dec.{eqb, leb, ltb}
use borrow.Author.Tests.{eqb-true, ltb-true, leb-true, lt-ltb, le-ltb, le-leb, lt-leb, ne_eqb}
use Rattle.spec.specs.Bytes.{occurs_at, each, keep}
use Rattle.spec.specs.Keywords.{flag_of, folded, folded_keywords}
use Rattle.spec.specs.Recipes.{files_of}
use Rattle.spec.specs.Form.{Form}
use Rattle.spec.specs.Records.{ChunkRecords}
use Rattle.spec.specs.Index.{list_in}
use Rattle.spec.specs.Join.{Occurrence, keyword_at, occurrences_at, listed, join_from, join_files, file_records, join_list}
use Rattle.spec.specs.Search.{occurrences_in, occurrences_in_all, restored, direct_search}
use Rattle.spec.proofs.Tests.{le-or-lt, ltb-suc, and_left, and_right, eqb_same}
use Rattle.theory.specs.SearchList.{same_occurrence, is_in, lexical, before, in_order, SearchList}

-- ---- the order

lexical-less : (m n : ℕ) (b : Bool) → m < n → lexical m n b ≡ true
lexical-less m n b h = rw (lt-ltb m n h)

lexical-same : (n : ℕ) (b : Bool) → lexical n n b ≡ b
lexical-same n b = rw (le-ltb n n (omega arith), eqb_same n)

lexical-cases : (m n : ℕ) (b : Bool) → lexical m n b ≡ true → (m < n) ⊎ ((m ≡ n) × (b ≡ true))
lexical-cases m n b e = go (le-or-lt (suc m) n)
  where
    go : (suc m ≤ n) ⊎ (n < suc m) → (m < n) ⊎ ((m ≡ n) × (b ≡ true))
    go (inl h) = inl h
    go (inr h) =
        let f : (eqb m n && b) ≡ true = rw (le-ltb m n (omega arith)) at e in
        inr (eqb-true m n (and_left (eqb m n) b f), and_right (eqb m n) b f)

lexical-trans : (m n p : ℕ) (a b c : Bool) → (a ≡ true → b ≡ true → c ≡ true) → lexical m n a ≡ true → lexical n p b ≡ true → lexical m p c ≡ true
lexical-trans m n p a b c h e f = go (lexical-cases m n a e) (lexical-cases n p b f)
  where
    go : (m < n) ⊎ ((m ≡ n) × (a ≡ true)) → (n < p) ⊎ ((n ≡ p) × (b ≡ true)) → lexical m p c ≡ true
    go (inl u) (inl v) = lexical-less m p c (omega arith)
    go (inl u) (inr v) = lexical-less m p c (omega (arith, v.0))
    go (inr u) (inl v) = lexical-less m p c (omega (arith, u.0))
    go (inr u) (inr v) = rw (u.0, v.0) (lexical-same p c ∙ h u.1 v.1)

before-trans : (a b c : Occurrence) → before a b ≡ true → before b c ≡ true → before a c ≡ true
before-trans a b c =
    lexical-trans a.file b.file c.file _ _ _
    (lexical-trans a.offset b.offset c.offset _ _ _
    (λ e f. lt-ltb a.keyword c.keyword (omega (arith, ltb-true a.keyword b.keyword e, ltb-true b.keyword c.keyword f))))

before_self : (a : Occurrence) → before a a ≡ false
before_self a = lexical-same a.file _ ∙ lexical-same a.offset _ ∙ le-ltb a.keyword a.keyword (omega arith)

-- the first of a list in order is before every later one
order-tail : (o : Occurrence) (list : List Occurrence) → in_order (o ∷ list) ≡ true → in_order list ≡ true
order-tail o [] e = refl
order-tail o (p ∷ list) e = and_right (before o p) (in_order (p ∷ list)) e

first-before : (o none : Occurrence) (list : List Occurrence) (j : ℕ) → in_order (o ∷ list) ≡ true → j < length list → before o (get_or list j none) ≡ true
first-before o none [] j e h = absurd (not-suc-le-zero h)
first-before o none (p ∷ list) zero e h = and_left (before o p) (in_order (p ∷ list)) e
first-before o none (p ∷ list) (suc j) e h =
    before-trans o p (get_or list j none) (and_left (before o p) (in_order (p ∷ list)) e) (first-before p none list j (order-tail o (p ∷ list) e) (omega arith))

pub order-once : (list : List Occurrence) → in_order list ≡ true → (i j : ℕ) (none : Occurrence) → i < j → j < length list → get_or list i none ≢ get_or list j none
order-once [] e i j none l h q = absurd (not-suc-le-zero h)
order-once (o ∷ list) e i zero none l h q = absurd (not-suc-le-zero l)
order-once (o ∷ list) e zero (suc j) none l h q =
    false≢true (sym (before_self o) ∙ ap (before o) q ∙ first-before o none list j e (omega arith))
order-once (o ∷ list) e (suc i) (suc j) none l h q = order-once list (order-tail o list e) i j none (omega arith) (omega arith) q

-- ---- members

same-is : (a b : Occurrence) → same_occurrence a b ≡ true → a ≡ b
same-is a b e =
    let x : Bool = eqb a.file b.file in
    let y : Bool = eqb a.offset b.offset in
    let z : Bool = eqb a.keyword b.keyword in
    let f : (x && y) ≡ true = and_left (x && y) z e in
    let p : a.file ≡ b.file = eqb-true a.file b.file (and_left x y f) in
    let q : a.offset ≡ b.offset = eqb-true a.offset b.offset (and_right x y f) in
    let r : a.keyword ≡ b.keyword = eqb-true a.keyword b.keyword (and_right (x && y) z e) in
    λ i. record { file = p i; offset = q i; keyword = r i }

pub same_self : (a : Occurrence) → same_occurrence a a ≡ true
same_self a = rw (eqb_same a.file, eqb_same a.offset, eqb_same a.keyword)

in-append : (o : Occurrence) (s t : List Occurrence) → is_in o (s ++ t) ≡ (is_in o s || is_in o t)
in-append o [] t = refl
in-append o (a ∷ s) t = rw (in-append o s t, or_assoc)

in-keep : (o p : Occurrence) (b : Bool) → is_in o (keep b p) ≡ (b && same_occurrence o p)
in-keep o p true = or-false (same_occurrence o p)
in-keep o p false = refl

-- two lists in order, all of the one before all of the other
order-append : (s t : List Occurrence) → in_order s ≡ true → in_order t ≡ true
    → ((x y : Occurrence) → is_in x s ≡ true → is_in y t ≡ true → before x y ≡ true) → in_order (s ++ t) ≡ true
order-append [] t e f h = f
order-append (x ∷ []) [] e f h = refl
order-append (x ∷ []) (y ∷ t) e f h = rw (h x y (rw (same_self x)) (rw (same_self y)), f)
order-append (x ∷ z ∷ s) t e f h =
    rw (
      and_left (before x z) (in_order (z ∷ s)) e,
      order-append (z ∷ s) t (and_right (before x z) (in_order (z ∷ s)) e) f (λ a b u v. h a b (later (same_occurrence a x) (is_in a (z ∷ s)) u) v),
    )
  where
    later : (a b : Bool) → b ≡ true → (a || b) ≡ true
    later true b u = refl
    later false b u = u

-- ---- a range of lists, each with the range's number as a part of its members

module _ (f : ℕ → List Occurrence) (part : Occurrence → ℕ) (own : (p : ℕ) (o : Occurrence) → is_in o (f p) ≡ true → part o ≡ p) where
  own-not : (p : ℕ) (o : Occurrence) → part o ≢ p → is_in o (f p) ≡ false
  own-not p o h = go (is_in o (f p)) refl
    where
      go : (b : Bool) → is_in o (f p) ≡ b → b ≡ false
      go true e = absurd (h (own p o e))
      go false e = refl

  in-each : (o : Occurrence) (a n : ℕ) → is_in o (each f a n) ≡ (leb a (part o) && ltb (part o) (a + n) && is_in o (f (part o)))
  in-each o a zero = go (le-or-lt a (part o))
    where
      go : (a ≤ part o) ⊎ (part o < a) → false ≡ (leb a (part o) && ltb (part o) (a + 0) && is_in o (f (part o)))
      go (inl h) = rw (le-ltb (part o) (a + 0) (omega arith), and-false)
      go (inr h) = rw (lt-leb a (part o) h)
  in-each o a (suc n) = in-append o (f a) (each f (suc a) n) ∙ rw (in-each o (suc a) n) (go (le-or-lt a (part o)))
    where
      above : (a ≡ part o) ⊎ (a < part o)
          → (is_in o (f a) || (leb (suc a) (part o) && ltb (part o) (suc a + n) && is_in o (f (part o))))
          ≡ (leb a (part o) && ltb (part o) (a + suc n) && is_in o (f (part o)))
      above (inl e) =
          rw (e, lt-leb (suc (part o)) (part o) (omega arith), le-leb (part o) (part o) (omega arith), lt-ltb (part o) (part o + suc n) (omega arith), or-false)
      above (inr h) =
          let q : suc a + n ≡ a + suc n = omega arith in
          rw (own-not a o (λ e. let z : ⊥ = omega arith in absurd z), le-leb a (part o) (omega arith), le-leb (suc a) (part o) h, q)

      go : (a ≤ part o) ⊎ (part o < a)
          → (is_in o (f a) || (leb (suc a) (part o) && ltb (part o) (suc a + n) && is_in o (f (part o))))
          ≡ (leb a (part o) && ltb (part o) (a + suc n) && is_in o (f (part o)))
      go (inl h) = above (eq-or-lt_of_le h)
      go (inr h) = rw (own-not a o (λ e. let z : ⊥ = omega arith in absurd z), lt-leb a (part o) h, lt-leb (suc a) (part o) (omega arith))

  module _ (each-ordered : (p : ℕ) → in_order (f p) ≡ true)
      (apart : (p q : ℕ) (x y : Occurrence) → p < q → is_in x (f p) ≡ true → is_in y (f q) ≡ true → before x y ≡ true) where
    order-each : (a n : ℕ) → in_order (each f a n) ≡ true
    order-each a zero = refl
    order-each a (suc n) =
        order-append (f a) (each f (suc a) n) (each-ordered a) (order-each (suc a) n)
        (λ x y u v.
        let e : (leb (suc a) (part y) && ltb (part y) (suc a + n) && is_in y (f (part y))) ≡ true = sym (in-each y (suc a) n) ∙ v in
        let g : (leb (suc a) (part y) && ltb (part y) (suc a + n)) ≡ true =
        and_left (leb (suc a) (part y) && ltb (part y) (suc a + n)) (is_in y (f (part y))) e in
        apart a (part y) x y (leb-true (suc a) (part y) (and_left (leb (suc a) (part y)) (ltb (part y) (suc a + n)) g)) u
        (and_right (leb (suc a) (part y) && ltb (part y) (suc a + n)) (is_in y (f (part y))) e))

-- ---- the keywords at one offset

shuffle : (k t a b : Bool) → (k && (t && (a && b && true))) ≡ (a && b && (k && t))
shuffle k t true true = rw and-true
shuffle k t true false = rw (and-false, and-false)
shuffle k t false b = rw (and-false, and-false)

lexical-equal : (m n : ℕ) (b : Bool) → m ≡ n → b ≡ true → lexical m n b ≡ true
lexical-equal m n b e f = rw (e, f) (lexical-same n true)

module _ (file count : ℕ) (test : ℕ → Bool) (offset : ℕ) where
  abbrev hit_at : ℕ → Occurrence
  hit_at k = record { file = file; offset = offset; keyword = k }

  hit-is : (k : ℕ) (o : Occurrence) → is_in o (keep (test k) (hit_at k)) ≡ true → o ≡ hit_at k
  hit-is k o e = same-is o (hit_at k) (and_right (test k) (same_occurrence o (hit_at k)) (sym (in-keep o (hit_at k) (test k)) ∙ e))

  in-at : (o : Occurrence) → is_in o (occurrences_at file count test offset)
      ≡ (eqb o.file file && eqb o.offset offset && (ltb o.keyword count && test o.keyword))
  unfolding occurrences_at
  in-at o =
      in-each (λ k. keep (test k) (hit_at k)) (λ x. x.keyword) (λ k x e. ap (λ (y : Occurrence). y.keyword) (hit-is k x e)) o 0 count
      ∙ rw (zero-add, le-leb 0 o.keyword (omega arith), in-keep o (hit_at o.keyword) (test o.keyword), eqb_same o.keyword)
      (shuffle (ltb o.keyword count) (test o.keyword) (eqb o.file file) (eqb o.offset offset))

  order-keep : (b : Bool) (o : Occurrence) → in_order (keep b o) ≡ true
  order-keep true o = refl
  order-keep false o = refl

  order-at : in_order (occurrences_at file count test offset) ≡ true
  unfolding occurrences_at
  order-at =
      order-each (λ k. keep (test k) (hit_at k)) (λ x. x.keyword) (λ k x e. ap (λ (y : Occurrence). y.keyword) (hit-is k x e))
      (λ k. order-keep (test k) (hit_at k))
      (λ p q x y l u v.
      rw (hit-is p x u, hit-is q y v)
      (lexical-equal file file _ refl (lexical-equal offset offset _ refl (lt-ltb p q l))))
      0 count

  hit-file : (o : Occurrence) → is_in o (occurrences_at file count test offset) ≡ true → o.file ≡ file
  hit-file o e =
      eqb-true o.file file
      (and_left (eqb o.file file) (eqb o.offset offset)
      (and_left (eqb o.file file && eqb o.offset offset) (ltb o.keyword count && test o.keyword) (sym (in-at o) ∙ e)))

  hit-offset : (o : Occurrence) → is_in o (occurrences_at file count test offset) ≡ true → o.offset ≡ offset
  hit-offset o e =
      eqb-true o.offset offset
      (and_right (eqb o.file file) (eqb o.offset offset)
      (and_left (eqb o.file file && eqb o.offset offset) (ltb o.keyword count && test o.keyword) (sym (in-at o) ∙ e)))

-- ---- one text

module _ (keywords : List (List ℕ)) where
  -- the tests of an occurrence in a text, but for its file
  abbrev pub in_text : List ℕ → Occurrence → Bool
  in_text text o = ltb o.offset (length text) && (ltb o.keyword (length keywords) && occurs_at (keyword_at keywords o.keyword) text o.offset)

  module _ (file : ℕ) (text : List ℕ) where
    abbrev hits_at : ℕ → List Occurrence
    hits_at at = occurrences_at file (length keywords) (λ k. occurs_at (keyword_at keywords k) text at) at

    at_offset : (p : ℕ) (o : Occurrence) → is_in o (hits_at p) ≡ true → o.offset ≡ p
    at_offset p o e = hit-offset file (length keywords) (λ k. occurs_at (keyword_at keywords k) text p) p o e

    in-file : (p : ℕ) (o : Occurrence) → is_in o (hits_at p) ≡ true → o.file ≡ file
    in-file p o e = hit-file file (length keywords) (λ k. occurs_at (keyword_at keywords k) text p) p o e

    swap : (a b c : Bool) → (a && (b && true && c)) ≡ (b && (a && c))
    swap a true c = refl
    swap a false c = and-false a

    pub in-text : (o : Occurrence) → is_in o (occurrences_in file keywords text) ≡ (eqb o.file file && in_text text o)
    unfolding occurrences_in
    in-text o =
        in-each hits_at (λ x. x.offset) at_offset o 0 (length text)
        ∙ rw (
          zero-add,
          le-leb 0 o.offset (omega arith),
          in-at file (length keywords) (λ k. occurs_at (keyword_at keywords k) text o.offset) o.offset o,
          eqb_same o.offset,
        )
        (swap (ltb o.offset (length text)) (eqb o.file file)
        (ltb o.keyword (length keywords) && occurs_at (keyword_at keywords o.keyword) text o.offset))

    order-text : in_order (occurrences_in file keywords text) ≡ true
    unfolding occurrences_in
    order-text =
        order-each hits_at (λ x. x.offset) at_offset
        (λ p. order-at file (length keywords) (λ k. occurs_at (keyword_at keywords k) text p) p)
        (λ p q x y l u v.
        lexical-equal x.file y.file _ (in-file p x u ∙ sym (in-file q y v))
        (lexical-less x.offset y.offset _ (omega (arith, at_offset p x u, at_offset q y v))))
        0 (length text)

  -- ---- all texts

  in_all : (o : Occurrence) (file : ℕ) (texts : List (List ℕ)) → is_in o (occurrences_in_all file keywords texts)
      ≡ (leb file o.file && (ltb (o.file - file) (length texts) && in_text (get_or texts (o.file - file) []) o))
  unfolding occurrences_in_all
  in_all o file [] = rw (le-ltb (o.file - file) 0 (omega arith), and-false)
  in_all o file (text ∷ rest) =
      in-append o (occurrences_in file keywords text) (occurrences_in_all (suc file) keywords rest)
      ∙ rw (in-text file text o, in_all o (suc file) rest) (go (le-or-lt file o.file))
    where
      above : (file ≡ o.file) ⊎ (file < o.file)
          → (eqb o.file file && in_text text o
          || leb (suc file) o.file && (ltb (o.file - suc file) (length rest) && in_text (get_or rest (o.file - suc file) []) o))
          ≡ (leb file o.file && (ltb (o.file - file) (length (text ∷ rest)) && in_text (get_or (text ∷ rest) (o.file - file) []) o))
      above (inl e) =
          let z : o.file - file ≡ 0 = omega arith in
          rw (
            z,
            lt-leb (suc file) o.file (omega arith),
            le-leb file o.file (omega arith),
            or-false,
            ← e,
            eqb_same,
            lt-ltb 0 (length (text ∷ rest)) (omega arith),
          )
      above (inr h) =
          let z : o.file - file ≡ suc (o.file - suc file) = omega arith in
          rw (
            z,
            le-leb (suc file) o.file h,
            le-leb file o.file (omega arith),
            ne_eqb o.file file (λ e. let y : ⊥ = omega arith in absurd y),
            ltb-suc (o.file - suc file) (length rest),
          )

      go : (file ≤ o.file) ⊎ (o.file < file)
          → (eqb o.file file && in_text text o
          || leb (suc file) o.file && (ltb (o.file - suc file) (length rest) && in_text (get_or rest (o.file - suc file) []) o))
          ≡ (leb file o.file && (ltb (o.file - file) (length (text ∷ rest)) && in_text (get_or (text ∷ rest) (o.file - file) []) o))
      go (inl h) = above (eq-or-lt_of_le h)
      go (inr h) = rw (lt-leb (suc file) o.file (omega arith), lt-leb file o.file h, ne_eqb o.file file (λ e. let y : ⊥ = omega arith in absurd y))

  order-all : (file : ℕ) (texts : List (List ℕ)) → in_order (occurrences_in_all file keywords texts) ≡ true
  unfolding occurrences_in_all
  order-all file [] = refl
  order-all file (text ∷ rest) =
      order-append (occurrences_in file keywords text) (occurrences_in_all (suc file) keywords rest) (order-text file text) (order-all (suc file) rest)
      (λ x y u v.
      let p : x.file ≡ file = eqb-true x.file file (and_left (eqb x.file file) (in_text text x) (sym (in-text file text x) ∙ u)) in
      let q : suc file ≤ y.file =
      leb-true (suc file) y.file
      (and_left (leb (suc file) y.file) (ltb (y.file - suc file) (length rest) && in_text (get_or rest (y.file - suc file) []) y)
      (sym (in_all y (suc file) rest) ∙ v)) in
      lexical-less x.file y.file _ (omega arith))

  flat : (a b c d : Bool) → (a && (b && (c && d))) ≡ (a && b && c && d)
  flat true true c d = refl
  flat true false c d = refl
  flat false b c d = refl

  pub search-list : (texts : List (List ℕ)) → SearchList keywords texts (occurrences_in_all 0 keywords texts)
  search-list texts =
      record {
        exactly =
            λ o.
            let z : o.file - 0 ≡ o.file = omega arith in
            in_all o 0 texts
            ∙ rw (z, le-leb 0 o.file (omega arith))
            (flat (ltb o.file (length texts)) (ltb o.offset (length (get_or texts o.file []))) (ltb o.keyword (length keywords))
            (occurs_at (keyword_at keywords o.keyword) (get_or texts o.file []) o.offset));
        ordered = order-all 0 texts;
        once = order-once (occurrences_in_all 0 keywords texts) (order-all 0 texts);
      }

-- the same of the search that demand 3 speaks of
pub direct-search-list : (list store recipes : List ℕ)
    → SearchList (folded_keywords list) (map (λ file. folded (flag_of list) (restored store file)) (files_of recipes)) (direct_search list store recipes)
unfolding direct_search
direct-search-list list store recipes = search-list (folded_keywords list) (map (λ file. folded (flag_of list) (restored store file)) (files_of recipes))

-- ---- the list of any join, also of records that no chunk gives

either : (a b : Bool) → (a || b) ≡ true → (a ≡ true) ⊎ (b ≡ true)
either true b e = inl refl
either false b e = inr e

module _ (keywords : List (List ℕ)) (file : ℕ) where
  module _ (here : ChunkRecords) (rest : List ChunkRecords) (base : ℕ) where
    abbrev listed_at : ℕ → List Occurrence
    listed_at at = occurrences_at file (length keywords) (listed keywords here rest at) (base + at)

    listed-offset : (p : ℕ) (o : Occurrence) → is_in o (listed_at p) ≡ true → o.offset ≡ base + p
    listed-offset p o e = hit-offset file (length keywords) (listed keywords here rest p) (base + p) o e

    listed-file : (p : ℕ) (o : Occurrence) → is_in o (listed_at p) ≡ true → o.file ≡ file
    listed-file p o e = hit-file file (length keywords) (listed keywords here rest p) (base + p) o e

    own-place : (p : ℕ) (o : Occurrence) → is_in o (listed_at p) ≡ true → o.offset - base ≡ p
    own-place p o e = omega (arith, listed-offset p o e)

    place-ordered : in_order (each listed_at 0 here.size) ≡ true
    place-ordered =
        order-each listed_at (λ x. x.offset - base) own-place
        (λ p. order-at file (length keywords) (listed keywords here rest p) (base + p))
        (λ p q x y l u v.
        lexical-equal x.file y.file _ (listed-file p x u ∙ sym (listed-file q y v))
        (lexical-less x.offset y.offset _ (omega (arith, listed-offset p x u, listed-offset q y v))))
        0 here.size

    place-member : (o : Occurrence) → is_in o (each listed_at 0 here.size) ≡ true → (o.file ≡ file) × (base ≤ o.offset) × (o.offset < base + here.size)
    place-member o e =
        let place : ℕ = o.offset - base in
        let x : Bool = leb 0 place in
        let y : Bool = ltb place (0 + here.size) in
        let z : Bool = is_in o (listed_at place) in
        let a : (x && y && z) ≡ true = sym (in-each listed_at (λ x. x.offset - base) own-place o 0 here.size) ∙ e in
        let b : z ≡ true = and_right (x && y) z a in
        let c : (x && y) ≡ true = and_left (x && y) z a in
        let d : place < 0 + here.size = ltb-true place (0 + here.size) (and_right x y c) in
        let g : o.offset ≡ base + place = listed-offset place o b in
        (listed-file place o b, omega arith, omega arith)

  from_member : (base : ℕ) (chunks : List ChunkRecords) (o : Occurrence) → is_in o (join_from file keywords base chunks) ≡ true
      → (o.file ≡ file) × (base ≤ o.offset)
  unfolding join_from
  from_member base [] o e = absurd (false≢true e)
  from_member base (here ∷ rest) o e =
      ⊎_elim
      (λ (u : is_in o (each (listed_at here rest base) 0 here.size) ≡ true). let m = place-member here rest base o u in (m.0, m.1))
      (λ (v : is_in o (join_from file keywords (base + here.size) rest) ≡ true).
      let m = from_member (base + here.size) rest o v in
      let l : base + here.size ≤ o.offset = m.1 in
      (m.0, omega arith))
      (either (is_in o (each (listed_at here rest base) 0 here.size)) (is_in o (join_from file keywords (base + here.size) rest))
      (sym (in-append o (each (listed_at here rest base) 0 here.size) (join_from file keywords (base + here.size) rest)) ∙ e))

  from-ordered : (base : ℕ) (chunks : List ChunkRecords) → in_order (join_from file keywords base chunks) ≡ true
  unfolding join_from
  from-ordered base [] = refl
  from-ordered base (here ∷ rest) =
      order-append (each (listed_at here rest base) 0 here.size) (join_from file keywords (base + here.size) rest)
      (place-ordered here rest base) (from-ordered (base + here.size) rest)
      (λ x y u v.
      let m = place-member here rest base x u in
      let n = from_member (base + here.size) rest y v in
      lexical-equal x.file y.file _ (m.0 ∙ sym n.0) (lexical-less x.offset y.offset _ (omega (arith, m.2, n.1))))

module _ (keywords : List (List ℕ)) where
  files-member : (file : ℕ) (files : List (List ChunkRecords)) (o : Occurrence) → is_in o (join_files file keywords files) ≡ true → file ≤ o.file
  unfolding join_files
  files-member file [] o e = absurd (false≢true e)
  files-member file (chunks ∷ rest) o e =
      ⊎_elim
      (λ (u : is_in o (join_from file keywords 0 chunks) ≡ true). omega (arith, (from_member keywords file 0 chunks o u).0))
      (λ (v : is_in o (join_files (suc file) keywords rest) ≡ true). omega (arith, files-member (suc file) rest o v))
      (either (is_in o (join_from file keywords 0 chunks)) (is_in o (join_files (suc file) keywords rest))
      (sym (in-append o (join_from file keywords 0 chunks) (join_files (suc file) keywords rest)) ∙ e))

  files-ordered : (file : ℕ) (files : List (List ChunkRecords)) → in_order (join_files file keywords files) ≡ true
  unfolding join_files
  files-ordered file [] = refl
  files-ordered file (chunks ∷ rest) =
      order-append (join_from file keywords 0 chunks) (join_files (suc file) keywords rest) (from-ordered keywords file 0 chunks) (files-ordered (suc file) rest)
      (λ x y u v. lexical-less x.file y.file _ (omega (arith, (from_member keywords file 0 chunks x u).0, files-member (suc file) rest y v)))

-- The list of every join rises by file, offset and keyword; none is there twice.
pub join-list-ordered : (f : Form) (index recipes : List ℕ) → in_order (join_list f index recipes) ≡ true
unfolding join_list
join-list-ordered f index recipes = files-ordered (folded_keywords (list_in index)) 0 (map (file_records f index) (files_of recipes))

pub join-list-once : (f : Form) (index recipes : List ℕ) (i j : ℕ) (none : Occurrence) → i < j → j < length (join_list f index recipes)
    → get_or (join_list f index recipes) i none ≢ get_or (join_list f index recipes) j none
join-list-once f index recipes = order-once (join_list f index recipes) (join-list-ordered f index recipes)
