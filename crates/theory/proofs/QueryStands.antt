-- Request #109 byte by byte: a choice among the occurrences that a direct search of a file lists is one of offsets at which the query's keywords stand
-- in the file, in order. Assumes nothing.
use mathlib.Core.Path.{◌≡◌, refl, sym, ap, ap₂, ◌∙◌}
use mathlib.Core.Logic.{◌↔◌, ◌⊎◌, inl, inr}
use mathlib.Core.Bool.{Bool, true, false, ◌&&◌, ◌||◌, and-true, or-true, false≢true}
use mathlib.Core.List.{List, [], ◌∷◌, map}
use Prim.Native.Nat.{ℕ, suc, ◌+◌, ◌≤◌, ◌<◌}
use native.Mathlib.Omega.{arith}
use lib.ListN
use lib.ListN.{length, get_or, length-map}
use lib.Dec.{eqb, leb, ltb}
use borrow.Author.Tests.{eqb-true, ne_eqb, ltb-true, lt-ltb, le-leb}
use Rattle.spec.specs.Bytes.{occurs_at, every}
use Rattle.spec.specs.Keywords.{flag_of, folded, keywords_of, folded_keywords, keyword_code}
use Rattle.spec.specs.Join.{Occurrence, keyword_at}
use Rattle.spec.specs.Search.{occurrences_in}
use Rattle.spec.specs.Query.{starts_at, is_choice}
use Rattle.spec.proofs.Tests.{bool_cases, and_left, and_right, eqb_same}
use Rattle.spec.proofs.Folding.{folded-length}
use Rattle.spec.proofs.JoinIsSearch.{get_d_map, nonempty-at}
use Rattle.spec.proofs.Choices.{three, choice-bound, choice-starts, choice-rest}
use Rattle.theory.specs.SearchList.{is_in, same_occurrence}
use Rattle.theory.specs.Demands.{StandsAt}
use Rattle.theory.specs.Queries.{StandInOrder}
use Rattle.theory.proofs.SearchList.{in_text, in-text, same_self}
use Rattle.theory.proofs.OccursText.{occurs-text}
use Rattle.theory.proofs.ScanThenJoin.{accepted-none-empty}

-- ---- an occurrence of a file's list

eqb-turned : (m n : ℕ) → eqb m n ≡ eqb n m
eqb-turned m n = go (bool_cases (eqb m n))
  where
    go : (eqb m n ≡ true) ⊎ (eqb m n ≡ false) → eqb m n ≡ eqb n m
    go (inl e) = rw (eqb-true m n e)
    go (inr e) = e ∙ sym (ne_eqb n m (λ q. false≢true (sym e ∙ ap (eqb m) q ∙ eqb_same m)))

turned : (a b : Bool) → (a && b) ≡ (b && a)
turned true b = sym (and-true b)
turned false true = refl
turned false false = refl

starts-in : (file k offset : ℕ) (list : List Occurrence) → ((x : Occurrence) → is_in x list ≡ true → x.file ≡ file)
    → starts_at list k offset ≡ is_in (record { file = file; offset = offset; keyword = k }) list
starts-in file k offset [] own = refl
starts-in file k offset (o ∷ list) own =
    let wanted : Occurrence = record { file = file; offset = offset; keyword = k } in
    let here : (eqb o.keyword k && eqb o.offset offset) ≡ same_occurrence wanted o =
    rw (own o (rw (same_self o)), eqb_same file, eqb-turned o.keyword k, eqb-turned o.offset offset)
    (turned (eqb k o.keyword) (eqb offset o.offset)) in
    ap₂ (λ (x y : Bool). x || y) here
    (starts-in file k offset list (λ x e. own x (rw (e, or-true))))

-- keyword k starts there in the file's list exactly when it occurs there in the file
pub starts-in-text : (keywords : List (List ℕ)) (file k offset : ℕ) (text : List ℕ)
    → starts_at (occurrences_in file keywords text) k offset
    ≡ (ltb offset (length text) && (ltb k (length keywords) && occurs_at (keyword_at keywords k) text offset))
starts-in-text keywords file k offset text =
    starts-in file k offset (occurrences_in file keywords text)
    (λ x e. eqb-true x.file file (and_left (eqb x.file file) (in_text keywords text x) (sym (in-text keywords file text x) ∙ e)))
    ∙ in-text keywords file text (record { file = file; offset = offset; keyword = k })
    ∙ rw eqb_same

-- a choice has an offset for each number of the query
pub choice-count : (lengths : List ℕ) (list : List Occurrence) (from : ℕ) (query offsets : List ℕ) → is_choice lengths list from query offsets ≡ true
    → length offsets ≡ length query
choice-count lengths list from [] [] e = refl
choice-count lengths list from [] (o ∷ offsets) e = absurd (false≢true e)
choice-count lengths list from (k ∷ query) [] e = absurd (false≢true e)
choice-count lengths list from (k ∷ query) (o ∷ offsets) e =
    ap suc (choice-count lengths list (o + get_or lengths k 0) query offsets (choice-rest lengths list from k o query offsets e))

-- the offsets of a choice are below the text's end
pub choice-below : (lengths : List ℕ) (keywords : List (List ℕ)) (file : ℕ) (text : List ℕ) (n from : ℕ) (query offsets : List ℕ) → length text ≤ n
    → is_choice lengths (occurrences_in file keywords text) from query offsets ≡ true → every (λ x. ltb x n) offsets ≡ true
choice-below lengths keywords file text n from [] [] l e = refl
choice-below lengths keywords file text n from [] (o ∷ offsets) l e = absurd (false≢true e)
choice-below lengths keywords file text n from (k ∷ query) [] l e = absurd (false≢true e)
choice-below lengths keywords file text n from (k ∷ query) (o ∷ offsets) l e =
    let list : List Occurrence = occurrences_in file keywords text in
    let s : (ltb o (length text) && (ltb k (length keywords) && occurs_at (keyword_at keywords k) text o)) ≡ true =
    sym (starts-in-text keywords file k o text) ∙ choice-starts lengths list from k o query offsets e in
    let u : o < length text = ltb-true o (length text) (and_left (ltb o (length text)) (ltb k (length keywords) && occurs_at (keyword_at keywords k) text o) s) in
    rw (
      lt-ltb o n (omega arith),
      choice-below lengths keywords file text n (o + get_or lengths k 0) query offsets l (choice-rest lengths list from k o query offsets e),
    )

-- ---- in a file, for a keyword list that is accepted

module _ (list : List ℕ) (accept : keyword_code list ≡ 0) (file : ℕ) (text : List ℕ) where
  abbrev words : List (List ℕ)
  words = keywords_of list

  abbrev found : List Occurrence
  found = occurrences_in file (folded_keywords list) (folded (flag_of list) text)

  counted : length (folded_keywords list) ≡ length words
  unfolding folded_keywords
  counted = length-map words (folded (flag_of list))

  word-is : (k : ℕ) → k < length words → keyword_at (folded_keywords list) k ≡ folded (flag_of list) (keyword_at words k)
  unfolding folded_keywords
  word-is k l = get_d_map (folded (flag_of list)) words k [] [] l

  starts-stands : (k o : ℕ) → k < length words → (starts_at found k o ≡ true) ↔ StandsAt (flag_of list) (keyword_at words k) text o
  starts-stands k o l = (there, back)
    where
      some : 1 ≤ length (keyword_at words k)
      some = nonempty-at words k (accepted-none-empty list accept) l

      there : starts_at found k o ≡ true → StandsAt (flag_of list) (keyword_at words k) text o
      there e =
          let tests = sym (starts-in-text (folded_keywords list) file k o (folded (flag_of list) text)) ∙ e in
          let known : Bool = ltb k (length (folded_keywords list)) in
          let occurs : Bool = occurs_at (keyword_at (folded_keywords list) k) (folded (flag_of list) text) o in
          let s : occurs ≡ true = and_right known occurs (and_right (ltb o (length (folded (flag_of list) text))) (known && occurs) tests) in
          let t = (occurs-text (flag_of list) (keyword_at words k) text o some).0
          (sym (ap (λ (w : List ℕ). occurs_at w (folded (flag_of list) text) o) (word-is k l)) ∙ s) in
          record { within = t.0; alike = t.1 }

      back : StandsAt (flag_of list) (keyword_at words k) text o → starts_at found k o ≡ true
      back s =
          starts-in-text (folded_keywords list) file k o (folded (flag_of list) text)
          ∙ rw (
            lt-ltb o (length (folded (flag_of list) text)) (omega (arith, folded-length (flag_of list) text, s.within, some)),
            lt-ltb k (length (folded_keywords list)) (omega (arith, counted)),
            word-is k l,
            (occurs-text (flag_of list) (keyword_at words k) text o some).1 (s.within, s.alike),
          )

  pub choice-stands : (from : ℕ) (query offsets : List ℕ) → every (λ k. ltb k (length words)) query ≡ true
      → (is_choice (map length words) found from query offsets ≡ true) ↔ StandInOrder (flag_of list) words text from query offsets
  choice-stands from [] [] e = (λ _. tt, λ _. refl)
  choice-stands from [] (o ∷ offsets) e = (λ z. absurd (false≢true z), λ z. absurd z)
  choice-stands from (k ∷ query) [] e = (λ z. absurd (false≢true z), λ z. absurd z)
  choice-stands from (k ∷ query) (o ∷ offsets) e =
      let more = choice-stands (o + length (keyword_at words k)) query offsets (and_right (ltb k (length words)) (every (λ j. ltb j (length words)) query) e) in
      (there more, back more)
    where
      l : k < length words
      l = ltb-true k (length words) (and_left (ltb k (length words)) (every (λ j. ltb j (length words)) query) e)

      size : get_or (map length words) k 0 ≡ length (keyword_at words k)
      size = ListN.get_or-map length words k []

      More : Type 0
      More = (is_choice (map length words) found (o + length (keyword_at words k)) query offsets ≡ true)
          ↔ StandInOrder (flag_of list) words text (o + length (keyword_at words k)) query offsets

      next : is_choice (map length words) found (o + get_or (map length words) k 0) query offsets
          ≡ is_choice (map length words) found (o + length (keyword_at words k)) query offsets
      next = ap (λ (n : ℕ). is_choice (map length words) found (o + n) query offsets) size

      there : More → is_choice (map length words) found from (k ∷ query) (o ∷ offsets) ≡ true
          → StandInOrder (flag_of list) words text from (k ∷ query) (o ∷ offsets)
      there more c = (
        choice-bound (map length words) found from k o query offsets c,
        (starts-stands k o l).0 (choice-starts (map length words) found from k o query offsets c),
        more.0 (sym next ∙ choice-rest (map length words) found from k o query offsets c),
      )

      back : More → StandInOrder (flag_of list) words text from (k ∷ query) (o ∷ offsets)
          → is_choice (map length words) found from (k ∷ query) (o ∷ offsets) ≡ true
      back more s =
          three (leb from o) (starts_at found k o) (is_choice (map length words) found (o + get_or (map length words) k 0) query offsets)
          (le-leb from o s.0) ((starts-stands k o l).1 s.1) (next ∙ more.1 s.2)
