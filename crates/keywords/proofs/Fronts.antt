-- The code of what is left of a list, from `at` on: one keyword of `read_code`. Assumes nothing.
use mathlib.Core.Path.{◌≡◌, refl, sym, ◌∙◌}
use mathlib.Core.Bool.{Bool, true, false, cond, not, ◌&&◌, ◌||◌}
use mathlib.Core.List.{List, [], ◌∷◌}
use Prim.Native.Nat.{ℕ, suc, ◌+◌, ◌-◌, ◌≤◌, ◌<◌}
use native.Mathlib.Omega.{arith}
use Rattle.std.proofs.lemmas.Bool.Decides.{nat_tests}
use borrow.Author.Tests.{lt-ltb, le-ltb, ltb-false, eqb-false}
use lib.Dec.{eqb, leb, ltb}
use lib.ListN.{length, drop, get_or, length-drop, drop_of_length-le}
use lib.Seq.{drop-cons, drop-drop}
use Rattle.spec.specs.Bytes.{twice}
use Rattle.spec.specs.Outcome.{first_number, keywords_alike}
use Rattle.spec.specs.Keywords.{count_of, flag_of, list_size, keywords_of, folded_keywords, read_code, header_wrong, front_tests}
use Rattle.spec.specs.Keywords.{keyword_code, keyword_front_code}
use Rattle.spec.proofs.Codes.{last-whole, refused-whole, passed, passed-whole, or_left, or_right}
use Rattle.spec.proofs.KeywordLaws.{read_count}
use Rattle.keywords.specs.declared.Keywords.{Keywords}
use Rattle.keywords.specs.Parsed.{parsed_of, ReadableList, Places}
use Rattle.keywords.proofs.Reading.{parsed-readable}

module _ (list : List ℕ) (count k at : ℕ) (turn : k < count) where
  pub code-absent : length list ≤ at → 1 ≡ read_code (count - k) (drop at list)
  code-absent h = let s : count - k ≡ suc (count - (k + 1)) = omega arith in rw (s, drop_of_length-le list h)

  -- the length byte n is there
  module _ (inside : at < length list) (n : ℕ) (e : n ≡ get_or list at 0) where
    step : read_code (count - k) (drop at list) ≡ read_code (suc (count - (k + 1))) (n ∷ drop (suc at) list)
    step = let s : count - k ≡ suc (count - (k + 1)) = omega arith in rw (s, drop-cons list at 0 inside, e)

    odd : (b : Bool) → (leb 1 n && leb n 32) ≡ b → (eqb n 0 || ltb 32 n) ≡ not b
    odd b h = grind (arith, nat_tests)

    pub code-improper : (leb 1 n && leb n 32) ≡ false → 3 ≡ read_code (count - k) (drop at list)
    code-improper h = sym (step ∙ rw (odd false h))

    pub code-cut : (leb 1 n && leb n 32) ≡ true → length list - at ≤ n → 1 ≡ read_code (count - k) (drop at list)
    code-cut h c = sym (step ∙ rw (odd true h, lt-ltb (length (drop (suc at) list)) n (omega (arith, length-drop (suc at) list))))

    pub code-on : (leb 1 n && leb n 32) ≡ true → n < length list - at
        → read_code (count - (k + 1)) (drop (at + (1 + n)) list) ≡ read_code (count - k) (drop at list)
    code-on h c =
        let there = le-ltb (length (drop (suc at) list)) n (omega (arith, length-drop (suc at) list)) in
        let rest = read_code (count - (k + 1)) (drop n (drop (suc at) list)) in
        let on : at + (1 + n) ≡ suc at + n = omega arith in
        sym (step ∙ rw (odd true h, there, on, ← drop-drop) (last-whole rest))

-- ---- the whole check

module _ (list : List ℕ) where
  -- the list reads where the front's tests give 0
  pub front-readable : first_number (front_tests list) ≡ 0 → ReadableList list
  front-readable e =
      let a = passed _ 1 _ (omega arith) e in
      let b = passed _ 2 _ (omega arith) a.1 in
      let c = passed-whole _ _ b.1 in
      let counts = or_left (eqb (count_of list) 0 || ltb 16 (count_of list)) (ltb 1 (flag_of list)) b.0 in
      record {
        header = ltb-false (length list) 2 a.0;
        nonempty = omega (arith, eqb-false (count_of list) 0 (or_left (eqb (count_of list) 0) (ltb 16 (count_of list)) counts));
        most = ltb-false 16 (count_of list) (or_right (eqb (count_of list) 0) (ltb 16 (count_of list)) counts);
        flag = ltb-false 1 (flag_of list) (or_right (eqb (count_of list) 0 || ltb 16 (count_of list)) (ltb 1 (flag_of list)) b.0);
        read = c.0;
      }

-- the front's tests as one test among others
three : (a h : Bool) (r rest : ℕ) → cond a 1 (cond h 2 (cond (ltb 0 r) r rest))
    ≡ cond (ltb 0 (cond a 1 (cond h 2 (cond (ltb 0 r) r 0)))) (cond a 1 (cond h 2 (cond (ltb 0 r) r 0))) rest
three true h r rest = refl
three false true r rest = refl
three false false r rest = rw last-whole

module _ (list : List ℕ) (code : ℕ) (e : code ≡ first_number (front_tests list)) where
  -- without the left-over bytes
  front-code : keyword_front_code list ≡ cond (ltb 0 code) code (cond (twice (folded_keywords list)) 4 0)
  unfolding keyword_front_code
  front-code = rw e (three (ltb (length list) 2) (header_wrong list) (read_code (count_of list) (drop 2 list)) (cond (twice (folded_keywords list)) 4 0))

  pub front-refused : (code ≡ 0 → ⊥) → code ≡ keyword_front_code list
  front-refused h = refused-whole code _ h ∙ sym front-code

  pub front-rest : code ≡ 0 → first_number ((twice (folded_keywords list), keywords_alike) ∷ []) ≡ keyword_front_code list
  front-rest z = sym (front-code ∙ rw z)

  -- with them
  whole_code : keyword_code list ≡ cond (ltb 0 code) code (cond (ltb (list_size list) (length list)) 1 (cond (twice (folded_keywords list)) 4 0))
  unfolding keyword_code
  whole_code =
      let rest : ℕ = cond (ltb (list_size list) (length list)) 1 (cond (twice (folded_keywords list)) 4 0) in
      rw e (three (ltb (length list) 2) (header_wrong list) (read_code (count_of list) (drop 2 list)) rest)

  pub whole-refused : (code ≡ 0 → ⊥) → code ≡ keyword_code list
  whole-refused h = refused-whole code _ h ∙ sym whole_code

  module _ (z : code ≡ 0) (words : Keywords) (p : words ≡ parsed_of list) where
    pub whole-over : words.size < length list → 1 ≡ keyword_code list
    unfolding parsed_of
    whole-over l = sym (whole_code ∙ rw (z, lt-ltb (list_size list) (length list) (rw p at l)))

    pub whole-rest : length list ≤ words.size → first_number ((twice (folded_keywords list), keywords_alike) ∷ []) ≡ keyword_code list
    unfolding parsed_of
    whole-rest l = sym (whole_code ∙ rw (z, le-ltb (list_size list) (length list) (rw p at l)))

-- a list that was split has its places
pub places : (list : List ℕ) (words : Keywords) → ReadableList list → words ≡ parsed_of list → Places list words.flag words.count words.start words.len
unfolding keywords_of
places list words r e =
    let p = parsed-readable list r words e in
    record {
      flags = p.flags;
      few = p.few;
      counts = read_count (count_of list) (drop 2 list) r.read ∙ sym p.counts;
      room = omega (arith, p.ends, p.room);
      placed = p.placed;
    }
