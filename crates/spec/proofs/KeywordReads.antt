-- A keyword list is read from the front: what follows it does not matter, and an accepted list is told from its own bytes. Each law goes
-- keyword by keyword (`read_step` of KeywordLaws). Assumes nothing.
use mathlib.Core.Path.{◌≡◌, refl, sym, ap, ◌∙◌, subst}
use mathlib.Core.Bool.{false}
use mathlib.Core.List.{List, [], ◌∷◌, ◌++◌}
use Prim.Native.Nat.{ℕ, zero, suc, ◌+◌, ◌≤◌}
use native.Mathlib.Nat.{suc-add}
use native.Mathlib.Omega.{arith}
use borrow.Author.Tests.{ne_eqb, le-ltb}
use lib.Dec.{ltb}
use lib.ListN.{length, take, drop, length-append, length-take, take-append-drop}
use lib.Seq.{take-append-le, drop-append-le, length-take-le}
use Rattle.spec.specs.Bytes.{twice}
use Rattle.spec.specs.Keywords.{folded_all, count_of, flag_of, read_keywords, keywords_size, keywords_of, list_size, folded_keywords, read_code}
use Rattle.spec.specs.Keywords.{header_wrong, keyword_code, keyword_front_code}
use Rattle.spec.proofs.Codes.{passed}
use Rattle.spec.proofs.Splices.{drop-take}
use Rattle.spec.proofs.KeywordLaws.{read_step, read-absent, read-room, accepted, keyword-front}

-- ---- the reading

-- one keyword that is accepted
step-passes : (count n : ℕ) (bytes : List ℕ) → 1 ≤ n → n ≤ 32 → n ≤ length bytes → read_code count (drop n bytes) ≡ 0 → read_code (suc count) (n ∷ bytes) ≡ 0
step-passes count n bytes l h r e = rw (ne_eqb n 0 (λ z. omega arith), le-ltb 32 n h, le-ltb (length bytes) n r, e)

module _ (rest : List ℕ) where
  pub keywords-front : (count : ℕ) (bytes : List ℕ) → read_code count bytes ≡ 0 → read_keywords count (bytes ++ rest) ≡ read_keywords count bytes
  keywords-front zero bytes e = refl
  keywords-front (suc count) [] e = absurd (read-absent count e)
  keywords-front (suc count) (n ∷ bytes) e =
      let s = read_step count n bytes e in
      rw (take-append-le n bytes rest s.room, drop-append-le n bytes rest s.room, keywords-front count (drop n bytes) s.rest)

  pub size-front : (count : ℕ) (bytes : List ℕ) → read_code count bytes ≡ 0 → keywords_size count (bytes ++ rest) ≡ keywords_size count bytes
  size-front zero bytes e = refl
  size-front (suc count) [] e = absurd (read-absent count e)
  size-front (suc count) (n ∷ bytes) e =
      let s = read_step count n bytes e in
      rw (drop-append-le n bytes rest s.room, size-front count (drop n bytes) s.rest)

  pub code-front : (count : ℕ) (bytes : List ℕ) → read_code count bytes ≡ 0 → read_code count (bytes ++ rest) ≡ 0
  code-front zero bytes e = refl
  code-front (suc count) [] e = absurd (read-absent count e)
  code-front (suc count) (n ∷ bytes) e =
      let s = read_step count n bytes e in
      step-passes count n (bytes ++ rest) s.nonempty s.most (omega (arith, s.room, length-append bytes rest))
      (rw (drop-append-le n bytes rest s.room) (code-front count (drop n bytes) s.rest))

-- a take across a place, from there on
-- the keywords' own bytes are accepted
pub code-taken : (count : ℕ) (bytes : List ℕ) → read_code count bytes ≡ 0 → read_code count (take (keywords_size count bytes) bytes) ≡ 0
code-taken zero bytes e = refl
code-taken (suc count) [] e = absurd (read-absent count e)
code-taken (suc count) (n ∷ bytes) e =
    let s = read_step count n bytes e in
    let r : n ≤ length bytes = s.room in
    let l : n ≤ length (take (n + keywords_size count (drop n bytes)) bytes) = rw length-take (omega arith) in
    rw suc-add (step-passes count n (take (n + keywords_size count (drop n bytes)) bytes) s.nonempty s.most l
    (rw (drop-take n (keywords_size count (drop n bytes)) bytes) (code-taken count (drop n bytes) s.rest)))

pub size-taken : (count : ℕ) (bytes : List ℕ) → read_code count bytes ≡ 0 → keywords_size count (take (keywords_size count bytes) bytes) ≡ keywords_size count bytes
size-taken count bytes e =
    sym (size-front (drop (keywords_size count bytes) bytes) count (take (keywords_size count bytes) bytes) (code-taken count bytes e))
    ∙ ap (keywords_size count) (take-append-drop (keywords_size count bytes) bytes)

-- ---- an accepted list with bytes behind it

pub record SameList (list bytes : List ℕ) : Type 0 where
  pub count : count_of bytes ≡ count_of list
  pub flag : flag_of bytes ≡ flag_of list
  pub keywords : keywords_of bytes ≡ keywords_of list
  pub folded : folded_keywords bytes ≡ folded_keywords list
  pub size : list_size bytes ≡ list_size list
  pub code : keyword_front_code bytes ≡ 0

-- the tests of a list, one by one
front-passes : (list : List ℕ) → 2 ≤ length list → header_wrong list ≡ false → read_code (count_of list) (drop 2 list) ≡ 0 → twice (folded_keywords list) ≡ false
    → keyword_front_code list ≡ 0
unfolding keyword_front_code
front-passes list l h r t = rw (le-ltb (length list) 2 l, h, r, t)

whole-passes : (list : List ℕ) → 2 ≤ length list → header_wrong list ≡ false → read_code (count_of list) (drop 2 list) ≡ 0 → list_size list ≡ length list
    → twice (folded_keywords list) ≡ false → keyword_code list ≡ 0
unfolding keyword_code
whole-passes list l h r s t = rw (le-ltb (length list) 2 l, h, r, le-ltb (list_size list) (length list) (omega arith), t)

header-right : (list : List ℕ) → keyword_front_code list ≡ 0 → header_wrong list ≡ false
unfolding keyword_front_code
header-right list e =
    let a = passed (ltb (length list) 2) 1 _ (omega arith) e in
    (passed (header_wrong list) 2 _ (omega arith) a.1).0

-- a list has its two header bytes
pub by-header : (P : List ℕ → Type 0) → ((a b : ℕ) (bytes : List ℕ) → P (a ∷ b ∷ bytes)) → (list : List ℕ) → 2 ≤ length list → P list
by-header P f [] h = let z : ⊥ = omega arith in absurd z
by-header P f (a ∷ []) h = let z : ⊥ = omega arith in absurd z
by-header P f (a ∷ b ∷ bytes) h = f a b bytes

module _ (a b : ℕ) (bytes : List ℕ) (e : keyword_front_code (a ∷ b ∷ bytes) ≡ 0) where
  read : read_code a bytes ≡ 0
  read = (accepted (a ∷ b ∷ bytes) e).read

  module _ (rest : List ℕ) where
    same-keywords : keywords_of (a ∷ b ∷ bytes ++ rest) ≡ keywords_of (a ∷ b ∷ bytes)
    unfolding keywords_of
    same-keywords = keywords-front rest a bytes read

    same-folded : folded_keywords (a ∷ b ∷ bytes ++ rest) ≡ folded_keywords (a ∷ b ∷ bytes)
    unfolding folded_keywords
    same-folded = ap (folded_all b) same-keywords

    same_size : list_size (a ∷ b ∷ bytes ++ rest) ≡ list_size (a ∷ b ∷ bytes)
    unfolding list_size
    same_size = ap (λ (n : ℕ). 2 + n) (size-front rest a bytes read)

    front-cons : SameList (a ∷ b ∷ bytes) (a ∷ b ∷ bytes ++ rest)
    front-cons =
        record {
          count = refl;
          flag = refl;
          keywords = same-keywords;
          folded = same-folded;
          size = same_size;
          code = front-passes (a ∷ b ∷ bytes ++ rest) (omega arith) (header-right (a ∷ b ∷ bytes) e) (code-front rest a bytes read)
              (rw same-folded (accepted (a ∷ b ∷ bytes) e).differ);
        }

  -- the list's own bytes
  abbrev own : List ℕ
  own = a ∷ b ∷ take (keywords_size a bytes) bytes

  own-size : list_size own ≡ length own
  unfolding list_size
  own-size = rw (size-taken a bytes read, length-take-le (keywords_size a bytes) bytes (read-room a bytes read)) (omega arith)

  own-folded : folded_keywords own ≡ folded_keywords (a ∷ b ∷ bytes)
  unfolding folded_keywords keywords_of
  own-folded =
      ap (folded_all b) (sym (keywords-front (drop (keywords_size a bytes) bytes) a (take (keywords_size a bytes) bytes) (code-taken a bytes read))
      ∙ ap (read_keywords a) (take-append-drop (keywords_size a bytes) bytes))

  own_code : keyword_code own ≡ 0
  unfolding keyword_code
  own_code =
      whole-passes own (omega arith) (header-right (a ∷ b ∷ bytes) e) (code-taken a bytes read) own-size
      (rw own-folded (accepted (a ∷ b ∷ bytes) e).differ)

  taken-cons : keyword_code (take (list_size (a ∷ b ∷ bytes)) (a ∷ b ∷ bytes)) ≡ 0
  unfolding list_size
  taken-cons = let n : 2 + keywords_size a bytes ≡ suc (suc (keywords_size a bytes)) = omega arith in rw n own_code

pub list-front : (list rest : List ℕ) → keyword_front_code list ≡ 0 → SameList list (list ++ rest)
list-front list rest e =
    by-header (λ l. keyword_front_code l ≡ 0 → SameList l (l ++ rest)) (λ a b bytes e. front-cons a b bytes e rest) list (accepted list e).header e

-- the list's own bytes are accepted, with nothing left over
pub list-taken : (bytes : List ℕ) → keyword_front_code bytes ≡ 0 → keyword_code (take (list_size bytes) bytes) ≡ 0
list-taken bytes e = by-header (λ l. keyword_front_code l ≡ 0 → keyword_code (take (list_size l) l) ≡ 0) taken-cons bytes (accepted bytes e).header e

-- so the bytes say what the list's own bytes say
pub own-list : (bytes : List ℕ) → keyword_front_code bytes ≡ 0 → SameList (take (list_size bytes) bytes) bytes
own-list bytes e =
    subst (SameList (take (list_size bytes) bytes)) (take-append-drop (list_size bytes) bytes)
    (list-front (take (list_size bytes) bytes) (drop (list_size bytes) bytes) (keyword-front (take (list_size bytes) bytes) (list-taken bytes e)))
