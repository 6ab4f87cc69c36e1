-- A written keyword list is read back, the check accepts exactly the lists that fit, and what it accepts is written so. Each law goes keyword by
-- keyword: the length byte says where the next one starts. Assumes nothing.
use mathlib.Core.Path.{◌≡◌, refl, sym, ap, ap₂, ◌∙◌}
use mathlib.Core.Logic.{◌↔◌}
use mathlib.Core.Bool.{Bool, true, false, ◌&&◌, ◌||◌}
use mathlib.Core.List.{List, [], ◌∷◌, ◌++◌, map}
use Prim.Native.Nat.{ℕ, zero, suc, ◌+◌, ◌≤◌}
use native.Mathlib.Omega.{arith}
use borrow.Author.Tests.{ne_eqb, le-ltb}
use lib.Dec.{eqb, leb, ltb}
use lib.ListN.{length, take, drop, length-append, length-drop, take-append-drop}
use lib.Seq.{take_at, drop_at, length-take-le}
use Rattle.spec.specs.Bytes.{twice, every, joined}
use Rattle.spec.specs.Keywords.{folded_all, keyword_list_bytes, count_of, flag_of, read_keywords, keywords_size, keywords_of, list_size, folded_keywords}
use Rattle.spec.specs.Keywords.{read_code, header_wrong, keyword_code}
use Rattle.spec.proofs.Tests.{leb-true, le-of-and, and_left, and_right}
use Rattle.spec.proofs.KeywordLaws.{Step, read_step, read-absent, read_count, Accepted, accepted, keyword-front, keyword-whole}
use Rattle.spec.proofs.KeywordReads.{by-header}
use Rattle.theory.specs.WrittenInputs.{KeywordsFit, KeywordListReads, WrittenKeywords}

-- the keywords as they are written one after the other
abbrev listed : List (List ℕ) → List ℕ
listed keywords = joined (map (λ keyword. length keyword ∷ keyword) keywords)

-- ---- written and read

read-listed : (keywords : List (List ℕ)) → read_keywords (length keywords) (listed keywords) ≡ keywords
read-listed [] = refl
read-listed (k ∷ ks) = rw (take_at k (listed ks) (length k) refl, drop_at k (listed ks) (length k) refl, read-listed ks)

size-listed : (keywords : List (List ℕ)) → keywords_size (length keywords) (listed keywords) ≡ length (listed keywords)
size-listed [] = refl
size-listed (k ∷ ks) = rw (drop_at k (listed ks) (length k) refl, size-listed ks, length-append k (listed ks)) (omega arith)

pub keyword-list-reads : (flag : ℕ) (keywords : List (List ℕ)) → KeywordListReads flag keywords
unfolding keyword_list_bytes keywords_of list_size
keyword-list-reads flag keywords =
    record {
      count = refl;
      fold = refl;
      words = read-listed keywords;
      size = ap (λ (n : ℕ). 2 + n) (size-listed keywords) ∙ omega arith;
    }

-- ---- accepted

abbrev proper : List ℕ → Bool
proper keyword = leb 1 (length keyword) && leb (length keyword) 32

code_step : (count n : ℕ) (bytes : List ℕ) → 1 ≤ n → n ≤ 32 → n ≤ length bytes → read_code count (drop n bytes) ≡ 0 → read_code (suc count) (n ∷ bytes) ≡ 0
code_step count n bytes l h r e = rw (ne_eqb n 0 (λ z. omega arith), le-ltb 32 n h, le-ltb (length bytes) n r, e)

code-listed : (keywords : List (List ℕ)) → every proper keywords ≡ true → read_code (length keywords) (listed keywords) ≡ 0
code-listed [] e = refl
code-listed (k ∷ ks) e =
    let p : proper k ≡ true = and_left (proper k) (every proper ks) e in
    let low : 1 ≤ length k = le-of-and 1 (length k) (leb (length k) 32) p in
    let high : length k ≤ 32 = le-of-and (length k) 32 true (rw (and_right (leb 1 (length k)) (leb (length k) 32) p)) in
    code_step (length ks) (length k) (k ++ listed ks) low high (omega (arith, length-append k (listed ks)))
    (rw (drop_at k (listed ks) (length k) refl) (code-listed ks (and_right (proper k) (every proper ks) e)))

-- what is read is proper
proper-read : (count : ℕ) (bytes : List ℕ) → read_code count bytes ≡ 0 → every proper (read_keywords count bytes) ≡ true
proper-read zero bytes e = refl
proper-read (suc count) [] e = absurd (read-absent count e)
proper-read (suc count) (n ∷ bytes) e =
    let s : Step count n bytes = read_step count n bytes e in
    rw (length-take-le n bytes s.room, leb-true 1 n s.nonempty, leb-true n 32 s.most, proper-read count (drop n bytes) s.rest)

whole-passes : (list : List ℕ) → 2 ≤ length list → header_wrong list ≡ false → read_code (count_of list) (drop 2 list) ≡ 0 → list_size list ≡ length list
    → twice (folded_keywords list) ≡ false → keyword_code list ≡ 0
unfolding keyword_code
whole-passes list l h r s t = rw (le-ltb (length list) 2 l, h, r, le-ltb (list_size list) (length list) (omega arith), t)

header-fits : (count flag : ℕ) → 1 ≤ count → count ≤ 16 → flag ≤ 1 → (eqb count 0 || ltb 16 count || ltb 1 flag) ≡ false
header-fits count flag l h f = rw (ne_eqb count 0 (λ z. omega arith), le-ltb 16 count h, le-ltb 1 flag f)

fits-passes : (flag : ℕ) (keywords : List (List ℕ)) → KeywordsFit flag keywords → keyword_code (keyword_list_bytes flag keywords) ≡ 0
unfolding keyword_list_bytes folded_keywords
fits-passes flag keywords f =
    let r = keyword-list-reads flag keywords in
    whole-passes (keyword_list_bytes flag keywords) (omega arith) (header-fits (length keywords) flag f.nonempty f.few f.fold)
    (code-listed keywords f.lengths) r.size (ap (λ (ks : List (List ℕ)). twice (folded_all flag ks)) r.words ∙ f.differ)

passes-fits : (flag : ℕ) (keywords : List (List ℕ)) → keyword_code (keyword_list_bytes flag keywords) ≡ 0 → KeywordsFit flag keywords
unfolding keyword_list_bytes folded_keywords
passes-fits flag keywords e =
    let r = keyword-list-reads flag keywords in
    let a : Accepted (keyword_list_bytes flag keywords) = accepted (keyword_list_bytes flag keywords) (keyword-front (keyword_list_bytes flag keywords) e) in
    record {
      nonempty = a.nonempty;
      few = a.most;
      fold = a.flag;
      lengths = ap (every proper) (sym (read-listed keywords)) ∙ proper-read (length keywords) (listed keywords) a.read;
      differ = ap (λ (ks : List (List ℕ)). twice (folded_all flag ks)) (sym r.words) ∙ a.differ;
    }

pub keyword-list-accepted : (flag : ℕ) (keywords : List (List ℕ)) → (keyword_code (keyword_list_bytes flag keywords) ≡ 0) ↔ KeywordsFit flag keywords
keyword-list-accepted flag keywords = (passes-fits flag keywords, fits-passes flag keywords)

-- ---- read and written again

listed-read : (count : ℕ) (bytes : List ℕ) → read_code count bytes ≡ 0 → keywords_size count bytes ≡ length bytes → bytes ≡ listed (read_keywords count bytes)
listed-read zero [] e l = refl
listed-read zero (b ∷ bytes) e l = let z : ⊥ = omega arith in absurd z
listed-read (suc count) [] e l = absurd (read-absent count e)
listed-read (suc count) (n ∷ bytes) e l =
    let s : Step count n bytes = read_step count n bytes e in
    let rest : keywords_size count (drop n bytes) ≡ length (drop n bytes) = omega (arith, length-drop n bytes, s.room) in
    ap₂ {C = List ℕ} (λ h t. h ∷ t) (sym (length-take-le n bytes s.room))
    (sym (take-append-drop n bytes) ∙ ap (λ (t : List ℕ). take n bytes ++ t) (listed-read count (drop n bytes) s.rest rest))

list-is : (a b : ℕ) (bytes : List ℕ) → keyword_code (a ∷ b ∷ bytes) ≡ 0 → a ∷ b ∷ bytes ≡ keyword_list_bytes b (keywords_of (a ∷ b ∷ bytes))
unfolding keyword_list_bytes keywords_of list_size
list-is a b bytes e =
    let r : read_code a bytes ≡ 0 = (accepted (a ∷ b ∷ bytes) (keyword-front (a ∷ b ∷ bytes) e)).read in
    let w : 2 + keywords_size a bytes ≡ length (a ∷ b ∷ bytes) = keyword-whole (a ∷ b ∷ bytes) e in
    ap₂ {C = List ℕ} (λ n l. n ∷ b ∷ l) (sym (read_count a bytes r)) (listed-read a bytes r (omega arith))

pub keyword-list-written : (list : List ℕ) → keyword_code list ≡ 0 → list ≡ keyword_list_bytes (flag_of list) (keywords_of list)
keyword-list-written list e =
    by-header (λ l. keyword_code l ≡ 0 → l ≡ keyword_list_bytes (flag_of l) (keywords_of l)) list-is list (accepted list (keyword-front list e)).header e

pub written-keywords : WrittenKeywords
written-keywords = record { reads = keyword-list-reads; accepted = keyword-list-accepted; written = keyword-list-written }
