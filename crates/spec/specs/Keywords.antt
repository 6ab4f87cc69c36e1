-- Keyword lists: document 01, "Words". A keyword is the paper's "word"; alike means the same under the fold flag.
use Rattle.std.specs.Prelude.{Bool, ◌&&◌, ◌||◌, not, cond, List, [], ◌∷◌, ◌++◌, map, ℕ, zero, suc, ◌+◌, max, length, take, drop, get_or, eqb, leb, ltb}
use Rattle.spec.specs.Bytes.{twice, joined}
use Rattle.spec.specs.Outcome.{Test, first_number, whole, keywords_cut, keywords_header, keyword_length, keywords_alike}

-- ---- comparison

-- The capitals: the bytes 41 to 5A, and those of Latin-1 (request #104), C0 to DE except D7.
unfoldable pub is_upper : ℕ → Bool
is_upper b = (leb 0x41 b && leb b 0x5A) || (leb 0xC0 b && leb b 0xDE && not (eqb b 0xD7))

-- With flag 1 those compare as the byte 20 (hexadecimal) higher; with flag 0 bytes compare as they are.
unfoldable pub fold_byte : ℕ → ℕ → ℕ
fold_byte flag b = cond (eqb flag 1 && is_upper b) (b + 0x20) b

-- Bytes as they compare. Keywords and data are folded first and then compared exactly.
unfoldable pub folded : ℕ → List ℕ → List ℕ
folded flag bytes = map (fold_byte flag) bytes

abbrev pub folded_all : ℕ → List (List ℕ) → List (List ℕ)
folded_all flag lists = map (folded flag) lists

-- ---- the list as bytes: keyword count, fold flag, then each keyword's length byte and its bytes

unfoldable pub keyword_list_bytes : ℕ → List (List ℕ) → List ℕ
keyword_list_bytes flag keywords = length keywords ∷ flag ∷ joined (map (λ keyword. length keyword ∷ keyword) keywords)

abbrev pub count_of : List ℕ → ℕ
count_of list = get_or list 0 0

abbrev pub flag_of : List ℕ → ℕ
flag_of list = get_or list 1 0

-- The keywords that `count` of them, written one after the other, are.
abbrev pub read_keywords : ℕ → List ℕ → List (List ℕ)
read_keywords zero bytes = []
read_keywords (suc count) [] = []
read_keywords (suc count) (n ∷ bytes) = take n bytes ∷ read_keywords count (drop n bytes)

-- How many bytes they take.
abbrev pub keywords_size : ℕ → List ℕ → ℕ
keywords_size zero bytes = 0
keywords_size (suc count) [] = 0
keywords_size (suc count) (n ∷ bytes) = suc n + keywords_size count (drop n bytes)

unfoldable pub keywords_of : List ℕ → List (List ℕ)
keywords_of list = read_keywords (count_of list) (drop 2 list)

-- The length of the list that the bytes start with.
unfoldable pub list_size : List ℕ → ℕ
list_size list = 2 + keywords_size (count_of list) (drop 2 list)

-- The keywords as they compare, and the longest one's length.
unfoldable pub folded_keywords : List ℕ → List (List ℕ)
folded_keywords list = folded_all (flag_of list) (keywords_of list)

abbrev pub longest : List (List ℕ) → ℕ
longest [] = 0
longest (k ∷ ks) = max (length k) (longest ks)

-- ---- the keyword check, reading from the front

-- For each keyword: its length byte absent, its length out of range, its bytes cut short; then the next keyword.
abbrev pub read_code : ℕ → List ℕ → ℕ
read_code zero bytes = 0
read_code (suc count) [] = keywords_cut
read_code (suc count) (n ∷ bytes) =
    first_number
    ((eqb n 0 || ltb 32 n, keyword_length)
    ∷ (ltb (length bytes) n, keywords_cut)
    ∷ whole (read_code count (drop n bytes))
    ∷ [])

-- Count 1 to 16, flag 0 or 1.
abbrev pub header_wrong : List ℕ → Bool
header_wrong list = eqb (count_of list) 0 || ltb 16 (count_of list) || ltb 1 (flag_of list)

abbrev pub front_tests : List ℕ → List Test
front_tests list =
    (ltb (length list) 2, keywords_cut)
    ∷ (header_wrong list, keywords_header)
    ∷ whole (read_code (count_of list) (drop 2 list))
    ∷ []

abbrev pub alike_test : List ℕ → Test
alike_test list = (twice (folded_keywords list), keywords_alike)

-- The keyword check ("word check").
unfoldable pub keyword_code : List ℕ → ℕ
keyword_code list = first_number (front_tests list ++ (ltb (list_size list) (length list), keywords_cut) ∷ alike_test list ∷ [])

-- The same without its left-over bytes, for a list that other bytes follow.
unfoldable pub keyword_front_code : List ℕ → ℕ
keyword_front_code list = first_number (front_tests list ++ alike_test list ∷ [])
