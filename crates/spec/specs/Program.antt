-- The search program: document 01, "A small vault". The whole text that it prints, from the bytes of its three files.
use Rattle.std.specs.Prelude.{cond, List, [], ◌∷◌, ◌++◌, ℕ, zero, suc, ◌+◌, ◌/◌, ◌%◌, length, eqb, ltb}
use Rattle.spec.specs.Bytes.{written}
use Rattle.spec.specs.Form.{newest}
use Rattle.spec.specs.Join.{Occurrence, one_client}
use Rattle.spec.specs.Search.{direct_search, search_code}

-- ---- numbers and lines

-- A number in decimal, in ASCII, no zero in front: with `most` digits at most.
unfoldable pub decimal_within : ℕ → ℕ → List ℕ
decimal_within zero n = []
decimal_within (suc most) n = cond (ltb n 10) ((48 + n) ∷ []) (decimal_within most (n / 10) ++ ((48 + n % 10) ∷ []))

-- 20 digits are enough for every number of 8 bytes.
unfoldable pub decimal : ℕ → List ℕ
decimal n = decimal_within 20 n

-- A printed line: a space between each two words, one line feed at the end.
abbrev pub line : List (List ℕ) → List ℕ
line [] = 0x0A ∷ []
line (word ∷ []) = word ++ (0x0A ∷ [])
line (word ∷ next ∷ rest) = word ++ (0x20 ∷ []) ++ line (next ∷ rest)

-- ---- the words that it prints

-- finds
abbrev pub finds_word : List ℕ
finds_word = 0x66 ∷ 0x69 ∷ 0x6E ∷ 0x64 ∷ 0x73 ∷ []

-- refused
abbrev pub refused_word : List ℕ
refused_word = 0x72 ∷ 0x65 ∷ 0x66 ∷ 0x75 ∷ 0x73 ∷ 0x65 ∷ 0x64 ∷ []

-- too long
abbrev pub too_long_words : List ℕ
too_long_words = 0x74 ∷ 0x6F ∷ 0x6F ∷ 0x20 ∷ 0x6C ∷ 0x6F ∷ 0x6E ∷ 0x67 ∷ []

-- store.bin
abbrev pub store_name : List ℕ
store_name = 0x73 ∷ 0x74 ∷ 0x6F ∷ 0x72 ∷ 0x65 ∷ 0x2E ∷ 0x62 ∷ 0x69 ∷ 0x6E ∷ []

-- words.bin
abbrev pub words_name : List ℕ
words_name = 0x77 ∷ 0x6F ∷ 0x72 ∷ 0x64 ∷ 0x73 ∷ 0x2E ∷ 0x62 ∷ 0x69 ∷ 0x6E ∷ []

-- recipes.bin
abbrev pub recipes_name : List ℕ
recipes_name = 0x72 ∷ 0x65 ∷ 0x63 ∷ 0x69 ∷ 0x70 ∷ 0x65 ∷ 0x73 ∷ 0x2E ∷ 0x62 ∷ 0x69 ∷ 0x6E ∷ []

-- ---- the texts

-- An occurrence (the paper's "find"): file, offset, keyword.
unfoldable pub occurrence_text : Occurrence → List ℕ
occurrence_text o = line (decimal o.file ∷ decimal o.offset ∷ decimal o.keyword ∷ [])

unfoldable pub occurrences_text : List Occurrence → List ℕ
occurrences_text [] = []
occurrences_text (o ∷ os) = occurrence_text o ++ occurrences_text os

-- The count, then a line for each occurrence.
unfoldable pub list_text : List Occurrence → List ℕ
list_text os = line (finds_word ∷ decimal (length os) ∷ []) ++ occurrences_text os

-- A refusal's number.
unfoldable pub refused_text : ℕ → List ℕ
refused_text code = line (refused_word ∷ decimal code ∷ [])

-- The name of a file that is longer than the buffers.
unfoldable pub too_long_text : List ℕ → List ℕ
too_long_text name = line (too_long_words ∷ name ∷ [])

-- ---- the program

-- The length of each of its buffers: for the three files, the index and the list.
abbrev pub program_room : ℕ
program_room = 65536

-- The refusal's number, or the list of the direct search of the restored files. The program is given no key and no tally; what it passes is never refused.
unfoldable pub search_text : List ℕ → List ℕ → List ℕ → List ℕ
search_text store words recipes =
    cond (eqb (search_code newest words store recipes one_client program_room program_room) 0)
    (list_text (direct_search words store recipes))
    (refused_text (search_code newest words store recipes one_client program_room program_room))

-- The whole output: the first file that is too long, or the search.
unfoldable pub program_text : List ℕ → List ℕ → List ℕ → List ℕ
program_text store words recipes =
    cond (ltb program_room (length store)) (too_long_text store_name)
    (cond (ltb program_room (length words)) (too_long_text words_name)
    (cond (ltb program_room (length recipes)) (too_long_text recipes_name)
    (search_text store words recipes)))

-- ---- the text in a buffer

-- No text is longer: `finds 7281` and a line feed, then 7,281 occurrences (a list of 65,529 bytes) of at most 26 bytes each, 10 digits for a
-- number of 4 bytes and 3 for one of 1 byte.
abbrev pub longest_text : ℕ
longest_text = 189317

-- A buffer that is shorter than the longest text is left as it was, and the answer is 0; no text has length 0.
unfoldable pub printed_length : ℕ → List ℕ → ℕ
printed_length room text = cond (ltb room longest_text) 0 (length text)

unfoldable pub printed_buffer : List ℕ → List ℕ → List ℕ
printed_buffer buffer text = cond (ltb (length buffer) longest_text) buffer (written buffer text)
