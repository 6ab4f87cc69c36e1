-- Answers: the numbers of document 01's section "Refusals by operation", each under a name, and how an operation's tests give its answer.
use Rattle.std.specs.Prelude.{Bool, cond, List, [], ◌∷◌, map, ℕ, eqb, ltb}

-- The keyword list is cut short, or bytes are left over.
abbrev pub keywords_cut : ℕ
keywords_cut = 1

-- Its count or fold flag is outside its range.
abbrev pub keywords_header : ℕ
keywords_header = 2

-- A keyword's length is 0 or above 32.
abbrev pub keyword_length : ℕ
keyword_length = 3

-- Two keywords compare alike.
abbrev pub keywords_alike : ℕ
keywords_alike = 4

-- The store has fewer than 8 bytes or another mark.
abbrev pub store_mark_wrong : ℕ
store_mark_wrong = 5

-- The store's chunk count is above 65,000 or its directory is cut short.
abbrev pub store_directory_cut : ℕ
store_directory_cut = 6

-- An entry of the store has a wrong length or offset, or the last end is beyond the store's.
abbrev pub store_entry_wrong : ℕ
store_entry_wrong = 7

-- A fingerprint is twice in the store.
abbrev pub store_duplicate : ℕ
store_duplicate = 8

-- The index is longer than the buffer or than 4,294,967,295 bytes.
abbrev pub index_too_long : ℕ
index_too_long = 9

-- Request #107: the new store is longer than the buffer.
abbrev pub store_too_long : ℕ
store_too_long = 9

-- The index has fewer than 8 bytes, another mark, or a chunk count above 65,000.
abbrev pub index_mark_wrong : ℕ
index_mark_wrong = 10

-- The index's directory is cut short, an entry of it is wrong, or the last end is not the index's.
abbrev pub index_entry_wrong : ℕ
index_entry_wrong = 11

-- A fingerprint is twice in the index.
abbrev pub index_duplicate : ℕ
index_duplicate = 12

-- A body is not good.
abbrev pub body_not_good : ℕ
body_not_good = 13

-- The recipes are under 4 bytes, have a file count above 65,535, are cut short, or have bytes left over.
abbrev pub recipes_wrong : ℕ
recipes_wrong = 14

-- A fingerprint is not in the directory.
abbrev pub not_found : ℕ
not_found = 15

-- A file has more than 4,294,967,295 bytes.
abbrev pub file_too_long : ℕ
file_too_long = 16

-- A chunk neither first nor last in its file is shorter than the longest keyword's length minus 1.
abbrev pub inner_chunk_short : ℕ
inner_chunk_short = 17

-- The list is longer than the buffer.
abbrev pub list_too_long : ℕ
list_too_long = 18

-- A fingerprint is not 20 bytes.
abbrev pub fingerprint_length : ℕ
fingerprint_length = 19

-- An entry of the store ends beyond 4,294,967,295 (request #105).
abbrev pub store_entry_beyond : ℕ
store_entry_beyond = 20

-- A query of another length than 2 to 8, or with a number that is no keyword's (request #109).
abbrev pub query_wrong : ℕ
query_wrong = 21

-- A key that is not 16 bytes, or names a client above 3 for a keyword of the list (request #110).
abbrev pub key_wrong : ℕ
key_wrong = 22

-- A client's count would pass 64 bits (request #110).
abbrev pub count_too_large : ℕ
count_too_large = 23

-- A file number that is not below the file count (request #111).
abbrev pub file_number_wrong : ℕ
file_number_wrong = 24

-- ---- tests in their order

-- One test of an operation: a condition, and the number that refuses where it holds.
abbrev pub Test : Type 0
Test = Bool × ℕ

-- The number of the first condition that holds; 0 where none does.
abbrev pub first_number : List Test → ℕ
first_number [] = 0
first_number (test ∷ rest) = cond test.0 test.1 (first_number rest)

-- A whole check, by its number, as one test among others.
abbrev pub whole : ℕ → Test
whole code = (ltb 0 code, code)

-- Checks one after the other: the first number that is not 0.
abbrev pub first_code : List ℕ → ℕ
first_code codes = first_number (map whole codes)

-- ---- the answer

-- An answer, in document 01's numbers: the length or count of work done, or the number that refuses it.
pub data Outcome : Type 0 where
  Done : (value : ℕ) → Outcome
  Refused : (code : ℕ) → Outcome

-- The number of an answer: 0 for work done.
abbrev pub code_of : Outcome → ℕ
code_of (Done n) = 0
code_of (Refused code) = code

-- The value of an answer: the length or count of work done; a refusal has none.
abbrev pub value_of : Outcome → ℕ
value_of (Done n) = n
value_of (Refused code) = 0

-- A number that is lent to be told the value: as it was on a refusal.
abbrev pub told_value : Outcome → ℕ → ℕ
told_value (Done n) before = n
told_value (Refused code) before = before

-- The answer of an operation whose tests give `code`, and whose work gives `value`.
unfoldable pub answer : ℕ → ℕ → Outcome
answer code value = cond (eqb code 0) (Done value) (Refused code)

-- A buffer after an operation: what its work makes of it, or as it was on a refusal.
unfoldable pub unless_refused : ℕ → List ℕ → List ℕ → List ℕ
unless_refused code worked buffer = cond (eqb code 0) worked buffer
