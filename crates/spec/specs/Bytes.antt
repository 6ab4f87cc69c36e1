-- Lists of bytes: parts, fields, comparison, and lists made by going through a range. Everything else is said in these words.
-- Integers in files are unsigned, least significant byte first (document 01, introduction).
use Rattle.std.specs.Prelude.{Bool, true, false, ◌&&◌, ◌||◌, cond, List, [], ◌∷◌, ◌++◌, ℕ, zero, suc, ◌+◌, ◌*◌, ◌/◌, ◌%◌, ◌<◌, ◌^◌, length, take, drop, get_or, eqb, ltb}

-- ---- parts and fields

-- The list is one of bytes: every element is below 256.
abbrev pub AllBytes : List ℕ → Type 0
AllBytes bytes = (i : ℕ) → get_or bytes i 0 < 256

-- The n bytes from `at` (a "stretch"), or as many of them as there are.
abbrev pub part : List ℕ → ℕ → ℕ → List ℕ
part bytes at n = take n (drop at bytes)

-- The number that bytes say, least significant first.
unfoldable pub le_value : List ℕ → ℕ
le_value [] = 0
le_value (b ∷ bs) = b + 256 * le_value bs

-- A number written in `width` bytes, least significant first.
unfoldable pub le_bytes : ℕ → ℕ → List ℕ
le_bytes zero n = []
le_bytes (suc width) n = n % 256 ∷ le_bytes width (n / 256)

-- The largest number of 4 bytes: no file is longer, no index, and no chunk of a store ends behind it.
abbrev pub largest32 : ℕ
largest32 = 4294967295

-- The field of `width` bytes at `at`.
abbrev pub field_at : List ℕ → ℕ → ℕ → ℕ
field_at bytes at width = le_value (part bytes at width)

-- The n fields of `width` bytes that the bytes start with.
unfoldable pub fields_of : ℕ → ℕ → List ℕ → List ℕ
fields_of width zero bytes = []
fields_of width (suc n) bytes = le_value (take width bytes) ∷ fields_of width n (drop width bytes)

-- Numbers written one after the other in `width` bytes each.
unfoldable pub fields_bytes : ℕ → List ℕ → List ℕ
fields_bytes width [] = []
fields_bytes width (x ∷ xs) = le_bytes width x ++ fields_bytes width xs

-- ---- buffers

-- A buffer after `bytes` are written from index `at` on: every other byte is as it was.
unfoldable pub splice : List ℕ → ℕ → List ℕ → List ℕ
splice buffer at bytes = take at buffer ++ bytes ++ drop (at + length bytes) buffer

-- A buffer after `bytes` are written at its start.
abbrev pub written : List ℕ → List ℕ → List ℕ
written buffer bytes = splice buffer 0 bytes

-- ---- comparison

-- Two lists of bytes are the same.
abbrev pub same : List ℕ → List ℕ → Bool
same [] [] = true
same [] (b ∷ bs) = false
same (a ∷ as') [] = false
same (a ∷ as') (b ∷ bs) = eqb a b && same as' bs

-- Some element of the list is the same as `key`.
abbrev pub contains : List ℕ → List (List ℕ) → Bool
contains key [] = false
contains key (x ∷ xs) = same key x || contains key xs

-- Some two elements are the same.
abbrev pub twice : List (List ℕ) → Bool
twice [] = false
twice (x ∷ xs) = contains x xs || twice xs

-- The position of the first element that is the same as `key`; the list's length where there is none.
abbrev pub position_of : List ℕ → List (List ℕ) → ℕ
position_of key [] = 0
position_of key (x ∷ xs) = cond (same key x) 0 (suc (position_of key xs))

-- The keyword is the first bytes of the text.
abbrev pub begins : List ℕ → List ℕ → Bool
begins [] text = true
begins (k ∷ ks) [] = false
begins (k ∷ ks) (t ∷ ts) = eqb k t && begins ks ts

-- The keyword "stands at" an offset of the text: its bytes from there all lie within the text and are the keyword's.
abbrev pub occurs_at : List ℕ → List ℕ → ℕ → Bool
occurs_at keyword text at = begins keyword (drop at text)

-- ---- ranges

-- f at each of the n numbers from `at`, one list after the other.
abbrev pub each {ℓ} : {A : Type ℓ} → (ℕ → List A) → ℕ → ℕ → List A
each f at zero = []
each f at (suc n) = f at ++ each f (suc at) n

-- The element, if the test holds.
abbrev pub keep {ℓ} : {A : Type ℓ} → Bool → A → List A
keep true x = x ∷ []
keep false x = []

-- A number is in the list.
abbrev pub member : ℕ → List ℕ → Bool
member x [] = false
member x (y ∷ ys) = eqb x y || member x ys

-- The largest number up to the bound that passes the test; 0 if none above 0 does.
abbrev pub largest : (ℕ → Bool) → ℕ → ℕ
largest test zero = zero
largest test (suc n) = cond (test (suc n)) (suc n) (largest test n)

-- Each number is below the next.
abbrev pub rising : List ℕ → Bool
rising [] = true
rising (x ∷ []) = true
rising (x ∷ y ∷ rest) = ltb x y && rising (y ∷ rest)

-- The test holds of every element.
abbrev pub every {ℓ} : {A : Type ℓ} → (A → Bool) → List A → Bool
every test [] = true
every test (x ∷ xs) = test x && every test xs

-- The sum of the numbers.
abbrev pub sum : List ℕ → ℕ
sum [] = 0
sum (x ∷ xs) = x + sum xs

-- Lists joined, in their order.
abbrev pub joined {ℓ} : {A : Type ℓ} → List (List A) → List A
joined [] = []
joined (x ∷ xs) = x ++ joined xs

-- ---- sets

-- A set of small numbers as one number: bit s, worth 2 to the s, for each s below n that passes the test.
abbrev pub set_of : (ℕ → Bool) → ℕ → ℕ
set_of test zero = 0
set_of test (suc n) = cond (test n) 1 0 * 2 ^ n + set_of test n

-- The set has s.
unfoldable pub in_set : ℕ → ℕ → Bool
in_set set s = eqb (set / 2 ^ s % 2) 1
