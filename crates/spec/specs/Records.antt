-- Match records: document 01, "Notes on one chunk and one word", and their written form, "Notes file" (kinds 0 to 3); request #108's sets (kind 4).
-- Keywords and chunks here are folded already, so bytes compare as they are.
use Rattle.std.specs.Prelude.{Bool, true, false, ◌&&◌, not, cond, List, [], ◌∷◌, ◌++◌, map, ℕ, zero, suc, ◌+◌, ◌*◌, ◌-◌, ◌/◌, ◌%◌, ◌^◌, min, length, take, drop, get_or, eqb, leb, ltb}
use Rattle.spec.specs.Form.{Form}
use Rattle.spec.specs.Bytes.{le_bytes, field_at, fields_of, fields_bytes, same, begins, occurs_at, each, keep, largest, rising, every, set_of}

-- ---- the record of one chunk and one keyword

-- The paper's "notes on one chunk and one word": prefix, suffix, finds; and the starts at which the chunk lies inside the keyword, as a set
-- (request #108), which is empty in forms without sets.
pub record MatchRecord : Type 0 where
  pub prefix : ℕ
  pub suffix : ℕ
  pub offsets : List ℕ
  pub inner : ℕ

-- The greatest length of a prefix or suffix: the smaller of n - 1 and L.
unfoldable pub reach : ℕ → ℕ → ℕ
reach n size = min (n - 1) size

-- The chunk's last i bytes are the keyword's first i.
abbrev pub ends_with : List ℕ → List ℕ → ℕ → Bool
ends_with keyword chunk i = begins (take i keyword) (drop (length chunk - i) chunk)

-- The chunk's first j bytes are the keyword's last j.
abbrev pub starts_with : List ℕ → List ℕ → ℕ → Bool
starts_with keyword chunk j = begins (drop (length keyword - j) keyword) chunk

-- prefix: the largest i in reach such that the chunk's last i bytes are the keyword's first i.
unfoldable pub prefix_of : List ℕ → List ℕ → ℕ
prefix_of keyword chunk = largest (ends_with keyword chunk) (reach (length keyword) (length chunk))

-- suffix: the largest j in reach such that the chunk's first j bytes are the keyword's last j.
unfoldable pub suffix_of : List ℕ → List ℕ → ℕ
suffix_of keyword chunk = largest (starts_with keyword chunk) (reach (length keyword) (length chunk))

-- finds: every offset in the chunk where the whole keyword occurs, rising, overlaps included.
unfoldable pub offsets_of : List ℕ → List ℕ → List ℕ
offsets_of keyword chunk = each (λ at. keep (occurs_at keyword chunk at) at) 0 (length chunk)

-- The chunk is the keyword's L bytes from p.
abbrev pub lies_at : List ℕ → List ℕ → ℕ → Bool
lies_at keyword chunk p = begins (take (length chunk) (drop p keyword)) chunk

-- Request #108's set: each start p from 1 to n - 1 - L where the chunk equals the keyword's L bytes from p; bit p, worth 2 to the p, for start p.
unfoldable pub inner_of : List ℕ → List ℕ → ℕ
inner_of keyword chunk = set_of (λ p. leb 1 p && lies_at keyword chunk p) (length keyword - length chunk)

unfoldable pub record_of : Form → List ℕ → List ℕ → MatchRecord
record_of f keyword chunk =
    record {
      prefix = prefix_of keyword chunk;
      suffix = suffix_of keyword chunk;
      offsets = offsets_of keyword chunk;
      inner = cond f.sets (inner_of keyword chunk) 0;
    }

-- What an index says of one chunk: its length and a record for each keyword.
pub record ChunkRecords : Type 0 where
  pub size : ℕ
  pub records : List MatchRecord

unfoldable pub records_of : Form → List (List ℕ) → List ℕ → ChunkRecords
records_of f keywords chunk = record { size = length chunk; records = map (λ keyword. record_of f keyword chunk) keywords }

abbrev pub empty_record : MatchRecord
empty_record = record { prefix = 0; suffix = 0; offsets = []; inner = 0 }

abbrev pub record_at : ChunkRecords → ℕ → MatchRecord
record_at here k = get_or here.records k empty_record

-- ---- empty, tiny, full: prefix, suffix and offsets alone decide

abbrev pub is_empty : MatchRecord → Bool
is_empty r = eqb r.prefix 0 && eqb r.suffix 0 && eqb (length r.offsets) 0

-- No offset, prefix and suffix at most the form's length, not both 0.
abbrev pub is_tiny : Form → ℕ → MatchRecord → Bool
is_tiny f n r =
    eqb (length r.offsets) 0
    && leb r.prefix (f.tiny_most n)
    && leb r.suffix (f.tiny_most n)
    && not (is_empty r)

-- A record keeps the ranges, for a keyword of length n and a chunk of length `size`: prefix and suffix in reach, offsets rising and at
-- most L - n.
unfoldable pub in_range : ℕ → ℕ → MatchRecord → Bool
in_range n size r =
    leb r.prefix (reach n size)
    && leb r.suffix (reach n size)
    && rising r.offsets
    && every (λ at. leb (at + n) size) r.offsets

-- A set has bits for the starts 1 to n - 1 - L alone; in a form without sets it is empty.
unfoldable pub set_in_range : Form → ℕ → ℕ → ℕ → Bool
set_in_range f n size set = ltb set (cond f.sets (2 ^ (n - size)) 1) && eqb (set % 2) 0

-- ---- the written form

-- kind 1: at most one offset; kind 2: 2 to 254; kind 3: 255 or more.
abbrev pub kind_of : ℕ → ℕ
kind_of count = cond (leb count 1) 1 (cond (leb count 254) 2 3)

-- The offsets behind a record's head: none for kind 1; for kind 3 the exact count first.
unfoldable pub offsets_bytes : Form → List ℕ → List ℕ
offsets_bytes f offsets =
    cond (leb (length offsets) 1) []
    (cond (leb (length offsets) 254) [] (le_bytes f.width (length offsets)) ++ fields_bytes f.width offsets)

-- The head of a full record: keyword number, kind, prefix, suffix, count, first offset (0 if none).
unfoldable pub head_bytes : Form → ℕ → MatchRecord → List ℕ
head_bytes f k r =
    k ∷ kind_of (length r.offsets) ∷ r.prefix ∷ r.suffix ∷ min (length r.offsets) 255 ∷ le_bytes f.width (get_or r.offsets 0 0)

-- The head, and the offsets.
unfoldable pub full_bytes : Form → ℕ → MatchRecord → List ℕ
full_bytes f k r = head_bytes f k r ++ offsets_bytes f r.offsets

-- Keyword number, kind 0, the tiny byte.
abbrev pub tiny_bytes : Form → ℕ → MatchRecord → List ℕ
tiny_bytes f k r = k ∷ 0 ∷ (r.prefix + f.tiny_step * r.suffix) ∷ []

-- The record of keyword k, of length n, without its set. An empty one is not written.
unfoldable pub record_bytes : Form → ℕ → ℕ → MatchRecord → List ℕ
record_bytes f n k r = cond (is_empty r) [] (cond (is_tiny f n r) (tiny_bytes f k r) (full_bytes f k r))

-- kind 4: keyword number, 4, the set in 4 bytes. An empty one is not written.
unfoldable pub set_bytes : ℕ → ℕ → List ℕ
set_bytes k set = cond (eqb set 0) [] (k ∷ 4 ∷ le_bytes 4 set)

-- A body: the records by rising keyword number, from keyword k on, each with its set behind it. `lengths` has the keywords' lengths.
unfoldable pub body_from : Form → ℕ → List ℕ → List MatchRecord → List ℕ
body_from f k [] records = []
body_from f k (n ∷ lengths) [] = []
body_from f k (n ∷ lengths) (r ∷ records) = record_bytes f n k r ++ (set_bytes k r.inner ++ body_from f (suc k) lengths records)

abbrev pub body_bytes : Form → List ℕ → List MatchRecord → List ℕ
body_bytes f lengths records = body_from f 0 lengths records

-- ---- reading back

-- The offsets that a full record's bytes say, by its kind; the exact count of kind 3 stands behind the first offset.
unfoldable pub read_offsets : Form → List ℕ → List ℕ
read_offsets f bytes =
    cond (eqb (get_or bytes 1 0) 1) (cond (eqb (get_or bytes 4 0) 0) [] (field_at bytes 5 f.width ∷ []))
    (cond (eqb (get_or bytes 1 0) 2) (fields_of f.width (get_or bytes 4 0) (drop (5 + f.width) bytes))
    (fields_of f.width (field_at bytes (5 + f.width) f.width) (drop (5 + 2 * f.width) bytes)))

-- The record that bytes starting with a keyword number say, whether or not they are its written form.
unfoldable pub read_record : Form → List ℕ → MatchRecord
read_record f bytes =
    cond (eqb (get_or bytes 1 0) 0)
    (record { prefix = get_or bytes 2 0 % f.tiny_step; suffix = get_or bytes 2 0 / f.tiny_step; offsets = []; inner = 0 })
    (record { prefix = get_or bytes 2 0; suffix = get_or bytes 3 0; offsets = read_offsets f bytes; inner = 0 })

-- How many bytes that record takes, by its kind.
unfoldable pub record_size : Form → List ℕ → ℕ
record_size f bytes =
    cond (eqb (get_or bytes 1 0) 0) 3
    (cond (eqb (get_or bytes 1 0) 1) (5 + f.width)
    (cond (eqb (get_or bytes 1 0) 2) (5 + f.width + f.width * get_or bytes 4 0)
    (5 + 2 * f.width + f.width * field_at bytes (5 + f.width) f.width)))

-- Keyword k's set is next, in a form that has sets; its record of kind 0 to 3 is.
abbrev pub set_is_next : Form → ℕ → List ℕ → Bool
set_is_next f k bytes = f.sets && begins (k ∷ 4 ∷ []) bytes

abbrev pub record_is_next : Form → ℕ → List ℕ → Bool
record_is_next f k bytes = not (set_is_next f k bytes) && begins (k ∷ []) bytes

-- How many bytes the record takes, and the set.
unfoldable pub record_taken : Form → ℕ → List ℕ → ℕ
record_taken f k bytes = cond (record_is_next f k bytes) (record_size f bytes) 0

unfoldable pub set_taken : Form → ℕ → List ℕ → ℕ
set_taken f k bytes = cond (set_is_next f k bytes) 6 0

-- The set that the bytes start with; empty where it is not next.
unfoldable pub read_set : Form → ℕ → List ℕ → ℕ
read_set f k bytes = cond (set_is_next f k bytes) (field_at bytes 2 4) 0

abbrev pub with_set : MatchRecord → ℕ → MatchRecord
with_set r set = record { prefix = r.prefix; suffix = r.suffix; offsets = r.offsets; inner = set }

-- What the bytes say of keyword k: its record, which is the empty one where that is not next, and the set behind it.
unfoldable pub read_keyword : Form → ℕ → List ℕ → MatchRecord
read_keyword f k bytes =
    with_set (cond (record_is_next f k bytes) (read_record f bytes) empty_record) (read_set f k (drop (record_taken f k bytes) bytes))

-- The bytes behind both.
unfoldable pub behind_keyword : Form → ℕ → List ℕ → List ℕ
behind_keyword f k bytes = drop (set_taken f k (drop (record_taken f k bytes) bytes)) (drop (record_taken f k bytes) bytes)

-- The records of `count` keywords, from keyword k on.
unfoldable pub read_from : Form → ℕ → ℕ → List ℕ → List MatchRecord
read_from f k zero bytes = []
read_from f k (suc count) bytes = read_keyword f k bytes ∷ read_from f (suc k) count (behind_keyword f k bytes)

abbrev pub read_body : Form → ℕ → List ℕ → List MatchRecord
read_body f count body = read_from f 0 count body

-- Each keyword's record keeps the ranges, and so does its set.
unfoldable pub all_in_range : Form → ℕ → List ℕ → List MatchRecord → Bool
all_in_range f size [] records = true
all_in_range f size (n ∷ lengths) [] = false
all_in_range f size (n ∷ lengths) (r ∷ records) = in_range n size r && (set_in_range f n size r.inner && all_in_range f size lengths records)

-- A body is good if it is the writing of records that keep the ranges, for keywords of these lengths and a chunk of length `size`.
unfoldable pub good_body : Form → List ℕ → ℕ → List ℕ → Bool
good_body f lengths size body =
    same (body_bytes f lengths (read_body f (length lengths) body)) body
    && all_in_range f size lengths (read_body f (length lengths) body)
