-- The streams of a place: for each keyword its offsets in the chunk, then its starts that cross into the next chunk.
use Rattle.std.specs.Prelude.{◌≡◌, Bool, true, cond, List, [], ◌∷◌, ◌++◌, ℕ, zero, suc, ◌+◌, ◌*◌, ◌/◌, ◌%◌, ◌^◌, ◌≤◌, ◌<◌, length, drop, get_or, eqb, ltb}
use Rattle.std.specs.Int.Count.{ones}
use Rattle.spec.specs.Bytes.{fields_of, each, keep, member, rising, every, sum}
use Rattle.spec.specs.Join.{Occurrence, occurrences_at}
use Rattle.listing.specs.declared.Place.{Place}

-- Every number of the list is below the bound.
abbrev pub below : ℕ → List ℕ → Bool
below n xs = every (λ x. ltb x n) xs

-- The members of a set of d digits, lowest first, each counted from `from`.
unfoldable pub bits : ℕ → ℕ → ℕ → List ℕ
bits zero from x = []
bits (suc d) from x = keep (eqb (x % 2) 1) from ++ bits d (suc from) (x / 2)

-- What the keywords' streams give, by rising offset, and at one offset by rising keyword.
unfoldable pub occurrences : ℕ → ℕ → ℕ → ℕ → (ℕ → List ℕ) → List Occurrence
occurrences file count base size s = each (λ p. occurrences_at file count (λ k. member p (s k)) (base + p)) 0 size

-- ---- one stream, held in five numbers: head, at, left, from, set

-- What is unread behind its head: `left` fields of the index from `at` on, then the members of the set.
unfoldable pub unread : List ℕ → ℕ → List ℕ → List ℕ
unread index width s = fields_of width (get_or s 2 0) (drop (get_or s 1 0) index) ++ bits 32 (get_or s 3 0) (get_or s 4 0)

-- A stream whose first number is `head`; it has ended where that is not below the size.
abbrev pub headed : ℕ → ℕ → List ℕ → List ℕ
headed size head rest = cond (ltb head size) (head ∷ rest) []

-- What an open stream gives: its head, and what is unread.
unfoldable pub stream : List ℕ → ℕ → ℕ → List ℕ → List ℕ
stream index width size s = headed size (get_or s 0 0) (unread index width s)

-- The set is one of 32 digits, and the number of fields is no larger than a chunk.
pub record small (s : List ℕ) : Type 0 where
  pub left : get_or s 2 0 < 2 ^ 32
  pub set : get_or s 4 0 < 2 ^ 32

-- How many numbers are unread.
abbrev pub numbers : List ℕ → ℕ
numbers s = get_or s 2 0 + ones (get_or s 4 0)

-- What is unread rises, stays below the size and lies in the index.
pub record ReadableStream (index : List ℕ) (width size : ℕ) (s : List ℕ) : Type 0 where
  pub up : rising (unread index width s) ≡ true
  pub under : below size (unread index width s) ≡ true
  pub inside : get_or s 1 0 + width * get_or s 2 0 ≤ length index
  pub set : get_or s 4 0 < 2 ^ 32

-- The same of an open stream.
pub record Open (index : List ℕ) (width size : ℕ) (s : List ℕ) : Type 0 where
  pub up : rising (stream index width size s) ≡ true
  pub under : below size (stream index width size s) ≡ true
  pub inside : get_or s 1 0 + width * get_or s 2 0 ≤ length index
  pub set : get_or s 4 0 < 2 ^ 32

-- A stream that is opened, or taken one number on: it gives what was unread.
pub record Pulled (index : List ℕ) (width size : ℕ) (s s' : List ℕ) : Type 0 where
  pub opened : Open index width size s'
  pub same : stream index width size s' ≡ unread index width s

-- ---- the streams of all keywords

abbrev pub stream_of : List (List ℕ) → ℕ → List ℕ
stream_of streams k = get_or streams k []

abbrev pub unread_at : List ℕ → ℕ → List (List ℕ) → ℕ → List ℕ
unread_at index width streams k = unread index width (stream_of streams k)

abbrev pub stream_at : List ℕ → ℕ → ℕ → List (List ℕ) → ℕ → List ℕ
stream_at index width size streams k = stream index width size (stream_of streams k)

pub record ReadableStreams (index : List ℕ) (width size count : ℕ) (streams : List (List ℕ)) : Type 0 where
  pub long : count ≤ length streams
  pub each : (k : ℕ) → k < count → ReadableStream index width size (stream_of streams k)

-- How many numbers are unread of each stream below `count`, and of all of them.
abbrev pub numbers_of : List (List ℕ) → ℕ → List ℕ
numbers_of streams count = each (λ k. numbers (stream_of streams k) ∷ []) 0 count

abbrev pub total : List (List ℕ) → ℕ → ℕ
total streams count = sum (numbers_of streams count)

pub record Held (index : List ℕ) (width size count : ℕ) (streams : List (List ℕ)) : Type 0 where
  pub long : count ≤ length streams
  pub each : (k : ℕ) → k < count → Open index width size (stream_of streams k)

-- The first index of the least heads.
pub record Least (streams : List (List ℕ)) (count k : ℕ) : Type 0 where
  pub within : k < count
  pub low : (j : ℕ) → j < count → get_or (stream_of streams k) 0 0 ≤ get_or (stream_of streams j) 0 0
  pub first : (j : ℕ) → j < k → get_or (stream_of streams k) 0 0 < get_or (stream_of streams j) 0 0

-- ---- the occurrences of a place

-- Those at a place, by its streams, which are not open yet.
abbrev pub place_list : Place → List ℕ → List (List ℕ) → List Occurrence
place_list place index streams =
    occurrences place.file place.count place.base place.size (unread_at index place.width streams)

-- What open streams give. The file's number and where the place starts do not bear on how many that are, so they are 0 here.
abbrev pub given : List ℕ → ℕ → ℕ → ℕ → List (List ℕ) → List Occurrence
given index width size count streams = occurrences 0 count 0 size (stream_at index width size streams)

-- The streams are open, and give what was unread.
pub record OpenedStreams (index : List ℕ) (width size count : ℕ) (streams streams' : List (List ℕ)) : Type 0 where
  pub held : Held index width size count streams'
  pub same : (k : ℕ) → k < count → stream_at index width size streams' k ≡ unread_at index width streams k

-- The first occurrence is taken off open streams, whatever the file's number and wherever the place starts.
pub record NextTaken (index : List ℕ) (width size count : ℕ) (streams streams' : List (List ℕ)) (keyword offset : ℕ) : Type 0 where
  pub held : Held index width size count streams'
  pub named : keyword < count
  pub bound : offset < size
  pub found : (file base : ℕ) → occurrences file count base size (stream_at index width size streams)
      ≡ record { file = file; offset = base + offset; keyword = keyword } ∷ occurrences file count base size (stream_at index width size streams')
