-- The join: document 01, "Joining two notes" and "Recipes and the join". It is defined on any records, also those that no chunk gives.
use Rattle.std.specs.Prelude.{Bool, false, ◌&&◌, ◌||◌, not, cond, List, [], ◌∷◌, ◌++◌, map, ℕ, zero, suc, ◌+◌, ◌*◌, ◌-◌, ◌^◌, length, replicate, drop, get_or, take, eqb, leb, ltb}
use Rattle.spec.specs.Outcome.{Outcome, first_number, whole, answer, unless_refused, list_too_long, key_wrong, count_too_large}
use Rattle.spec.specs.declared.Tally.{Tally}
use Rattle.spec.specs.Bytes.{le_bytes, field_at, written, position_of, each, keep, member, begins, every, in_set}
use Rattle.spec.specs.Keywords.{folded_keywords, keywords_of, longest}
use Rattle.spec.specs.Directory.{size_at}
use Rattle.spec.specs.Form.{Form}
use Rattle.spec.specs.Records.{ChunkRecords, record_at}
use Rattle.spec.specs.Index.{list_in, index_layout, index_keys, index_records, index_code}
use Rattle.spec.specs.Table.{in_cell}
use Rattle.spec.specs.Recipes.{files_of, recipes_code, files_code}

-- ---- occurrences

-- The paper's "find": file, offset in the file, keyword number.
pub record Occurrence : Type 0 where
  pub file : ℕ
  pub offset : ℕ
  pub keyword : ℕ

abbrev pub keyword_at : List (List ℕ) → ℕ → List ℕ
keyword_at keywords k = get_or keywords k []

-- The keywords, by rising number, that pass the test at one offset.
unfoldable pub occurrences_at : ℕ → ℕ → (ℕ → Bool) → ℕ → List Occurrence
occurrences_at file count test offset = each (λ k. keep (test k) (record { file = file; offset = offset; keyword = k })) 0 count

-- ---- one place of a file

-- An occurrence that starts in the left chunk, `left` bytes before its end, and ends in the right one: its start is in the cell for the
-- left prefix i and the right suffix j, counted from i bytes before the left chunk's end.
unfoldable pub crosses : List ℕ → ℕ → ℕ → ℕ → Bool
crosses keyword i j left = leb left i && in_cell keyword i j (i - left)

-- The last `left` bytes of the recorded prefix i are the keyword's first `left`.
unfoldable pub starts : List ℕ → ℕ → ℕ → Bool
starts keyword i left = leb left i && begins (take left keyword) (drop (i - left) (take i keyword))

-- The keyword's bytes from p on are the first of the recorded suffix j.
unfoldable pub ends : List ℕ → ℕ → ℕ → Bool
ends keyword j p = begins (drop p keyword) (drop (length keyword - j) keyword)

-- Keyword k goes on from its byte p in the first of these chunks: it ends there, or the chunk's set has p and it goes on behind the chunk.
unfoldable pub goes_on : List ℕ → ℕ → ℕ → List ChunkRecords → Bool
goes_on keyword k p [] = false
goes_on keyword k p (here ∷ rest) =
    ends keyword (record_at here k).suffix p || (in_set (record_at here k).inner p && goes_on keyword k (p + here.size) rest)

-- An occurrence that starts in a chunk with recorded prefix i, `left` bytes before its end, against the chunks that follow it in its file: it
-- ends in the next one; or (request #108) its first bytes are the last of the prefix, the next chunk's set has its start there, and it goes on
-- behind that chunk. Where sets are empty, as in forms without them, the first alone is left. After the last chunk there is none.
abbrev pub crosses_into : List ℕ → ℕ → ℕ → List ChunkRecords → ℕ → Bool
crosses_into keyword k i [] left = false
crosses_into keyword k i (next ∷ rest) left =
    crosses keyword i (record_at next k).suffix left
    || (starts keyword i left && (in_set (record_at next k).inner left && goes_on keyword k (left + next.size) rest))

-- Keyword k is listed at an offset of a chunk: one of the chunk's own occurrences, or one that crosses its end.
unfoldable pub listed : List (List ℕ) → ChunkRecords → List ChunkRecords → ℕ → ℕ → Bool
listed keywords here rest at k =
    member at (record_at here k).offsets || crosses_into (keyword_at keywords k) k (record_at here k).prefix rest (here.size - at)

-- ---- files

-- The occurrences in a file, from its chunks' records; `base` is the offset at which the first of these chunks starts.
unfoldable pub join_from : ℕ → List (List ℕ) → ℕ → List ChunkRecords → List Occurrence
join_from file keywords base [] = []
join_from file keywords base (here ∷ rest) =
    each (λ at. occurrences_at file (length keywords) (listed keywords here rest at) (base + at)) 0 here.size
    ++ join_from file keywords (base + here.size) rest

abbrev pub join_file : ℕ → List (List ℕ) → List ChunkRecords → List Occurrence
join_file file keywords chunks = join_from file keywords 0 chunks

-- All files, numbered from `file` on: the lists of the single files one after the other.
unfoldable pub join_files : ℕ → List (List ℕ) → List (List ChunkRecords) → List Occurrence
join_files file keywords [] = []
join_files file keywords (chunks ∷ rest) = join_file file keywords chunks ++ join_files (suc file) keywords rest

-- ---- clients (request #110)

-- A key gives each keyword number its client, 0 to 3; a tally is the counts of the four.
pub record Clients : Type 0 where
  pub key : List ℕ
  pub tally : List ℕ

-- A tally's counts as a list, four counts as a tally, and what a join is lent.
abbrev pub counts_of : Tally → List ℕ
counts_of t = t.client0 ∷ t.client1 ∷ t.client2 ∷ t.client3 ∷ []

abbrev pub tally_of : ℕ → ℕ → ℕ → ℕ → Tally
tally_of client0 client1 client2 client3 = record { client0 = client0; client1 = client1; client2 = client2; client3 = client3 }

abbrev pub lent : List ℕ → Tally → Clients
lent key tally = record { key = key; tally = counts_of tally }

-- One client for all keywords, and a tally at zero: what the search program passes.
abbrev pub one_client : Clients
one_client = record { key = replicate 16 0; tally = replicate 4 0 }

-- How many occurrences of a list have number n, where each keyword has a number: its client's, or its own.
unfoldable pub count_by : (ℕ → ℕ) → ℕ → List Occurrence → ℕ
count_by number n [] = 0
count_by number n (o ∷ rest) = cond (eqb (number o.keyword) n) 1 0 + count_by number n rest

-- The same for each of the numbers below m.
unfoldable pub counts_by : (ℕ → ℕ) → ℕ → List Occurrence → List ℕ
counts_by number m list = each (λ n. count_by number n list ∷ []) 0 m

-- How many occurrences of a list are of each client's keywords.
abbrev pub client_counts : List ℕ → List Occurrence → List ℕ
client_counts key list = counts_by (λ k. get_or key k 0) 4 list

-- Counts with others added, one by one.
abbrev pub sums : List ℕ → List ℕ → List ℕ
sums [] more = []
sums (n ∷ rest) [] = n ∷ rest
sums (n ∷ rest) (m ∷ more) = (n + m) ∷ sums rest more

-- The clients' counts with those of a list.
unfoldable pub tally_with : Clients → List Occurrence → List ℕ
tally_with clients list = sums clients.tally (client_counts clients.key list)

-- A key has 16 bytes and names a client from 0 to 3 for each keyword of the list; what stands behind those is not looked at.
unfoldable pub is_key : ℕ → List ℕ → Bool
is_key keywords key = eqb (length key) 16 && every (λ client. leb client 3) (take keywords key)

-- No count passes 64 bits.
unfoldable pub fit64 : List ℕ → Bool
fit64 counts = every (λ n. ltb n (2 ^ 64)) counts

-- The tests of a key and a tally against a list: 22, then 23.
unfoldable pub clients_code : ℕ → Clients → List Occurrence → ℕ
clients_code keywords clients list =
    first_number ((not (is_key keywords clients.key), key_wrong) ∷ (not (fit64 (tally_with clients list)), count_too_large) ∷ [])

-- ---- the operation

-- The records of the chunks that a file names.
unfoldable pub file_records : Form → List ℕ → List (List ℕ) → List ChunkRecords
file_records f index file = map (λ key. index_records f index (position_of key (index_keys index))) file

unfoldable pub join_list : Form → List ℕ → List ℕ → List Occurrence
join_list f index recipes = join_files 0 (folded_keywords (list_in index)) (map (file_records f index) (files_of recipes))

-- File (4), offset in the file (4), keyword (1).
unfoldable pub occurrence_bytes : Occurrence → List ℕ
occurrence_bytes o = le_bytes 4 o.file ++ le_bytes 4 o.offset ++ le_bytes 1 o.keyword

unfoldable pub list_bytes : List Occurrence → List ℕ
list_bytes [] = []
list_bytes (o ∷ os) = occurrence_bytes o ++ list_bytes os

-- The occurrences that n runs of 9 bytes say: file (4), offset (4), keyword (1).
abbrev pub read_list : ℕ → List ℕ → List Occurrence
read_list zero bytes = []
read_list (suc n) bytes = record { file = field_at bytes 0 4; offset = field_at bytes 4 4; keyword = field_at bytes 8 1 } ∷ read_list n (drop 9 bytes)

-- What an inner chunk must have: the longest keyword's length minus 1; nothing where records have sets.
unfoldable pub inner_least : Form → List ℕ → ℕ
inner_least f list = cond f.sets 0 (longest (keywords_of list) - 1)

-- The join's refusals before 18: the index check, 14, then file by file 15, 16, 17.
unfoldable pub joinable_code : Form → List ℕ → List ℕ → ℕ
joinable_code f index recipes =
    first_number
    (whole (index_code f index)
    ∷ whole (recipes_code recipes)
    ∷ whole (files_code (index_keys index) (size_at (index_layout index) index) (inner_least f (list_in index)) (files_of recipes))
    ∷ [])

-- The whole refusal, for a buffer of `room` bytes: 18 behind those, then those of the clients' key and tally (request #110).
unfoldable pub join_code : Form → List ℕ → List ℕ → Clients → ℕ → ℕ
join_code f index recipes clients room =
    first_number
    (whole (joinable_code f index recipes)
    ∷ (ltb room (9 * length (join_list f index recipes)), list_too_long)
    ∷ whole (clients_code (length (keywords_of (list_in index))) clients (join_list f index recipes))
    ∷ [])

-- The join's answer, its buffer, and the clients' counts after it: the list is the buffer's first 9 × count bytes; a refusal changes no byte and no count.
unfoldable pub join_outcome : Form → List ℕ → List ℕ → Clients → ℕ → Outcome
join_outcome f index recipes clients room = answer (join_code f index recipes clients room) (length (join_list f index recipes))

unfoldable pub join_buffer : Form → List ℕ → List ℕ → Clients → List ℕ → List ℕ
join_buffer f index recipes clients out =
    unless_refused (join_code f index recipes clients (length out)) (written out (list_bytes (join_list f index recipes))) out

unfoldable pub join_tally : Form → List ℕ → List ℕ → Clients → ℕ → List ℕ
join_tally f index recipes clients room =
    unless_refused (join_code f index recipes clients room) (tally_with clients (join_list f index recipes)) clients.tally

-- The count that a join would report, whatever the buffer.
unfoldable pub count_outcome : Form → List ℕ → List ℕ → Outcome
count_outcome f index recipes = answer (joinable_code f index recipes) (length (join_list f index recipes))
