-- A list that was read: its numbers, and where each keyword is in the list's bytes.
use Rattle.std.specs.Prelude.{◌≡◌, List, [], ◌∷◌, map, ℕ, ◌+◌, ◌≤◌, ◌<◌, length, drop, get_or, replicate}
use Rattle.spec.specs.Bytes.{part, written}
use Rattle.spec.specs.Keywords.{count_of, flag_of, keywords_of, list_size, longest, read_code, keyword_front_code}
use Rattle.keywords.specs.declared.Keywords.{Keywords}

-- Where the first bytes are of keywords that lie one after the other from `at` on, each behind its length byte.
unfoldable pub starts_from : ℕ → List (List ℕ) → List ℕ
starts_from at [] = []
starts_from at (keyword ∷ keywords) = (at + 1) ∷ starts_from (at + 1 + length keyword) keywords

-- What reading a list gives. The keywords lie behind count and flag; both arrays are 0 behind the last keyword.
unfoldable pub parsed_of : List ℕ → Keywords
parsed_of list =
    record {
      count = count_of list;
      flag = flag_of list;
      size = list_size list;
      most = longest (keywords_of list);
      start = written (replicate 16 0) (starts_from 2 (keywords_of list));
      len = written (replicate 16 0) (map length (keywords_of list));
    }

-- What functions that take the struct ask: it is that of a list that the keyword check accepts.
pub record Reads (list : List ℕ) (words : Keywords) : Type 0 where
  pub accepted : keyword_front_code list ≡ 0
  pub parsed : words ≡ parsed_of list

-- ---- what callers read from it

-- The list reads without fault from the front: two bytes, count and flag in range, and each keyword whole.
pub record ReadableList (list : List ℕ) : Type 0 where
  pub header : 2 ≤ length list
  pub nonempty : 1 ≤ count_of list
  pub most : count_of list ≤ 16
  pub flag : flag_of list ≤ 1
  pub read : read_code (count_of list) (drop 2 list) ≡ 0

-- Keyword k of the list is the n bytes from `at`, all within the list.
pub record Placed (list : List ℕ) (k at n : ℕ) : Type 0 where
  pub bytes : part list at n ≡ get_or (keywords_of list) k []
  pub room : at + n ≤ list_size list
  pub nonempty : 1 ≤ n
  pub most : n ≤ 32

-- What the struct says of the list, for callers' proofs: it follows from `parsed_of` (proofs/Reading).
pub record Parsed (list : List ℕ) (words : Keywords) : Type 0 where
  pub counts : words.count ≡ count_of list
  pub nonempty : 1 ≤ words.count
  pub few : words.count ≤ 16
  pub flags : words.flag ≡ flag_of list
  pub bit : words.flag ≤ 1
  pub ends : words.size ≡ list_size list
  pub room : words.size ≤ length list
  pub short : words.size ≤ 530
  pub longer : words.most ≡ longest (keywords_of list)
  pub starts : length words.start ≡ 16
  pub lens : length words.len ≡ 16
  pub placed : (k : ℕ) → k < words.count → Placed list k (get_or words.start k 0) (get_or words.len k 0)

-- The places of a list whose keywords may be alike, for their comparison.
pub record Places (list : List ℕ) (flag count : ℕ) (start len : List ℕ) : Type 0 where
  pub flags : flag ≡ flag_of list
  pub few : count ≤ 16
  pub counts : length (keywords_of list) ≡ count
  pub room : list_size list ≤ length list
  pub placed : (k : ℕ) → k < count → Placed list k (get_or start k 0) (get_or len k 0)
