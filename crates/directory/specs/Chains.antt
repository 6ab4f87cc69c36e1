-- Hash chains over the keys of a directory: how an entry is found by its key in expected constant time. Assumes nothing.
-- An entry e is stored as the number of entries from e on (count - e), so that 0 is "none" and an array of zeros is the empty index.
use Rattle.std.specs.Prelude.{◌≡◌, Bool, cond, List, [], ◌∷◌, ◌++◌, ℕ, suc, ◌+◌, ◌*◌, ◌-◌, ◌%◌, ◌≤◌, ◌<◌, length, get_or, drop, eqb}
use Rattle.spec.specs.Bytes.{fields_of, contains, position_of, each}
use Rattle.spec.specs.Directory.{Layout, keys_of}

-- ---- the hash of a key

-- One weight for each field of a key: odd, and below 2^29, so that the sum of five products is below 2^64.
abbrev pub weights : List ℕ
weights = 506832829 ∷ 374761393 ∷ 466882007 ∷ 298632863 ∷ 413158511 ∷ []

-- The sum of the fields, each times its weight.
abbrev pub weighted : List ℕ → List ℕ → ℕ
weighted [] fields = 0
weighted (weight ∷ rest) [] = 0
weighted (weight ∷ rest) (field ∷ fields) = field * weight + weighted rest fields

-- The hash of a key: over all its 20 bytes, as five fields. 65521 is the largest prime below 65536.
unfoldable pub hash_of : List ℕ → ℕ
hash_of key = weighted weights (fields_of 4 5 key) % 65521

-- ---- chains

-- The keys of a directory that starts at `start`.
abbrev pub keys_from : List ℕ → ℕ → ℕ → ℕ → List (List ℕ)
keys_from bytes start stride count = keys_of stride count (drop start bytes)

-- How many keys there are from the first key with the hash h on; 0 where no key has it.
abbrev pub tail_with : ℕ → List (List ℕ) → ℕ
tail_with h [] = 0
tail_with h (key ∷ keys) = cond (eqb (hash_of key) h) (suc (length keys)) (tail_with h keys)

-- The heads: for each hash, how many keys there are from the first key with it on; 0 where no key has it.
unfoldable pub heads_of : List (List ℕ) → List ℕ
heads_of keys = each (λ h. tail_with h keys ∷ []) 0 65536

-- The links: for each key, how many keys there are from the next key with its hash on; 0 where there is none.
unfoldable pub links_of : List (List ℕ) → List ℕ
links_of [] = []
links_of (key ∷ keys) = tail_with (hash_of key) keys ∷ links_of keys

-- The chains in one array: the 65,536 heads, then the links. The head of hash h is element h, the link of entry e is element 65536 + e.
unfoldable pub chains_of : List (List ℕ) → List ℕ
chains_of keys = heads_of keys ++ links_of keys

-- The position of the first key from entry e on that is the same as `key`; the number of keys where there is none.
abbrev pub place_from : List ℕ → List (List ℕ) → ℕ → ℕ
place_from key keys e = e + position_of key (drop e keys)

-- For each entry from k on, its link is to the first later one with the same hash.
pub record Linked (keys : List (List ℕ)) (k : ℕ) (chains : List ℕ) : Type 0 where
  pub long : 65536 + length keys ≤ length chains
  pub link : (e : ℕ) → k ≤ e → e < length keys → get_or chains (65536 + e) 0 ≡ tail_with (hash_of (get_or keys e [])) (drop (suc e) keys)

-- The entries from k on are in the index: the heads are the first one of each hash.
pub record Chained (keys : List (List ℕ)) (k : ℕ) (chains : List ℕ) : Type 0 where
  pub head : (h : ℕ) → h < 65536 → get_or chains h 0 ≡ tail_with h (drop k keys)
  pub links : Linked keys k chains

-- Entry k was put in front of those from k + 1 on; `duplicate` tells whether its key is one of theirs. Behind the keys' links, `chains` is as it
-- was (`chains₀`).
pub record Inserted (keys : List (List ℕ)) (k : ℕ) (chains₀ chains : List ℕ) (duplicate : Bool) : Type 0 where
  pub found : duplicate ≡ contains (get_or keys k []) (drop (suc k) keys)
  pub chained : Chained keys k chains
  pub rest : drop (65536 + length keys) chains ≡ drop (65536 + length keys) chains₀

-- The last n of the keys begin with one of the key's hash, or are none: a place on the chain of the key's hash.
pub record Starts (key : List ℕ) (keys : List (List ℕ)) (n : ℕ) : Type 0 where
  pub within : n ≤ length keys
  pub hash : 0 < n → hash_of (get_or keys (length keys - n) []) ≡ hash_of key

-- ---- what callers hand over

-- A directory of `count` entries lies in the bytes.
pub record Lies (bytes : List ℕ) (start stride count : ℕ) : Type 0 where
  pub inside : start + stride * count ≤ length bytes
  pub keyed : 20 ≤ stride
  pub few : count ≤ 65000

-- The array of an empty index: room for 65,000 links, and no head.
pub record Empty (chains : List ℕ) : Type 0 where
  pub long : 65536 + 65000 ≤ length chains
  pub none : (h : ℕ) → h < 65536 → get_or chains h 0 ≡ 0

-- The layout whose parts are given one by one.
abbrev pub layout_of : ℕ → ℕ → ℕ → ℕ → ℕ → Layout
layout_of start stride size_field offset_field length_field =
    record { start = start; stride = stride; size_field = size_field; offset_field = offset_field; length_field = length_field }
