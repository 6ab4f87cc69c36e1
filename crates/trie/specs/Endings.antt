-- What a node of the walk tells of the keywords: which end there, and the longest proper beginning of each that does. Keywords and chunks here are
-- folded already.
use Rattle.std.specs.Prelude.{Bool, ◌&&◌, cond, List, ℕ, ◌-◌, length, take, drop, leb}
use Rattle.spec.specs.Bytes.{same, occurs_at, each, keep, largest}
use Rattle.spec.specs.Form.{Form}
use Rattle.spec.specs.Records.{MatchRecord, suffix_of, inner_of}
use Rattle.spec.specs.Trie.{node_after}

-- u is an ending of the bytes.
unfoldable pub is_ending : List ℕ → List ℕ → Bool
is_ending u bytes = same u (drop (length bytes - length u) bytes)

-- An occurrence of the keyword ends at place p of the chunk: its last byte is the last of the chunk's first p.
unfoldable pub ends_at : List ℕ → List ℕ → ℕ → Bool
ends_at keyword chunk p = leb (length keyword) p && occurs_at keyword chunk (p - length keyword)

-- The length of the keyword's longest proper beginning that is an ending of the node ("all the longest prefixes" of a chunk's last node).
unfoldable pub prefix_at : List ℕ → List ℕ → ℕ
prefix_at keyword node = largest (λ i. is_ending (take i keyword) node) (length keyword - 1)

-- The record of a chunk and a keyword, as the walk tells it: the prefix from the last node, and for each place whose node ends with the keyword the
-- offset its length before. The suffix and the set are looked for by themselves.
unfoldable pub walk_record : Form → List (List ℕ) → List ℕ → List ℕ → MatchRecord
walk_record f keywords keyword chunk =
    record {
      prefix = prefix_at keyword (node_after keywords chunk);
      suffix = suffix_of keyword chunk;
      offsets = each (λ p. keep (is_ending keyword (node_after keywords (take p chunk))) (p - length keyword)) 1 (length chunk);
      inner = cond f.sets (inner_of keyword chunk) 0;
    }
