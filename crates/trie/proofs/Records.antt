-- What the walk tells of a chunk's record: occurrences by the nodes on the way, the prefix by the last node. Both are endings of what was read that
-- are nodes, so they are endings of the node. The suffix is looked for by itself. Assumes nothing.
use mathlib.Core.Path.{◌≡◌, sym, ap, ◌∙◌}
use mathlib.Core.Logic.{◌⊎◌, inl, inr}
use mathlib.Core.Bool.{Bool, true, cond}
use mathlib.Core.List.{List, [], ◌++◌, map, append-nil}
use Prim.Native.Nat.{ℕ, suc, ◌+◌, ◌-◌, ◌≤◌, ◌<◌}
use native.Mathlib.Nat.{le_refl, zero-add}
use native.Mathlib.Omega.{arith}
use lib.ListN.{length, take, drop, length-drop}
use lib.Seq.{take_all}
use Rattle.spec.specs.Bytes.{contains, occurs_at, each, keep}
use Rattle.spec.specs.Keywords.{count_of, flag_of, folded, keywords_of, folded_keywords}
use Rattle.spec.specs.Form.{Form}
use Rattle.spec.specs.Records.{record_of, records_of, suffix_of, offsets_of, inner_of}
use Rattle.spec.specs.Join.{keyword_at}
use Rattle.spec.specs.Scan.{scan_records}
use Rattle.spec.proofs.Tests.{le-or-lt, leb-true, leb-false}
use Rattle.spec.proofs.Begins.{begins-short}
use Rattle.spec.proofs.Each.{each-match, each_append, each_none}
use Rattle.spec.proofs.Folding.{folded-length}
use Rattle.spec.proofs.KeywordLaws.{Accepted, folded-count, folded-keyword}
use Rattle.spec.proofs.EntryLaws.{contains-at}
use Rattle.spec.proofs.Tabulated.{map-match}
use Rattle.spec.specs.Trie.{is_node, node_after}
use Rattle.trie.specs.Endings.{is_ending, ends_at, prefix_at, walk_record}
use Rattle.trie.proofs.Endings.{ends-ending, largest-match, prefix-ending}
use Rattle.trie.proofs.Nodes.{beginning-is-node, ending-of-longest}
use Rattle.trie.proofs.Walks.{walk-node}

-- keyword k is one of the list
pub keyword-contained : (keywords : List (List ℕ)) (k : ℕ) → k < length keywords → contains (keyword_at keywords k) keywords ≡ true
keyword-contained keywords k h = contains-at keywords k h

-- ---- occurrences by their ends

module _ (w c : List ℕ) where
  -- by its start, and by its end
  abbrev pub started : ℕ → List ℕ
  started at = keep (occurs_at w c at) at

  abbrev pub ended : ℕ → List ℕ
  ended p = keep (ends_at w c p) (p - length w)

  -- no room for the keyword behind its start
  started_none : (at : ℕ) → 1 ≤ length w → length c < at + length w → started at ≡ []
  started_none at l h = rw (begins-short w (drop at c) (rw length-drop (omega arith)))

  -- nor before its end
  ended-none : (p : ℕ) → p < length w → ended p ≡ []
  unfolding ends_at
  ended-none p h = rw (leb-false (length w) p h)

  ended-started : (at : ℕ) → ended (length w + at) ≡ started at
  unfolding ends_at
  ended-started at =
      let e : length w + at - length w ≡ at = omega arith in
      rw (leb-true (length w) (length w + at) (omega arith), e)

  -- only the first m starts, or the last m ends, count
  started-part : (m n : ℕ) → 1 ≤ length w → length c < m + length w → each started 0 (m + n) ≡ each started 0 m
  started-part m n h l =
      each_append started 0 m n
      ∙ ap (λ (t : List ℕ). each started 0 m ++ t) (each_none started (0 + m) n (λ at k _. started_none at h (omega arith)))
      ∙ append-nil _

  ended-part : (m : ℕ) → 1 ≤ length w → each ended 1 (length w - 1 + m) ≡ each started 0 m
  ended-part m h =
      let e : 1 + (length w - 1) ≡ length w = omega arith in
      each_append ended 1 (length w - 1) m
      ∙ ap (λ (t : List ℕ). t ++ each ended (1 + (length w - 1)) m) (each_none ended 1 (length w - 1) (λ p _ k. ended-none p (omega arith)))
      ∙ rw e (each-match ended started (length w) 0 m (λ at _. ended-started at ∙ rw zero-add))

  -- the offsets, gathered by rising end
  offsets-by-end : 1 ≤ length w → offsets_of w c ≡ each ended 1 (length c)
  unfolding offsets_of
  offsets-by-end h = go (le-or-lt (length w) (length c))
    where
      go : (length w ≤ length c) ⊎ (length c < length w) → each started 0 (length c) ≡ each ended 1 (length c)
      go (inl l) =
          let m = suc (length c - length w) in
          let e : length c ≡ m + (length w - 1) = omega arith in
          let f : length c ≡ length w - 1 + m = omega arith in
          ap (each started 0) e ∙ started-part m (length w - 1) h (omega arith) ∙ sym (ap (each ended 1) f ∙ ended-part m h)
      go (inr l) =
          each_none started 0 (length c) (λ at _ m. started_none at h (omega arith))
          ∙ sym (each_none ended 1 (length c) (λ p _ m. ended-none p (omega arith)))

-- ---- the record, told from the nodes

module _ (keywords : List (List ℕ)) (keyword : List ℕ) (known : contains keyword keywords ≡ true) where
  pub keyword-is-node : is_node keywords keyword ≡ true
  keyword-is-node = ap (is_node keywords) (sym (take_all (length keyword) keyword (le_refl _))) ∙ beginning-is-node keywords keyword (length keyword) known

  -- an ending that is a node, told from the node after the bytes
  ending-at-node : (u bytes : List ℕ) → is_node keywords u ≡ true → is_ending u bytes ≡ is_ending u (node_after keywords bytes)
  ending-at-node u bytes n = ending-of-longest keywords u bytes n ∙ ap (is_ending u) (sym (walk-node keywords bytes))

  -- the keyword ends at place p of the chunk exactly when it is an ending of the node after p bytes
  pub occurrence-at-node : (chunk : List ℕ) (p : ℕ) → p ≤ length chunk → ends_at keyword chunk p ≡ is_ending keyword (node_after keywords (take p chunk))
  occurrence-at-node chunk p h = ends-ending keyword chunk p h ∙ ending-at-node keyword (take p chunk) keyword-is-node

  -- the record's prefix is the keyword's longest proper beginning that is an ending of the node after the whole chunk
  pub prefix-at-node : (f : Form) (chunk : List ℕ) → (record_of f keyword chunk).prefix ≡ prefix_at keyword (node_after keywords chunk)
  unfolding prefix_at
  prefix-at-node f chunk =
      prefix-ending f keyword chunk
      ∙ largest-match (λ i. is_ending (take i keyword) chunk) (λ i. is_ending (take i keyword) (node_after keywords chunk)) (length keyword - 1)
      (λ i l. ending-at-node (take i keyword) chunk (beginning-is-node keywords keyword i known))

  -- the record's offsets: for each place, by rising place, where the keyword is an ending of the node, its length back from there
  pub offsets-at-nodes : (f : Form) (chunk : List ℕ) → 1 ≤ length keyword
      → (record_of f keyword chunk).offsets
      ≡ each (λ p. keep (is_ending keyword (node_after keywords (take p chunk))) (p - length keyword)) 1 (length chunk)
  unfolding record_of
  offsets-at-nodes f chunk h =
      offsets-by-end keyword chunk h
      ∙ each-match (λ p. keep (ends_at keyword chunk p) (p - length keyword)) _ 1 1 (length chunk)
      (λ i l. ap (λ (t : Bool). keep t (1 + i - length keyword)) (occurrence-at-node chunk (1 + i) (omega arith)))

  -- so the whole record is the same
  pub walk-record : (f : Form) (chunk : List ℕ) → 1 ≤ length keyword → walk_record f keywords keyword chunk ≡ record_of f keyword chunk
  unfolding walk_record record_of
  walk-record f chunk h =
      λ i. record {
        prefix = sym (prefix-at-node f chunk) i;
        suffix = suffix_of keyword chunk;
        offsets = sym (offsets-at-nodes f chunk h) i;
        inner = cond f.sets (inner_of keyword chunk) 0;
      }

-- ---- all records of a chunk

-- one walk tells the records of all keywords
pub walk-records : (f : Form) (keywords : List (List ℕ)) (chunk : List ℕ) → ((k : ℕ) → k < length keywords → 1 ≤ length (keyword_at keywords k))
    → map (λ keyword. walk_record f keywords keyword chunk) keywords ≡ (records_of f keywords chunk).records
unfolding records_of
walk-records f keywords chunk nonempty =
    map-match (λ keyword. walk_record f keywords keyword chunk) (λ keyword. record_of f keyword chunk) [] keywords
    (λ k h. walk-record keywords (keyword_at keywords k) (keyword-contained keywords k h) f chunk (nonempty k h))

accepted-some : (list : List ℕ) → Accepted list → (k : ℕ) → k < count_of list → 1 ≤ length (keyword_at (folded_keywords list) k)
accepted-some list good k h =
    let w = keyword_at (keywords_of list) k in
    let e : length (keyword_at (folded_keywords list) k) ≡ length w = ap length (folded-keyword list k) ∙ folded-length (flag_of list) w in
    omega (arith, (good.proper k h).0)

-- so for an accepted keyword list the scan's records, and with them the bytes of the index, are those that the walk tells
pub scan-walk-records : (f : Form) (list chunk : List ℕ) → Accepted list
    → map (λ keyword. walk_record f (folded_keywords list) keyword (folded (flag_of list) chunk)) (folded_keywords list) ≡ (scan_records f list chunk).records
unfolding scan_records
scan-walk-records f list chunk good =
    walk-records f (folded_keywords list) (folded (flag_of list) chunk)
    (λ k h. accepted-some list good k (omega (arith, folded-count list, good.count)))
