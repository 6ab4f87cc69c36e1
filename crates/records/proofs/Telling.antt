-- What a chunk's log, tally and last node say: its records, keyword by keyword. Assumes nothing.
use mathlib.Core.Path.{◌≡◌, sym, ap, ap₂, ◌∙◌}
use mathlib.Core.Logic.{⊎_elim}
use mathlib.Core.List.{List, []}
use Prim.Native.Nat.{ℕ, ◌+◌, ◌*◌, ◌≤◌, ◌<◌}
use native.Mathlib.Omega.{arith}
use lib.ListN.{length, get_or, get_or-eq_default}
use Rattle.spec.specs.Join.{keyword_at}
use Rattle.spec.specs.Keywords.{folded, folded_keywords, flag_of}
use Rattle.spec.specs.Form.{newest}
use Rattle.spec.specs.Records.{record_of, suffix_of, inner_of}
use Rattle.spec.proofs.Tests.{leb-true, le-or-lt}
use Rattle.spec.proofs.Folding.{folded-length}
use Rattle.keywords.specs.declared.Keywords.{Keywords}
use Rattle.logs.specs.declared.Tally.{Tally}
use Rattle.logs.specs.Log.{logged_offsets, AllFit, Tabled, Walked}
use Rattle.offset_lists.specs.Runs.{log_run}
use Rattle.records.specs.Summaries.{summary_of, list_bytes}
use Rattle.logs.specs.Tallies.{tally_of}
use Rattle.keywords.specs.Parsed.{Reads}
use Rattle.records.specs.Bodies.{found_at, list_of, Tells}
use Rattle.logs.proofs.Tallying.{tally-counts, tally-firsts, tally-count, tally-first}
use Rattle.logs.proofs.LogLaws.{logged-offsets, logged-prefix, logged-fits, logged_none, last-below}
use Rattle.records.proofs.BodyLaws.{keywords-count, keywords-few, flag_is, within, slice, slice_is, slice-most, length-is, length_some}

-- The list is read, the chunk is not longer than chunks are, the trie's arrays are its keywords', and its walk left this log and last node.
pub record Sources (list : List ℕ) (words : Keywords) (chunk log ends tails : List ℕ) (last : ℕ) : Type 0 where
  pub reads : Reads list words
  pub short : length chunk ≤ newest.longest_chunk
  pub tabled : Tabled (folded_keywords list) ends tails
  pub walked : Walked (folded_keywords list) (folded (flag_of list) chunk) log last

module _ (list : List ℕ) (words : Keywords) (chunk log ends tails : List ℕ) (last : ℕ) (s : Sources list words chunk log ends tails last) where
  abbrev keywords : List (List ℕ)
  keywords = folded_keywords list

  short : length (folded (flag_of list) chunk) ≤ 1048576
  short = omega (arith, folded-length (flag_of list) chunk, s.short)

  known : (k : ℕ) → k < words.count → k < length keywords
  known k h = omega (arith, keywords-count list words s.reads)

  lengths : (k : ℕ) → k < length keywords → get_or words.len k 0 ≡ length (keyword_at keywords k)
  lengths k h = sym (length-is list words s.reads k (omega (arith, keywords-count list words s.reads)))

  -- every entry can be read
  pub sources-fit : AllFit ends words.len log
  sources-fit =
      logged-fits keywords ends tails s.tabled (folded (flag_of list) chunk) log last s.walked short words.len lengths
      (omega (arith, keywords-count list words s.reads, keywords-few list words s.reads))

  -- the offsets that the log says of keyword k are its record's
  said : (k : ℕ) → k < words.count → logged_offsets ends k (get_or words.len k 0) log ≡ (found_at list chunk k).offsets
  unfolding found_at
  said k h =
      ap (λ (n : ℕ). logged_offsets ends k n log) (lengths k (known k h))
      ∙ logged-offsets keywords ends tails s.tabled (folded (flag_of list) chunk) log last s.walked short newest k (known k h) (length_some list words
      s.reads k h)

  module _ (tally : Tally) (t : tally ≡ tally_of ends words.len log) where
    few : (k : ℕ) → k < words.count → k < 16
    few k h = omega (arith, keywords-few list words s.reads)

    pub sources-tell : Tells list words chunk tails last tally
    unfolding found_at
    sources-tell = record {
      reads = s.reads;
      short = s.short;
      counted = tally-counts ends words.len log tally t;
      kept = tally-firsts ends words.len log tally t;
      inside = omega (arith, last-below keywords ends tails s.tabled (folded (flag_of list) chunk) log last s.walked short, s.tabled.long);
      prefix = λ k h. logged-prefix keywords ends tails s.tabled (folded (flag_of list) chunk) log last s.walked short newest k (known k h);
      count = λ k h. tally-count ends words.len log tally t k (few k h) ∙ ap length (said k h);
      first = λ k h. tally-first ends words.len log tally t k (few k h) ∙ ap (λ (l : List ℕ). get_or l 0 0) (said k h);
    }

    -- what the log lists of keyword k is its list
    pub sources-list : (k : ℕ) → k < words.count → log_run newest tally.counts words.len ends log k ≡ list_of list chunk k
    unfolding log_run list_bytes
    sources-list k h = rw (tally-count ends words.len log tally t k (few k h), said k h)

    pub sources-none : (k : ℕ) → words.count ≤ k → log_run newest tally.counts words.len ends log k ≡ []
    unfolding log_run
    sources-none k h = let e : get_or tally.counts k 0 ≡ 0 = none in rw (leb-true (get_or tally.counts k 0) 1 (omega arith))
      where
        none : get_or tally.counts k 0 ≡ 0
        none = ⊎_elim
            (λ (i : 16 ≤ k). get_or-eq_default tally.counts 0 {n = k} (omega (arith, tally-counts ends words.len log tally t)))
            (λ (i : k < 16). tally-count ends words.len log tally t k i ∙ ap length (logged_none keywords ends tails s.tabled
            (folded (flag_of list) chunk) log last s.walked short k (get_or words.len k 0) (omega (arith, keywords-count list words s.reads))))
            (le-or-lt 16 k)

-- ---- the summary of a keyword's record, as the code puts it together

module _ (list : List ℕ) (words : Keywords) (chunk tails : List ℕ) (last : ℕ) (tally : Tally) (t : Tells list words chunk tails last tally)
    (k : ℕ) (h : k < words.count) where
  pub summary-is : (suffix set : ℕ) → suffix ≡ suffix_of (folded words.flag (slice list words t.reads k h)) (folded words.flag chunk)
      → set ≡ inner_of (folded words.flag (slice list words t.reads k h)) (folded words.flag chunk)
      → record { prefix = get_or tails (last * 16 + k) 0; suffix = suffix; count = get_or tally.counts k 0; first = get_or tally.firsts k 0; set = set }
      ≡ summary_of (found_at list chunk k)
  unfolding summary_of found_at record_of
  summary-is suffix set e z =
      let w = slice_is list words t.reads k h in
      let f = flag_is list words t.reads in
      let q : suffix ≡ (found_at list chunk k).suffix = e ∙ ap₂ {C = ℕ} (λ keyword flag. suffix_of keyword (folded flag chunk)) w f in
      let p : set ≡ (found_at list chunk k).inner = z ∙ ap₂ {C = ℕ} (λ keyword flag. inner_of keyword (folded flag chunk)) w f in
      λ i. record { prefix = t.prefix k h i; suffix = q i; count = t.count k h i; first = t.first k h i; set = p i }

  pub tells-few : k < 16
  tells-few = omega (arith, keywords-few list words t.reads)

  pub tells-within : get_or words.start k 0 + get_or words.len k 0 ≤ length list
  tells-within = within list words t.reads k h

  pub tells-most : length (slice list words t.reads k h) ≤ 32
  tells-most = slice-most list words t.reads k h
