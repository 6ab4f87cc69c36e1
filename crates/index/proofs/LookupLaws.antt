-- The answers of a lookup in an index, each by the tests that led there, and where the body is. Assumes nothing.
use mathlib.Core.Path.{◌≡◌, refl, sym, ap, ap₂, ◌∙◌}
use mathlib.Core.Logic.{◌≢◌}
use mathlib.Core.List.{List, []}
use Prim.Native.Nat.{ℕ, ◌+◌, ◌*◌, ◌-◌, ◌≤◌}
use native.Mathlib.Nat.{add-sub_cancel_left}
use native.Mathlib.Omega.{arith}
use lib.ListN.{length, take, drop}
use Rattle.spec.specs.Bytes.{part, field_at, position_of}
use Rattle.spec.specs.Keywords.{keywords_of, list_size, keyword_front_code}
use Rattle.spec.specs.Directory.{entry_field, offset_at, length_at}
use Rattle.spec.specs.Store.{chunk_count}
use Rattle.spec.specs.declared.Format.{Format}
use Rattle.spec.specs.declared.Opened.{Opened}
use Rattle.spec.specs.Form.{form_of, format_of}
use Rattle.spec.specs.Index.{list_in, index_layout, index_keys, body_at, index_code}
use Rattle.spec.specs.Opened.{opened_of}
use Rattle.spec.specs.Outcome.{Outcome, Done, Refused, answer}
use Rattle.spec.specs.Lookup.{find_body, body_start, body_length, body_of}
use Rattle.spec.proofs.LookupLaws.{refuses, finds, done-code, refused-number, lookup-refused, lookup-length, lookup-none, lookup-found}
use Rattle.spec.proofs.LookupLaws.{lookup-passed, start-found, length_found, start-refused, length-refused}
use Rattle.spec.proofs.KeywordLaws.{accepted}
use Rattle.spec.proofs.IndexChecks.{index-good, length-index_keys}
use Rattle.directory.specs.Chains.{keys_from, Lies}
use Rattle.keywords.specs.declared.Keywords.{Keywords}
use Rattle.keywords.specs.Parsed.{Parsed, parsed_of}
use Rattle.index.specs.Stages.{Headed, IndexEntry}
use Rattle.index.proofs.StageLaws.{keys-are, field_is, end_is}
use Rattle.index.proofs.CheckLaws.{list-is, listed}

-- ---- an index that passed its check

module _ (index : List ℕ) (z : index_code (form_of index) index ≡ 0) where
  pub header-there : 8 ≤ length index
  header-there = (index-good (form_of index) index z).header

  pub list-good : keyword_front_code (take (length index - 8) (drop 8 index)) ≡ 0
  list-good = ap keyword_front_code (list-is index) ∙ (index-good (form_of index) index z).list

  pub list-short : list_size (list_in index) ≤ 530
  list-short = (accepted (list_in index) (index-good (form_of index) index z).list).short

  -- what the readers of the index go by
  module _ (words : Keywords) (p : words ≡ parsed_of (take (length index - 8) (drop 8 index))) where
    read : Parsed (list_in index) words
    read = listed index words (index-good (form_of index) index z).list p

    pub start_small : 8 + words.size ≤ 538
    start_small = omega (arith, read.short)

    pub opened-is : (count : ℕ) → count ≡ chunk_count index → (format : Format) → format ≡ format_of (form_of index)
        → record { directory = 8 + words.size; entries = count; keywords = words.count; longest = words.most; format = format } ≡ opened_of index
    unfolding opened_of
    opened-is count c format f =
        let n : words.count ≡ length (keywords_of (list_in index)) =
        omega (arith, read.counts, (accepted (list_in index) (index-good (form_of index) index z).list).count)
        in
        λ i. record { directory = 8 + read.ends i; entries = c i; keywords = n i; longest = read.longer i; format = f i }

  module _ (known : Opened) (e : known ≡ opened_of index) where
    pub start_is : known.directory ≡ 8 + list_size (list_in index)
    unfolding opened_of
    start_is = ap (λ (o : Opened). o.directory) e

    pub count-is : known.entries ≡ chunk_count index
    unfolding opened_of
    count-is = ap (λ (o : Opened). o.entries) e

  module _ (start count : ℕ) (s : start ≡ 8 + list_size (list_in index)) (c : count ≡ chunk_count index) where
    pub headed-again : Headed index start count
    headed-again = record {
      header = header-there;
      counts = c;
      few = rw c (index-good (form_of index) index z).few;
      starts = s;
      short = omega (arith, list-short);
    }

    pub lies_in : Lies index start 32 count
    lies_in = record {
      inside = rw (end_is index start count headed-again) (index-good (form_of index) index z).room;
      keyed = omega arith;
      few = rw c (index-good (form_of index) index z).few;
    }

    pub keys_in : keys_from index start 32 count ≡ index_keys index
    keys_in = keys-are index start count headed-again

-- ---- the answer of a lookup

module _ (index fp : List ℕ) where
  abbrev located : Outcome
  located = answer (find_body (form_of index) index fp) (position_of fp (index_keys index))

  pub refused-check : (code : ℕ) → code ≡ index_code (form_of index) index → code ≢ 0 → Refused code ≡ located
  unfolding find_body
  refused-check code e d = refuses code _ _ (lookup-refused (index_code (form_of index) index) (index_keys index) fp code e d) d

  pub refused-length : index_code (form_of index) index ≡ 0 → length fp ≢ 20 → Refused 19 ≡ located
  unfolding find_body
  refused-length z d = refuses 19 _ _ (lookup-length (index_code (form_of index) index) (index_keys index) fp z d) (λ e. omega arith)

  -- what an answer says
  pub told-done : (k : ℕ) → Done k ≡ located → (find_body (form_of index) index fp ≡ 0) × (k ≡ position_of fp (index_keys index))
  told-done k e = done-code k (find_body (form_of index) index fp) (position_of fp (index_keys index)) e

  pub told-refused : (n : ℕ) → Refused n ≡ located → (n ≡ find_body (form_of index) index fp) × (find_body (form_of index) index fp ≢ 0)
  told-refused n e = refused-number n (find_body (form_of index) index fp) (position_of fp (index_keys index)) e

  -- the fingerprint's place among c
  module _ (z : index_code (form_of index) index ≡ 0) (l : length fp ≡ 20) (c : ℕ) (e : c ≡ chunk_count index) (k : ℕ)
      (q : k ≡ position_of fp (index_keys index)) where
    counted : c ≡ length (index_keys index)
    counted = e ∙ sym (length-index_keys index)

    pub refused_none : k ≡ c → Refused 15 ≡ located
    unfolding find_body
    refused_none n = refuses 15 _ _ (lookup-none (index_code (form_of index) index) (index_keys index) fp z l c counted k q n) (λ e. omega arith)

    pub found_at : k ≢ c → Done k ≡ located
    unfolding find_body
    found_at n = finds k _ _ (lookup-found (index_code (form_of index) index) (index_keys index) fp z l c counted k q n) q

-- ---- the entries of an index that passed its check

module _ (index : List ℕ) (k : ℕ) (entry : IndexEntry index k) (start : ℕ) (s : start ≡ 8 + list_size (list_in index)) where
  pub entry-room : start + 32 * k + 32 ≤ length index
  entry-room =
      let l = lies_in index entry.checked start (chunk_count index) s refl in
      omega (arith, l.inside, entry.within)

  pub entry-is : (field : ℕ) → field_at index (start + 32 * k + field) 4 ≡ entry_field (index_layout index) index field k
  entry-is field = field_is index start (chunk_count index) (headed-again index entry.checked start (chunk_count index) s refl) field k

module _ (index : List ℕ) (k : ℕ) (entry : IndexEntry index k) (at n : ℕ)
    (p : at ≡ entry_field (index_layout index) index 24 k) (q : n ≡ entry_field (index_layout index) index 28 k) where
  offset-is : at ≡ offset_at (index_layout index) index k
  unfolding index_layout
  offset-is = p

  length-is : n ≡ length_at (index_layout index) index k
  unfolding index_layout
  length-is = q

  pub body-room : at + n ≤ length index
  body-room = rw (offset-is, length-is) ((index-good (form_of index) index entry.checked).entries.within k (omega arith) (omega (arith, entry.within))).1

  -- the slice that body_at takes
  pub body-slice : take (at + n - at) (drop at index) ≡ body_at index k
  unfolding body_at
  body-slice = rw (add-sub_cancel_left, offset-is, length-is)

  pub offset-found : at ≡ offset_at (index_layout index) index k
  offset-found = offset-is

-- ---- where a lookup's body is

module _ (index fp : List ℕ) (k : ℕ) (z : find_body (form_of index) index fp ≡ 0) (q : k ≡ position_of fp (index_keys index)) where
  -- a fingerprint that is found has an entry
  pub found-entry : IndexEntry index k
  unfolding find_body
  found-entry =
      let t = lookup-passed (index_code (form_of index) index) (index_keys index) fp z in
      record { checked = t.0; within = omega (arith, t.2, length-index_keys index) }

  pub start-there : entry_field (index_layout index) index 24 k ≡ body_start (form_of index) index fp
  unfolding body_start find_body index_layout
  start-there = start-found (index_code (form_of index) index) (index_keys index) fp (index_layout index) index k z q

  pub length-there : entry_field (index_layout index) index 28 k ≡ body_length (form_of index) index fp
  unfolding body_length find_body index_layout
  length-there = length_found (index_code (form_of index) index) (index_keys index) fp (index_layout index) index k z q

  pub body-there : {bytes : List ℕ} → bytes ≡ body_at index k → bytes ≡ body_of (form_of index) index fp
  unfolding body_at body_of index_layout
  body-there e = e ∙ ap₂ (part index) start-there length-there

  pub offset-there : offset_at (index_layout index) index k ≡ body_start (form_of index) index fp
  unfolding index_layout
  offset-there = start-there

module _ (index fp : List ℕ) (d : find_body (form_of index) index fp ≢ 0) where
  pub start_none : 0 ≡ body_start (form_of index) index fp
  unfolding body_start find_body
  start_none = start-refused (index_code (form_of index) index) (index_keys index) fp (index_layout index) index d

  pub length_none : 0 ≡ body_length (form_of index) index fp
  unfolding body_length find_body
  length_none = length-refused (index_code (form_of index) index) (index_keys index) fp (index_layout index) index d

  pub slice-none : [] ≡ body_of (form_of index) index fp
  unfolding body_of
  slice-none = rw (← length_none)
