-- An index has one form: one that passes the index check is the writing of what it says, so two that say the same are the same bytes.
-- The directory and the bodies are put together entry by entry, from the place where each starts. Elements must be bytes, since a field
-- says its value only then in one way. Assumes nothing.
use mathlib.Core.Path.{◌≡◌, refl, sym, ap, ap₂, ◌∙◌}
use mathlib.Core.List.{List, [], ◌++◌, append_assoc}
use Prim.Native.Nat.{ℕ, zero, suc, ◌+◌, ◌*◌, ◌≤◌, ◌<◌}
use native.Mathlib.Nat.{add-zero}
use native.Mathlib.Omega.{arith}
use lib.ListN.{length, drop, get_or, length-take, length-drop, take-append-drop}
use lib.Seq.{drop-drop, drop-length, length-take-le}
use Rattle.spec.specs.Bytes.{part, field_at, le_bytes, AllBytes}
use Rattle.spec.specs.Keywords.{list_size}
use Rattle.spec.specs.Directory.{size_at, offset_at, length_at, pointed_at, entries_code}
use Rattle.spec.specs.Store.{chunk_count}
use Rattle.spec.specs.Form.{Form}
use Rattle.spec.specs.Records.{body_bytes}
use Rattle.spec.specs.Index.{Entry, directory_bytes, index_bytes, list_in, index_layout, index_keys, body_at, lengths_in, index_records, entry_bytes, list_bytes_in}
use Rattle.spec.proofs.FieldLists.{bytes_drop, le_bytes-take}
use Rattle.spec.proofs.EntryLaws.{entries-step, entries-last, key_in-at}
use Rattle.spec.proofs.KeywordLaws.{accepted}
use Rattle.spec.proofs.RecordLaws.{good-is-written}
use Rattle.spec.proofs.Tabulated.{tabulated, length-tabulated, tabulated-same}
use Rattle.spec.proofs.WrittenEntries.{bodies_of, entry_layout, directory-cons}
use Rattle.spec.proofs.IndexChecks.{IndexGood}

-- ---- bytes taken apart

module _ (bytes : List ℕ) (at : ℕ) where
  pub part-split : (n : ℕ) → drop at bytes ≡ part bytes at n ++ drop (at + n) bytes
  part-split n = sym (rw drop-drop at (take-append-drop n (drop at bytes)))

  -- a field, with what is known to follow it
  pub field-split : (width next : ℕ) (rest : List ℕ) → AllBytes bytes → at + width ≤ length bytes → at + width ≡ next → drop next bytes ≡ rest
      → drop at bytes ≡ le_bytes width (field_at bytes at width) ++ rest
  field-split width next rest b h e r =
      part-split width
      ∙ ap₂ {C = List ℕ} (λ x y. x ++ y) (sym (le_bytes-take width (drop at bytes) (bytes_drop at bytes b) (rw length-drop (omega arith)))) (rw e r)

entry-same : (key size : List ℕ) (offset at n m : ℕ) (rest more : List ℕ) → offset ≡ at → n ≡ m → rest ≡ more
    → key ++ (size ++ (le_bytes 4 offset ++ (le_bytes 4 n ++ rest))) ≡ key ++ (size ++ (le_bytes 4 at ++ (le_bytes 4 m ++ more)))
entry-same key size offset at n m rest more o l r = cc

-- ---- the entries that bytes say, with a directory that starts at `start`

module _ (index : List ℕ) (start : ℕ) where
  abbrev pub entry_in : ℕ → Entry
  entry_in k =
      record {
        key = part index (start + 32 * k) 20;
        size = size_at (entry_layout start) index k;
        body = pointed_at (entry_layout start) index k;
      }

  module _ (bytes : AllBytes index) where
    entry-split : (at : ℕ) → at + 32 ≤ length index
        → drop at index ≡ part index at 20 ++ (le_bytes 4 (field_at index (at + 20) 4) ++ (le_bytes 4 (field_at index (at + 24) 4) ++ (le_bytes 4 (field_at index (at + 28) 4) ++ drop (at + 32) index)))
    entry-split at h =
        part-split index at 20
        ∙ ap (λ (l : List ℕ). part index at 20 ++ l)
        (field-split index (at + 20) 4 (at + 24) _ bytes (omega arith) (omega arith)
        (field-split index (at + 24) 4 (at + 28) _ bytes (omega arith) (omega arith)
        (field-split index (at + 28) 4 (at + 32) _ bytes (omega arith) (omega arith) refl)))

    module _ (most code : ℕ) (p : 0 < code) where
      -- n entries from k on, with their bodies from `at` on
      directory-is : (n k at : ℕ) → entries_code (entry_layout start) index most code n k at ≡ 0 → start + 32 * (k + n) ≤ length index
          → ((e : ℕ) → k ≤ e → e < k + n → offset_at (entry_layout start) index e + length_at (entry_layout start) index e ≤ length index)
          → drop (start + 32 * k) index ≡ directory_bytes at (tabulated entry_in k n) ++ drop (start + 32 * (k + n)) index
      unfolding directory_bytes entry_bytes
      directory-is zero k at e h w = rw add-zero
      directory-is (suc n) k at e h w =
          let s = entries-step (entry_layout start) index most code n k at p e in
          let l : length (pointed_at (entry_layout start) index k) ≡ length_at (entry_layout start) index k =
          let z = w k (omega arith) (omega arith) in simp (length-take, length-drop) (omega arith) in
          let more : drop (start + 32 * k + 32) index ≡ directory_bytes (at + length (pointed_at (entry_layout start) index k)) (tabulated entry_in (suc k) n) ++ drop (start + 32 * (k + suc n)) index =
          let a : start + 32 * k + 32 ≡ start + 32 * suc k = omega arith in
          let b : k + suc n ≡ suc k + n = omega arith in
          rw (a, b) (directory-is n (suc k) (at + length (pointed_at (entry_layout start) index k)) (rw l s.3) (omega arith) (λ j u v. w j (omega arith) (omega arith))) in
          entry-split (start + 32 * k) (omega arith)
          ∙ entry-same (part index (start + 32 * k) 20) (le_bytes 4 (size_at (entry_layout start) index k)) _ at _ _ _ _ s.2 (sym l) more
          ∙ sym (directory-cons at (entry_in k) (tabulated entry_in (suc k) n) (drop (start + 32 * (k + suc n)) index))

      bodies-are : (n k at : ℕ) → entries_code (entry_layout start) index most code n k at ≡ 0 → drop at index ≡ bodies_of (tabulated entry_in k n)
      bodies-are zero k at e = rw (entries-last (entry_layout start) index most code k at p e) (drop-length index)
      bodies-are (suc n) k at e =
          let s = entries-step (entry_layout start) index most code n k at p e in
          part-split index at (length_at (entry_layout start) index k)
          ∙ rw (bodies-are n (suc k) (at + length_at (entry_layout start) index k) s.3, s.2)

-- ---- a checked index

-- What an index says of the chunk of entry k, as an entry that a writer takes.
unfoldable pub entry_of : Form → List ℕ → ℕ → Entry
entry_of f index k =
    record {
      key = get_or (index_keys index) k [];
      size = size_at (index_layout index) index k;
      body = body_bytes f (lengths_in index) (index_records f index k).records;
    }

module _ (f : Form) (index : List ℕ) (good : IndexGood f index) (bytes : AllBytes index) where
  abbrev start : ℕ
  start = 8 + list_size (list_in index)

  abbrev entries : List Entry
  entries = tabulated (entry_in index start) 0 (chunk_count index)

  list_length : length (list_bytes_in index) ≡ list_size (list_in index)
  list_length = length-take-le (list_size (list_in index)) (list_in index) (accepted (list_in index) good.list).size

  room : start + 32 * chunk_count index ≤ length index
  unfolding index_layout
  room = good.room

  walk : entries_code (entry_layout start) index f.longest_chunk 11 (chunk_count index) 0 (start + 32 * chunk_count index) ≡ 0
  unfolding index_layout
  walk = good.walk

  within : (e : ℕ) → 0 ≤ e → e < 0 + chunk_count index → offset_at (entry_layout start) index e + length_at (entry_layout start) index e ≤ length index
  unfolding index_layout
  within e l h = (good.entries.within e l h).1

  at-directory : drop start index ≡ directory_bytes (start + 32 * chunk_count index) entries ++ bodies_of entries
  at-directory =
      let z : start + 32 * 0 ≡ start = omega arith in
      let y : start + 32 * (0 + chunk_count index) ≡ start + 32 * chunk_count index = omega arith in
      let d = directory-is index start bytes f.longest_chunk 11 (omega arith) (chunk_count index) 0 (start + 32 * chunk_count index) walk (rw y room) within in
      (rw (z, y) at d)
      ∙ ap (λ (l : List ℕ). directory_bytes (start + 32 * chunk_count index) entries ++ l)
      (bodies-are index start bytes f.longest_chunk 11 (omega arith) (chunk_count index) 0 (start + 32 * chunk_count index) walk)

  at-list : drop 8 index ≡ list_bytes_in index ++ drop start index
  at-list = part-split index 8 (list_size (list_in index))

  at_count : drop 4 index ≡ le_bytes 4 (chunk_count index) ++ drop 8 index
  at_count = field-split index 4 4 8 _ bytes (omega (arith, good.header)) refl refl

  at_mark : index ≡ f.mark ++ drop 4 index
  at_mark = part-split index 0 4 ∙ rw good.mark

  -- an index is its parts
  raw-form : index ≡ index_bytes f (list_bytes_in index) entries
  unfolding index_bytes
  raw-form =
      at_mark ∙ ap (λ (l : List ℕ). f.mark ++ l)
      (at_count ∙ ap (λ (l : List ℕ). le_bytes 4 (chunk_count index) ++ l)
      (at-list ∙ ap (λ (l : List ℕ). list_bytes_in index ++ l) at-directory))
      ∙ rw (list_length, length-tabulated (entry_in index start) 0 (chunk_count index)) (simp append_assoc)

  entry-same-as : (k : ℕ) → k < chunk_count index → entry_in index start k ≡ entry_of f index k
  unfolding entry_of index_keys index_layout index_records body_at
  entry-same-as k l = λ i. record {
    key = sym (key_in-at (index_layout index) index (chunk_count index) k l) i;
    size = size_at (index_layout index) index k;
    body = (good-is-written f (lengths_in index) (size_at (index_layout index) index k) (body_at index k) (good.bodies k l)).0 i;
  }

  -- it is the writing of what it says
  pub checked-is-written : index ≡ index_bytes f (list_bytes_in index) (tabulated (entry_of f index) 0 (chunk_count index))
  checked-is-written = raw-form ∙ ap (index_bytes f (list_bytes_in index)) (tabulated-same (entry_in index start) (entry_of f index) (chunk_count index) entry-same-as)
