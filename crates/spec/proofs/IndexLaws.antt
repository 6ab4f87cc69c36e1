-- A written index is read as it was written: mark, chunk count, keyword list, fingerprints, lengths and bodies; and its entries pass the
-- check. The bytes are known behind each part in turn (Seams), the directory and the bodies are those of WrittenEntries. Assumes nothing.
use mathlib.Core.Path.{◌≡◌, refl, sym, ap, ◌∙◌}
use mathlib.Core.List.{List, ◌++◌, map, append_assoc}
use Prim.Native.Nat.{ℕ, ◌+◌, ◌*◌, ◌≤◌, ◌<◌}
use native.Mathlib.Omega.{arith}
use lib.ListN.{length, take, drop, get_or, length-append}
use lib.Seq.{take_at}
use Rattle.spec.specs.Bytes.{le_bytes}
use Rattle.spec.specs.Keywords.{keywords_of, list_size, keyword_code}
use Rattle.spec.specs.Directory.{directory_end, size_at, offset_at, length_at, entries_code}
use Rattle.spec.specs.Store.{chunk_count}
use Rattle.spec.specs.Form.{Form}
use Rattle.spec.specs.Index.{Entry, directory_bytes, index_bytes, list_in, index_layout, index_keys, body_at, lengths_in}
use Rattle.spec.proofs.Fields.{length-le_bytes}
use Rattle.spec.proofs.KnownBytes.{part-here, behind-part, field-here, behind-field}
use Rattle.spec.proofs.KeywordLaws.{keyword-front, keyword-whole}
use Rattle.spec.proofs.KeywordReads.{SameList, list-front}
use Rattle.spec.proofs.WrittenEntries.{bodies_of, Fits, no_entry, Every, length-directory, ReadsAs, Holds, start_in, entry-reads, keys-read}
use Rattle.spec.proofs.WrittenEntries.{SizeIn, entry_layout, written-pass}

-- What can be written: an accepted list, entries that fit their fields, and an index that 4-byte offsets reach.
pub record Writable (f : Form) (list : List ℕ) (entries : List Entry) : Type 0 where
  pub marked : length f.mark ≡ 4
  pub accepted : keyword_code list ≡ 0
  pub few : length entries ≤ 65000
  pub fit : Every Fits entries
  pub within : length (index_bytes f list entries) ≤ 4294967295

module _ (f : Form) (list : List ℕ) (entries : List Entry) where
  -- where the directory starts, and where the bodies do
  abbrev directory_start : ℕ
  directory_start = 8 + length list

  abbrev bodies_start : ℕ
  bodies_start = 8 + length list + 32 * length entries

  tail : List ℕ
  tail = directory_bytes bodies_start entries ++ bodies_of entries

  index-parts : index_bytes f list entries ≡ f.mark ++ (le_bytes 4 (length entries) ++ (list ++ tail))
  unfolding index_bytes tail
  index-parts = simp append_assoc

  -- it starts with the mark
  pub mark-first : length f.mark ≡ 4 → take 4 (index_bytes f list entries) ≡ f.mark
  mark-first h = part-here (index_bytes f list entries) 0 f.mark _ 4 h index-parts

  module _ (w : Writable f list entries) where
    at4 : drop 4 (index_bytes f list entries) ≡ le_bytes 4 (length entries) ++ (list ++ tail)
    at4 = behind-part (index_bytes f list entries) 0 f.mark _ 4 w.marked index-parts

    at8 : list_in (index_bytes f list entries) ≡ list ++ tail
    at8 = behind-field (index_bytes f list entries) 4 4 (length entries) (list ++ tail) at4

    at_directory : drop directory_start (index_bytes f list entries) ≡ directory_bytes bodies_start entries ++ bodies_of entries
    unfolding tail
    at_directory = behind-part (index_bytes f list entries) 8 list tail (length list) refl at8

    at_bodies : drop bodies_start (index_bytes f list entries) ≡ bodies_of entries
    at_bodies = behind-part (index_bytes f list entries) directory_start (directory_bytes bodies_start entries) (bodies_of entries) (32 * length entries) (length-directory bodies_start entries w.fit) at_directory

    pub index-length : length (index_bytes f list entries) ≡ bodies_start + length (bodies_of entries)
    unfolding tail
    index-length =
        ap length index-parts
        ∙ simp (length-append, w.marked, length-le_bytes, length-directory bodies_start entries w.fit) (omega arith)

    pub index-mark : take 4 (index_bytes f list entries) ≡ f.mark
    index-mark = mark-first w.marked

    pub index-count : chunk_count (index_bytes f list entries) ≡ length entries
    index-count = field-here (index_bytes f list entries) 4 4 (length entries) _ (omega (arith, w.few)) at4

    pub index-list : SameList list (list_in (index_bytes f list entries))
    index-list = rw at8 (list-front list tail (keyword-front list w.accepted))

    pub index-list-size : list_size (list_in (index_bytes f list entries)) ≡ length list
    index-list-size = index-list.size ∙ keyword-whole list w.accepted

    -- the list's own bytes
    pub index-list-bytes : take (list_size (list_in (index_bytes f list entries))) (list_in (index_bytes f list entries)) ≡ list
    index-list-bytes = rw (index-list-size, at8) (take_at list tail (length list) refl)

    pub index-layout : index_layout (index_bytes f list entries) ≡ entry_layout directory_start
    unfolding index_layout
    index-layout = rw index-list-size

    pub index-holds : Holds (index_bytes f list entries) directory_start bodies_start entries
    index-holds =
        record {
          rest = bodies_of entries;
          directory = at_directory;
          bodies = at_bodies;
          fit = w.fit;
          within = omega (arith, w.within, index-length);
        }

    pub index-keys : index_keys (index_bytes f list entries) ≡ map (λ e. e.key) entries
    unfolding index_keys
    index-keys = rw (index-layout, index-count) (keys-read (index_bytes f list entries) directory_start bodies_start entries index-holds)

    pub index-lengths : lengths_in (index_bytes f list entries) ≡ map length (keywords_of list)
    unfolding lengths_in
    index-lengths = ap (map length) index-list.keywords

    -- ---- entry k

    module _ (k : ℕ) (l : k < length entries) where
      entry-k : ReadsAs (index_bytes f list entries) (directory_start + 32 * k) (start_in bodies_start entries k) (get_or entries k no_entry)
      entry-k = entry-reads (index_bytes f list entries) directory_start bodies_start entries index-holds k l

      pub index-size : size_at (index_layout (index_bytes f list entries)) (index_bytes f list entries) k ≡ (get_or entries k no_entry).size
      index-size = rw index-layout entry-k.size

      pub index-offset : offset_at (index_layout (index_bytes f list entries)) (index_bytes f list entries) k ≡ start_in bodies_start entries k
      index-offset = rw index-layout entry-k.offset

      pub index-body_length : length_at (index_layout (index_bytes f list entries)) (index_bytes f list entries) k ≡ length (get_or entries k no_entry).body
      index-body_length = rw index-layout entry-k.body_length

      pub index-body : body_at (index_bytes f list entries) k ≡ (get_or entries k no_entry).body
      unfolding body_at
      index-body = rw (index-offset, index-body_length) entry-k.body

    -- ---- the check of the entries

    pub index-entries : (most code : ℕ) → Every (SizeIn most) entries
        → entries_code (index_layout (index_bytes f list entries)) (index_bytes f list entries) most code (chunk_count (index_bytes f list entries)) 0 (directory_end (index_layout (index_bytes f list entries)) (chunk_count (index_bytes f list entries))) ≡ 0
    index-entries most code s =
        let n : directory_start + 32 * 0 ≡ directory_start = omega arith in
        rw (index-layout, index-count)
        (written-pass (index_bytes f list entries) directory_start most code 0 bodies_start entries (rw n index-holds) s (sym index-length))
