-- What a checked index gives to the walk: the entry of a fingerprint can be loaded, its rows are the definition's records, and those keep
-- the ranges. Assumes nothing.
use mathlib.Core.Path.{◌≡◌, refl, sym, ap, ap₂, ◌∙◌, subst}
use mathlib.Core.Logic.{◌⊎◌, inl, inr}
use mathlib.Core.Bool.{true}
use mathlib.Core.List.{List, [], ◌∷◌, map}
use Prim.Native.Nat.{ℕ, zero, suc, ◌+◌, ◌-◌, ◌*◌, ◌/◌, ◌%◌, ◌^◌, ◌≤◌, ◌<◌}
use native.Mathlib.Omega.{arith}
use lib.ListN.{length, get_or, drop, length-map, drop_of_length-le, replicate, length-replicate}
use lib.Seq.{drop-cons}
use Rattle.spec.specs.declared.Opened.{Opened}
use Rattle.spec.specs.declared.Format.{Format}
use Rattle.spec.specs.Bytes.{part, field_at, position_of}
use Rattle.spec.specs.Keywords.{list_size, flag_of, keywords_of, folded_all, folded_keywords, longest}
use Rattle.spec.specs.Directory.{directory_end, size_at, offset_at, length_at}
use Rattle.spec.specs.Store.{chunk_count}
use Rattle.spec.specs.Form.{Form, form_of, form_in}
use Rattle.spec.specs.Records.{MatchRecord, ChunkRecords, empty_record, record_at, in_range, set_in_range, all_in_range, read_body}
use Rattle.spec.specs.Index.{list_in, index_layout, index_keys, body_at, lengths_in, index_records, index_code, good_at}
use Rattle.spec.specs.Opened.{opened_of}
use Rattle.spec.specs.Join.{keyword_at, file_records}
use Rattle.spec.proofs.Tests.{le-or-lt}
use Rattle.spec.proofs.KeywordLaws.{Accepted, accepted, folded-count, folded-proper, folded-lengths}
use Rattle.spec.proofs.JoinIsSearch.{get_d_map, longest-at, longest-folded}
use Rattle.spec.proofs.EntryLaws.{length-keys, key-at}
use Rattle.spec.proofs.IndexChecks.{IndexGood, index-good}
use Rattle.spec.proofs.Forms.{FormRead, form-read}
use Rattle.spec.proofs.RecordLaws.{all_proper, good-is-written, range_none, range-first, set_first, range-rest, set_below, set-even}
use Rattle.spec.proofs.ScanLaws.{positive-lengths}
use Rattle.directory.specs.Chains.{keys_from, Lies}
use Rattle.loader.specs.Loaded.{fits_from, Row, row_of, row_end, set_at, Loadable}
use Rattle.loader.proofs.Loading.{Loaded}
use Rattle.loader.proofs.Fitting.{good-body-fits}
use Rattle.spec.specs.Recipes.{named}
use Rattle.walk.specs.Walking.{no_chunk, chunks_in, chunk_in, first_suffix, width_of, Checked, File, EntryAt, body_end, LoadedEntry, LoadedAt, LoadedPair}

-- ---- a file's chunks

module _ (index file : List ℕ) where
  pub chunks-length : length (chunks_in index file) ≡ length file / 20
  unfolding chunks_in file_records
  chunks-length = length-map (named file) _ ∙ length-keys 20 (length file / 20) file

  pub in-chunks : (n : ℕ) → n < length file / 20 → n < length (chunks_in index file)
  in-chunks n h = omega (arith, chunks-length)

  pub out-chunks : (n : ℕ) → length file / 20 ≤ n → length (chunks_in index file) ≤ n
  out-chunks n h = omega (arith, chunks-length)

  pub chunk-at : (n : ℕ) → n < length file / 20
      → chunk_in (chunks_in index file) n ≡ index_records (form_of index) index (position_of (part file (20 * n) 20) (index_keys index))
  unfolding chunks_in file_records
  chunk-at n h =
      get_d_map (λ key. index_records (form_of index) index (position_of key (index_keys index))) (named file) n [] no_chunk
      (rw (length-keys 20 (length file / 20) file) h)
      ∙ ap (λ (key : List ℕ). index_records (form_of index) index (position_of key (index_keys index))) (key-at 20 (length file / 20) n file h)

-- ---- an entry of a checked index

-- a record and a set in range for each keyword
range_at : (f : Form) (size : ℕ) (keywords : List (List ℕ)) (records : List MatchRecord) (k : ℕ) → all_in_range f size (map length keywords) records ≡ true
    → k < length keywords
    → (in_range (length (keyword_at keywords k)) size (get_or records k empty_record) ≡ true)
    × (set_in_range f (length (keyword_at keywords k)) size (get_or records k empty_record).inner ≡ true)
range_at f size [] records k e h = let z : ⊥ = omega arith in absurd z
range_at f size (w ∷ keywords) [] k e h = absurd (range_none f size (length w) (map length keywords) e)
range_at f size (w ∷ keywords) (r ∷ records) zero e h =
    (range-first f size (length w) (map length keywords) r records e, set_first f size (length w) (map length keywords) r records e)
range_at f size (w ∷ keywords) (r ∷ records) (suc k) e h = range_at f size keywords records k (range-rest f size (length w) (map length keywords) r records e) (omega arith)

module _ (index : List ℕ) (good : index_code (form_of index) index ≡ 0) where
  passed : IndexGood (form_of index) index
  passed = index-good (form_of index) index good

  lengths-are : lengths_in index ≡ map length (folded_keywords (list_in index))
  unfolding lengths_in
  lengths-are = sym (folded-lengths (list_in index))

  pub proper : (k : ℕ) → k < length (folded_keywords (list_in index))
      → (1 ≤ length (keyword_at (folded_keywords (list_in index)) k)) × (length (keyword_at (folded_keywords (list_in index)) k) ≤ 32)
  proper k h = folded-proper (list_in index) passed.list k (omega (arith, folded-count (list_in index), (accepted (list_in index) passed.list).count))

  positive : all_proper (lengths_in index) ≡ true
  positive = ap all_proper lengths-are ∙ positive-lengths (folded_keywords (list_in index)) proper

  pub count-is : length (lengths_in index) ≡ length (folded_keywords (list_in index))
  count-is = ap length lengths-are ∙ length-map (folded_keywords (list_in index)) length

  module _ (e : ℕ) (he : e < chunk_count index) where
    body-good : good_at (form_of index) index e ≡ true
    body-good = passed.bodies e he

    size-most : size_at (index_layout index) index e ≤ (form_of index).longest_chunk
    size-most = (passed.entries.sized e (omega arith) (omega arith)).1

    pub size_small : (index_records (form_of index) index e).size ≤ 1048576
    unfolding index_records
    size_small = omega (arith, size-most, (form-read index).longest)

    pub body-inside : offset_at (index_layout index) index e + length_at (index_layout index) index e ≤ length index
    body-inside = (passed.entries.within e (omega arith) (omega arith)).1

    ranges : (k : ℕ) → k < length (folded_keywords (list_in index))
        → (in_range (length (keyword_at (folded_keywords (list_in index)) k)) (index_records (form_of index) index e).size
        (record_at (index_records (form_of index) index e) k) ≡ true)
        × (set_in_range (form_of index) (length (keyword_at (folded_keywords (list_in index)) k)) (index_records (form_of index) index e).size
        (record_at (index_records (form_of index) index e) k).inner ≡ true)
    unfolding index_records
    ranges k h =
        let size : ℕ = size_at (index_layout index) index e in
        let records : List MatchRecord = read_body (form_of index) (length (lengths_in index)) (body_at index e) in
        range_at (form_of index) size (folded_keywords (list_in index)) records k
        (ap (λ (l : List ℕ). all_in_range (form_of index) size l records) (sym lengths-are)
        ∙ (good-is-written (form_of index) (lengths_in index) size (body_at index e) body-good).1)
        h

    pub records-good : (k : ℕ) → k < length (folded_keywords (list_in index))
        → in_range (length (keyword_at (folded_keywords (list_in index)) k)) (index_records (form_of index) index e).size
        (record_at (index_records (form_of index) index e) k) ≡ true
    records-good k h = (ranges k h).0

    pub sets-good : (k : ℕ) → k < length (folded_keywords (list_in index))
        → ((record_at (index_records (form_of index) index e) k).inner
        < 2 ^ (length (keyword_at (folded_keywords (list_in index)) k) - (index_records (form_of index) index e).size))
        × ((record_at (index_records (form_of index) index e) k).inner % 2 ≡ 0)
    sets-good k h =
        let n : ℕ = length (keyword_at (folded_keywords (list_in index)) k) in
        let size : ℕ = (index_records (form_of index) index e).size in
        let set : ℕ = (record_at (index_records (form_of index) index e) k).inner in
        (set_below (form_of index) n size set (ranges k h).1, set-even (form_of index) n size set (ranges k h).1)

    module _ (format : Format) (is : form_in format ≡ form_of index) (at len count : ℕ) (a : at ≡ offset_at (index_layout index) index e)
        (l : len ≡ length_at (index_layout index) index e) (c : count ≡ length (folded_keywords (list_in index))) where
      body-fits : fits_from (form_of index) 0 count (part index at len) ≡ true
      unfolding body_at
      body-fits =
          let z : ℕ = size_at (index_layout index) index e in
          rw (a, l, c, ← count-is) (good-body-fits (form_of index) (form-read index).good (lengths_in index) z (body_at index e) positive size-most body-good)

      pub body-loadable : (rows : List (List ℕ)) → count ≤ 16 → count ≤ length rows → Loadable format index at len count rows
      body-loadable rows few long =
          record {
            wide = (subst FormRead (sym is) (form-read index)).wide;
            few = few;
            long = long;
            inside = omega (arith, body-inside);
            whole = subst (λ (f : Form). fits_from f 0 count (part index at len) ≡ true) (sym is) body-fits;
          }

      record_is : (k : ℕ) → get_or (read_body (form_in format) count (part index at len)) k empty_record ≡ record_at (index_records (form_of index) index e) k
      unfolding body_at index_records
      record_is k =
          ap (λ (f : Form). get_or (read_body f count (part index at len)) k empty_record) is
          ∙ ap₂ (λ (n : ℕ) (body : List ℕ). get_or (read_body (form_of index) n body) k empty_record) (c ∙ sym count-is) (ap₂ (part index) a l)

      pub row_is : (rows : List (List ℕ)) → Loaded (form_in format) index at len count rows → (k : ℕ) → k < count
          → Row index format.width (row_of rows k) (record_at (index_records (form_of index) index e) k)
      row_is rows r k h = subst (Row index format.width (row_of rows k)) (record_is k) (r.each k h)

      pub row_ends : (rows : List (List ℕ)) → Loaded (form_in format) index at len count rows → (k : ℕ) → k < count
          → row_end format.width (row_of rows k) ≤ body_end index e
      row_ends rows r k h = omega (arith, r.ends k h, a, l)

      pub set_is : (rows : List (List ℕ)) → Loaded (form_in format) index at len count rows → (k : ℕ) → k < count
          → set_at (form_of index) index (body_end index e) (row_of rows k) k ≡ (record_at (index_records (form_of index) index e) k).inner
      set_is rows r k h =
          ap₂ (λ (f : Form) (end : ℕ). set_at f index end (row_of rows k) k) (sym is) (ap₂ (λ (x y : ℕ). x + y) (sym a) (sym l))
          ∙ r.sets k h
          ∙ ap (λ (m : MatchRecord). m.inner) (record_is k)

-- ---- an opened index

module _ (index : List ℕ) (opened : Opened) (d : Checked index opened) where
  pub starts : opened.directory ≡ 8 + list_size (list_in index)
  unfolding opened_of
  starts = ap (λ (o : Opened). o.directory) d.read

  pub counts : opened.entries ≡ chunk_count index
  unfolding opened_of
  counts = ap (λ (o : Opened). o.entries) d.read

  pub keywords-count : opened.keywords ≡ length (folded_keywords (list_in index))
  unfolding opened_of
  keywords-count = ap (λ (o : Opened). o.keywords) d.read ∙ sym (folded-count (list_in index))

  pub longest-keyword : (k : ℕ) → k < length (folded_keywords (list_in index)) → length (keyword_at (folded_keywords (list_in index)) k) ≤ opened.longest
  unfolding opened_of folded_keywords
  longest-keyword k u =
      let words : List (List ℕ) = folded_all (flag_of (list_in index)) (keywords_of (list_in index)) in
      let most : length (keyword_at words k) ≤ longest words = longest-at words k u in
      omega (arith, most, longest-folded (flag_of (list_in index)) (keywords_of (list_in index)), ap (λ (o : Opened). o.longest) d.read)

  list-accepted : Accepted (list_in index)
  list-accepted = accepted (list_in index) (passed index d.good).list

  pub few : opened.keywords ≤ 16
  few = omega (arith, keywords-count, folded-count (list_in index), list-accepted.count, list-accepted.most)

  pub nonempty : 0 < opened.keywords
  nonempty = omega (arith, keywords-count, folded-count (list_in index), list-accepted.count, list-accepted.nonempty)

  -- its format is that of its mark
  pub said : form_in opened.format ≡ form_of index
  unfolding opened_of
  said = subst (λ (o : Opened). form_in o.format ≡ form_of index) (sym d.read) (form-read index).said

  pub narrow : width_of opened ≤ 3
  narrow = (subst FormRead (sym said) (form-read index)).wide

-- ---- the directory

module _ (index : List ℕ) (opened : Opened) (d : Checked index opened) where
  pub position-is : (key : List ℕ) (e : ℕ) → e ≡ position_of key (keys_from index opened.directory 32 opened.entries) → e ≡ position_of key (index_keys index)
  unfolding index_keys index_layout
  position-is key e q = q ∙ ap₂ (λ (start n : ℕ). position_of key (keys_from index start 32 n)) (starts index opened d) (counts index opened d)

  pub lies : Lies index opened.directory 32 opened.entries
  unfolding index_layout
  lies =
      let c = passed index d.good in
      record {
        inside = omega (arith, starts index opened d, counts index opened d, c.room);
        keyed = omega arith;
        few = omega (arith, counts index opened d, c.few);
      }

-- ---- an entry

zeros : (n k : ℕ) → ◌≡◌ {A = ℕ} (get_or (row_of (replicate {A = List ℕ} n (replicate {A = ℕ} 4 0)) k) 1 0) 0
zeros zero k = refl
zeros (suc n) zero = refl
zeros (suc n) (suc k) = zeros n k

module _ (index : List ℕ) (opened : Opened) (d : Checked index opened) (e : ℕ) where
  abbrev entry : ℕ
  entry = opened.directory + 32 * e

  module _ (h : e < opened.entries) where
    pub in-directory : e < chunk_count index
    in-directory = omega (arith, counts index opened d)

    pub entry-room : entry + 32 ≤ length index
    unfolding index_layout
    entry-room = omega (arith, starts index opened d, counts index opened d, (passed index d.good).room)

    field_is : (field : ℕ) → field_at index (entry + field) 4 ≡ field_at index (directory_end (index_layout index) e + field) 4
    unfolding index_layout
    field_is field = ap (λ (s : ℕ). field_at index (s + 32 * e + field) 4) (starts index opened d)

    size_is : field_at index (entry + 20) 4 ≡ (index_records (form_of index) index e).size
    unfolding index_layout index_records
    size_is = field_is 20

    pub offset-is : field_at index (entry + 24) 4 ≡ offset_at (index_layout index) index e
    unfolding index_layout
    offset-is = field_is 24

    pub length-is : field_at index (entry + 28) 4 ≡ length_at (index_layout index) index e
    unfolding index_layout
    length-is = field_is 28

    module _ (at len : ℕ) (a : at ≡ field_at index (entry + 24) 4) (l : len ≡ field_at index (entry + 28) 4) where
      -- its body can be loaded
      pub entry-loadable : (rows : List (List ℕ)) → opened.keywords ≤ length rows → Loadable opened.format index at len opened.keywords rows
      entry-loadable rows long =
          body-loadable index d.good e in-directory opened.format (said index opened d) at len opened.keywords (a ∙ offset-is) (l ∙ length-is)
          (keywords-count index opened d) rows (few index opened d) long

      pub entry-loaded : (size : ℕ) (rows : List (List ℕ)) → size ≡ field_at index (entry + 20) 4
          → Loaded (form_in opened.format) index at len opened.keywords rows → LoadedEntry index opened e rows size
      entry-loaded size rows s r =
          record {
            long = r.long;
            sized = λ _. s ∙ size_is;
            small = omega (arith, s, size_is, size_small index d.good e in-directory);
            each = λ k u _. row_is index d.good e in-directory opened.format (said index opened d) at len opened.keywords
                (a ∙ offset-is) (l ∙ length-is) (keywords-count index opened d) rows r k u;
            sets = λ _. record {
              ended = row_ends index d.good e in-directory opened.format (said index opened d) at len opened.keywords
                  (a ∙ offset-is) (l ∙ length-is) (keywords-count index opened d) rows r;
              inner = set_is index d.good e in-directory opened.format (said index opened d) at len opened.keywords
                  (a ∙ offset-is) (l ∙ length-is) (keywords-count index opened d) rows r;
            };
            none = λ k u. let z : ⊥ = omega (arith, in-directory) in absurd z;
          }

  -- behind the last entry
  pub none-loaded : opened.entries ≤ e → LoadedEntry index opened e (replicate {A = List ℕ} 16 (replicate {A = ℕ} 4 0)) 0
  none-loaded h =
      record {
        long = omega (arith, few index opened d, length-replicate {A = List ℕ} 16 (replicate {A = ℕ} 4 0));
        sized = λ u. let z : ⊥ = omega (arith, counts index opened d) in absurd z;
        small = omega arith;
        each = λ k u v. let z : ⊥ = omega (arith, counts index opened d) in absurd z;
        sets = λ u. let z : ⊥ = omega (arith, counts index opened d) in absurd z;
        none = λ k u. zeros 16 k;
      }

-- ---- place n of a file

module _ (index file slots : List ℕ) (f : File index file slots) (n : ℕ) where
  -- its entry, from its slot
  pub slot_is : n < length file / 20 → n < length slots → get_or slots n 0 ≡ position_of (part file (20 * n) 20) (index_keys index)
  slot_is h l =
      f.slotted.each n (rw (length-keys 20 (length file / 20) file) h) l
      ∙ ap (λ (key : List ℕ). position_of key (index_keys index)) (key-at 20 (length file / 20) n file h)

  pub entry-inside : n < length file / 20 → (e : ℕ) → e ≡ position_of (part file (20 * n) 20) (index_keys index) → EntryAt index file n e
  entry-inside h e q = record { inside = λ _. q; behind = λ u. let z : ⊥ = omega arith in absurd z }

  pub entry-behind : length file / 20 ≤ n → (e : ℕ) → e ≡ chunk_count index → EntryAt index file n e
  entry-behind h e q = record { inside = λ u. let z : ⊥ = omega arith in absurd z; behind = λ _. q }

  module _ (e : ℕ) (a : EntryAt index file n e) where
    pub entry-most : e ≤ chunk_count index
    entry-most = go (le-or-lt (length file / 20) n)
      where
        go : (length file / 20 ≤ n) ⊎ (n < length file / 20) → e ≤ chunk_count index
        go (inl h) = omega (arith, a.behind h)
        go (inr h) = omega (arith, a.inside h, f.found n h)

    pub place-loaded : (opened : Opened) (rows : List (List ℕ)) (size : ℕ) → LoadedEntry index opened e rows size
        → LoadedAt index opened (chunks_in index file) n rows size
    place-loaded opened rows size l =
        record {
          long = l.long;
          sized = λ m. l.sized (found m) ∙ ap (λ (x : ChunkRecords). x.size) (sym (same m));
          small = l.small;
          each = row;
          suffix = λ k u. go k u (le-or-lt (length chunks) n);
        }
      where
        chunks : List ChunkRecords
        chunks = chunks_in index file

        within : n < length chunks → n < length file / 20
        within m = rw (chunks-length index file) at m

        found : n < length chunks → e < chunk_count index
        found m = omega (arith, a.inside (within m), f.found n (within m))

        same : n < length chunks → chunk_in chunks n ≡ index_records (form_of index) index e
        same m = chunk-at index file n (within m) ∙ ap (index_records (form_of index) index) (sym (a.inside (within m)))

        row : (k : ℕ) → k < opened.keywords → n < length chunks → Row index (width_of opened) (row_of rows k) (record_at (chunk_in chunks n) k)
        row k u m = subst (λ (x : ChunkRecords). Row index (width_of opened) (row_of rows k) (record_at x k)) (sym (same m)) (l.each k u (found m))

        go : (k : ℕ) → k < opened.keywords → (length chunks ≤ n) ⊎ (n < length chunks) → get_or (row_of rows k) 1 0 ≡ first_suffix (drop n chunks) k
        go k u (inl h) =
            l.none k (omega (arith, a.behind (rw (chunks-length index file) at h)))
            ∙ sym (ap (λ (x : List ChunkRecords). first_suffix x k) (drop_of_length-le chunks h))
        go k u (inr m) = (row k u m).suffix ∙ sym (ap (λ (x : List ChunkRecords). first_suffix x k) (drop-cons chunks n no_chunk m))

-- the entry of a place is one of the index, or the number of entries
pub entry-known : (index : List ℕ) (opened : Opened) (file slots : List ℕ) → Checked index opened → File index file slots → (n e : ℕ) → EntryAt index file n e
    → e ≤ opened.entries
entry-known index opened file slots d f n e a = omega (arith, counts index opened d, entry-most index file slots f n e a)

-- a place that is loaded, and the place behind it
pub pair-loaded : (index file slots : List ℕ) → File index file slots → (n : ℕ) → n < length file / 20 → (opened : Opened)
    → (rows : List (List ℕ)) (size : ℕ) → LoadedAt index opened (chunks_in index file) n rows size → (e : ℕ) → EntryAt index file (n + 1) e
    → (rows' : List (List ℕ)) (size' : ℕ) → LoadedEntry index opened e rows' size'
    → LoadedPair index opened (chunks_in index file) n rows rows' size size'
pair-loaded index file slots f n h opened rows size first e a rows' size' l =
    record { inside = in-chunks index file n h; first = first; second = place-loaded index file slots f (n + 1) e a opened rows' size' l }
