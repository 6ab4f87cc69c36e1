-- The stages of the index check, one after the other, are the check; and what each stage that passes says. Assumes nothing.
use mathlib.Core.Path.{◌≡◌, refl, sym, ap, ap₂, ◌∙◌, subst}
use mathlib.Core.Bool.{Bool, true, false, cond, ◌||◌, ◌&&◌, not, or-true, true≢false}
use mathlib.Core.List.{List, [], ◌∷◌}
use Prim.Native.Nat.{ℕ, ◌+◌, ◌-◌, ◌*◌, ◌≤◌, ◌<◌}
use native.Mathlib.Nat.{zero-add, add-sub_cancel_left}
use native.Mathlib.Omega.{arith}
use borrow.Author.Tests.{lt-ltb, le-ltb, ltb-false}
use lib.Dec.{eqb, ltb}
use lib.ListN.{length, take, drop}
use Rattle.std.proofs.lemmas.Bool.Decides.{nat_tests}
use Rattle.std.specs.Cmp.Lexicographic.{pointwise}
use Rattle.std.specs.List.{starts_with}
use Rattle.spec.specs.Bytes.{field_at, same}
use Rattle.spec.specs.declared.Format.{Format}
use Rattle.spec.specs.Directory.{Layout, directory_end, entry_field, size_at, offset_at, length_at, entries_code}
use Rattle.spec.specs.Store.{chunk_count}
use Rattle.spec.specs.Form.{Form, form1, form2, newest, form_of, format_of, form_in}
use Rattle.spec.specs.Records.{good_body}
use Rattle.spec.specs.Index.{index_layout, index_keys, body_at, good_at, all_good, header_code, directory_code}
use Rattle.spec.proofs.Tests.{false_of}
use Rattle.spec.proofs.Forms.{FormRead, form-read}
use Rattle.spec.proofs.Codes.{passed, passed-whole, or_left, or_right, last-whole}
use Rattle.spec.proofs.EntryLaws.{entries-good}
use Rattle.spec.proofs.Tabulated.{every-range, every-range-at}
use Rattle.directory.specs.Chains.{layout_of, keys_from}
use Rattle.directory.proofs.ChainLists.{Built}
use Rattle.bodies.specs.Check.{Fits, KeywordLengths}
use Rattle.index.specs.Stages.{Headed, Laid, Lens}

-- ---- the format

-- the digit of a mark
digit-small : (index : List ℕ) → (format_of (form_of index)).number ≤ 9
unfolding form_of
digit-small index = go (same (take 4 index) form1.mark) (same (take 4 index) form2.mark)
  where
    go : (b c : Bool) → (format_of (cond b form1 (cond c form2 newest))).number ≤ 9
    go true c = omega arith
    go false true = omega arith
    go false false = omega arith

module _ (index : List ℕ) (format : Format) (is : format ≡ format_of (form_of index)) where
  pub form-is : form_in format ≡ form_of index
  form-is = ap form_in is ∙ (form-read index).said

  pub digit-fits : format.number ≤ 9
  digit-fits = rw is (digit-small index)

  -- the comparison with the mark that has the format's digit is that with the form's
  pub mark-compared : (t : Bool) → t ≡ same (take 4 index) (0x44 ∷ 0x4D ∷ (0x30 + format.number) ∷ 0x0A ∷ [])
      → t ≡ same (take 4 index) (form_of index).mark
  mark-compared t e = e ∙ ap (λ (f : Form). same (take 4 index) f.mark) form-is

  pub longest-is : format.longest ≡ (form_of index).longest_chunk
  longest-is = ap (λ (f : Form). f.longest_chunk) form-is

  pub format-fits : Fits format
  format-fits =
      let reads : FormRead (form_in format) = subst FormRead (sym form-is) (form-read index) in
      record { fits = reads.good.fits; wide = reads.wide }

-- ---- the header

module _ (index : List ℕ) where
  pub header-short : length index < 8 → 10 ≡ header_code (form_of index) index
  unfolding header_code
  header-short h = rw (lt-ltb (length index) 8 h)

  pub header-mark : same (take 4 index) (form_of index).mark ≡ false → 10 ≡ header_code (form_of index) index
  unfolding header_code
  header-mark e = rw (e, or-true)

  pub header-many : 65000 < chunk_count index → 10 ≡ header_code (form_of index) index
  unfolding header_code
  header-many h = rw (lt-ltb 65000 (chunk_count index) h, or-true)

  pub header-good : 8 ≤ length index → same (take 4 index) (form_of index).mark ≡ true → chunk_count index ≤ 65000 → 0 ≡ header_code (form_of index) index
  unfolding header_code
  header-good h m c = rw (le-ltb (length index) 8 h, m, le-ltb 65000 (chunk_count index) c)

  pub header-passed : header_code (form_of index) index ≡ 0 → (8 ≤ length index) × (chunk_count index ≤ 65000)
  unfolding header_code
  header-passed e =
      let a = (passed (ltb (length index) 8 || not (same (take 4 index) (form_of index).mark) || ltb 65000 (chunk_count index)) 10 0 (omega arith) e).0 in (
        ltb-false (length index) 8 (or_left (ltb (length index) 8) _ (or_left (ltb (length index) 8 || not (same (take 4 index) (form_of index).mark)) _ a)),
        ltb-false 65000 (chunk_count index) (or_right (ltb (length index) 8 || not (same (take 4 index) (form_of index).mark)) _ a),
      )

-- ---- the directory

module _ (index : List ℕ) (start count : ℕ) (o : Headed index start count) where
  pub layout_is : layout_of start 32 20 24 28 ≡ index_layout index
  unfolding index_layout
  layout_is = ap (λ (s : ℕ). layout_of s 32 20 24 28) o.starts

  pub end_is : start + 32 * count ≡ directory_end (index_layout index) (chunk_count index)
  end_is = ap₂ {C = ℕ} (λ l c. directory_end l c) layout_is o.counts

  pub directory-cut : length index < start + 32 * count → 11 ≡ directory_code (form_of index) index
  unfolding directory_code
  directory-cut h = rw (lt-ltb (length index) (directory_end (index_layout index) (chunk_count index)) (rw (← end_is) h))

  pub directory-walk : (r : ℕ) → start + 32 * count ≤ length index
      → (longest : ℕ) → longest ≡ (form_of index).longest_chunk
      → r ≡ entries_code (layout_of start 32 20 24 28) index longest 11 count 0 (start + 32 * count) → r ≡ directory_code (form_of index) index
  unfolding directory_code
  directory-walk r h longest q e =
      rw (le-ltb (length index) (directory_end (index_layout index) (chunk_count index)) (rw (← end_is) h))
      (e ∙ rw (q, end_is, layout_is, o.counts) (sym (last-whole _)))

  pub keys-are : keys_from index start 32 count ≡ index_keys index
  unfolding index_keys index_layout
  keys-are = rw (o.starts, o.counts)

  -- what the crate below builds is of the index's fingerprints
  pub built_of : (chains₀ chains : List ℕ) (t : Bool) → Built (keys_from index start 32 count) chains₀ chains t
      → Built (index_keys index) chains₀ chains t
  built_of chains₀ chains t b = subst (λ (keys : List (List ℕ)). Built keys chains₀ chains t) keys-are b

  pub field_is : (field e : ℕ) → field_at index (start + 32 * e + field) 4 ≡ entry_field (index_layout index) index field e
  field_is field e = ap (λ (l : Layout). entry_field l index field e) layout_is

  pub laid : directory_code (form_of index) index ≡ 0 → Laid index start count
  unfolding directory_code
  laid e =
      let end = directory_end (index_layout index) (chunk_count index) in
      let a = passed (ltb (length index) end) 11 _ (omega arith) e in
      let b = (passed-whole (entries_code (index_layout index) index (form_of index).longest_chunk 11 (chunk_count index) 0 end) 0 a.1).0 in
      let g = entries-good (index_layout index) index (form_of index).longest_chunk 11 (omega arith) (chunk_count index) 0 end b in
      record {
        headed = o;
        room = rw end_is (ltb-false (length index) end a.0);
        sizes = λ e h. (g.sized e (omega arith) (omega (arith, o.counts))).1;
        ends = λ e h. (g.within e (omega arith) (omega (arith, o.counts))).1;
      }

-- ---- the bodies

-- what the body check of an entry's fields says
module _ (index : List ℕ) (start count : ℕ) (l : Laid index start count) (words : ℕ) (lens : List ℕ) (k : Lens index words lens)
    (e size at n : ℕ) (h : e < count)
    (sizes : size ≡ field_at index (start + 32 * e + 20) 4) (offsets : at ≡ field_at index (start + 32 * e + 24) 4)
    (lengths : n ≡ field_at index (start + 32 * e + 28) 4)
    (format : Format) (is : format ≡ format_of (form_of index)) where
  size_in : size ≡ size_at (index_layout index) index e
  unfolding index_layout
  size_in = sizes ∙ field_is index start count l.headed 20 e

  at_in : at ≡ offset_at (index_layout index) index e
  unfolding index_layout
  at_in = offsets ∙ field_is index start count l.headed 24 e

  n-in : n ≡ length_at (index_layout index) index e
  unfolding index_layout
  n-in = lengths ∙ field_is index start count l.headed 28 e

  pub body-within : at + n ≤ length index
  body-within = rw (at_in, n-in) (l.ends e h)

  pub body-ready : KeywordLengths format words size lens
  body-ready = record {
    fields = format-fits index format is;
    room = k.room;
    fit = rw (longest-is index format is, size_in) (l.sizes e h);
    each = k.each;
  }

  pub good-is : (r : Bool) → r ≡ good_body (form_in format) (take words lens) size (take (at + n - at) (drop at index)) → r ≡ good_at (form_of index) index e
  unfolding body_at
  good-is r q = q ∙ rw (form-is index format is, add-sub_cancel_left, k.are, size_in, at_in, n-in)

-- the entries are as many as the header says
pub laid-all : (index : List ℕ) (start count : ℕ) → Laid index start count → Laid index start (chunk_count index)
laid-all index start count l = subst (Laid index start) l.headed.counts l

module _ (index : List ℕ) where
  pub all_yes : (count : ℕ) → count ≡ chunk_count index → ((k : ℕ) → k < count → good_at (form_of index) index k ≡ true) → true ≡ all_good (form_of index) index
  unfolding all_good
  all_yes count e g = sym (every-range (good_at (form_of index) index) 0 (chunk_count index) (λ k _ h. g k (omega arith)))

  pub all-no : (k : ℕ) → k < chunk_count index → good_at (form_of index) index k ≡ false → false ≡ all_good (form_of index) index
  unfolding all_good
  all-no k h e =
      sym (false_of _ (λ t. true≢false (sym (rw zero-add at (every-range-at (good_at (form_of index) index) 0 (chunk_count index) t k h)) ∙ e)))
