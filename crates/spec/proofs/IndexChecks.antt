-- What the index check's 0 gives, and what gives it. Assumes nothing.
use mathlib.Core.Path.{◌≡◌}
use mathlib.Core.Bool.{true, false, ◌||◌, not}
use mathlib.Core.List.{List}
use Prim.Native.Nat.{ℕ, ◌≤◌, ◌<◌}
use native.Mathlib.Nat.{zero-add}
use native.Mathlib.Omega.{arith}
use borrow.Author.Tests.{ltb-false, le-ltb, not-false}
use lib.Dec.{ltb}
use lib.ListN.{length, take}
use Rattle.spec.specs.Bytes.{same, twice}
use Rattle.spec.specs.Keywords.{keyword_front_code}
use Rattle.spec.specs.Directory.{directory_end, entries_code}
use Rattle.spec.specs.Store.{chunk_count, most_chunks}
use Rattle.spec.specs.Form.{Form}
use Rattle.spec.specs.Index.{list_in, index_layout, index_keys, good_at, all_good, header_code, directory_code, laid_code, index_code}
use Rattle.spec.proofs.Codes.{passed, passed-whole, or_left, or_right}
use Rattle.spec.proofs.EntryLaws.{Entries, entries-good, length-keys_in}
use Rattle.spec.proofs.Same.{same-eq, same_of}
use Rattle.spec.proofs.Tabulated.{every-range, every-range-at}

pub record IndexGood (f : Form) (index : List ℕ) : Type 0 where
  pub header : 8 ≤ length index
  pub mark : take 4 index ≡ f.mark
  pub few : chunk_count index ≤ most_chunks
  pub list : keyword_front_code (list_in index) ≡ 0
  pub room : directory_end (index_layout index) (chunk_count index) ≤ length index
  pub entries : Entries (index_layout index) index f.longest_chunk (chunk_count index) 0 (directory_end (index_layout index) (chunk_count index))
  -- the walk along the entries itself
  pub walk : entries_code (index_layout index) index f.longest_chunk 11 (chunk_count index) 0 (directory_end (index_layout index) (chunk_count index)) ≡ 0
  pub differ : twice (index_keys index) ≡ false
  pub bodies : (k : ℕ) → k < chunk_count index → good_at f index k ≡ true

pub index-good : (f : Form) (index : List ℕ) → index_code f index ≡ 0 → IndexGood f index
unfolding index_code laid_code header_code directory_code all_good
index-good f index e =
    let laid = passed-whole (laid_code f index) _ e in
    let front = passed-whole (header_code f index) _ laid.0 in
    let a = passed (ltb (length index) 8 || not (same (take 4 index) f.mark) || ltb most_chunks (chunk_count index)) 10 _ (omega arith) front.0 in
    let b = passed-whole (keyword_front_code (list_in index)) _ front.1 in
    let c = passed (ltb (length index) (directory_end (index_layout index) (chunk_count index))) 11 _ (omega arith) (passed-whole (directory_code f index) _ b.1).0 in
    let d = passed-whole (entries_code (index_layout index) index f.longest_chunk 11 (chunk_count index) 0 (directory_end (index_layout index) (chunk_count index))) _ c.1 in
    let g = passed (twice (index_keys index)) 12 _ (omega arith) laid.1 in
    let h = passed (not (all_good f index)) 13 _ (omega arith) g.1 in
    let mark = or_left (ltb (length index) 8 || not (same (take 4 index) f.mark)) _ a.0 in
    record {
      header = ltb-false (length index) 8 (or_left (ltb (length index) 8) _ mark);
      mark = same-eq (take 4 index) f.mark (not-false (same (take 4 index) f.mark) (or_right (ltb (length index) 8) _ mark));
      few = ltb-false most_chunks (chunk_count index) (or_right (ltb (length index) 8 || not (same (take 4 index) f.mark)) _ a.0);
      list = b.0;
      room = ltb-false (length index) (directory_end (index_layout index) (chunk_count index)) c.0;
      entries = entries-good (index_layout index) index f.longest_chunk 11 (omega arith) (chunk_count index) 0 (directory_end (index_layout index) (chunk_count index)) d.0;
      walk = d.0;
      differ = g.0;
      bodies = λ k l. rw zero-add at (every-range-at (good_at f index) 0 (chunk_count index) (not-false (all_good f index) h.0) k l);
    }

-- the tests one by one
pub index-passes : (f : Form) (index : List ℕ) → 8 ≤ length index → take 4 index ≡ f.mark → chunk_count index ≤ most_chunks → keyword_front_code (list_in index) ≡ 0
    → directory_end (index_layout index) (chunk_count index) ≤ length index
    → entries_code (index_layout index) index f.longest_chunk 11 (chunk_count index) 0 (directory_end (index_layout index) (chunk_count index)) ≡ 0
    → twice (index_keys index) ≡ false → ((k : ℕ) → k < chunk_count index → good_at f index k ≡ true) → index_code f index ≡ 0
unfolding index_code laid_code header_code directory_code all_good
index-passes f index h m c l r e t g =
    rw (
      le-ltb (length index) 8 h,
      same_of (take 4 index) f.mark m,
      le-ltb most_chunks (chunk_count index) c,
      l,
      le-ltb (length index) (directory_end (index_layout index) (chunk_count index)) r,
      e,
      t,
      every-range (good_at f index) 0 (chunk_count index) (λ k _ u. g k (omega arith)),
    )

pub length-index_keys : (index : List ℕ) → length (index_keys index) ≡ chunk_count index
unfolding index_keys
length-index_keys index = length-keys_in (index_layout index) index (chunk_count index)
