-- The set behind a record: its length, its stores; and what stands before a list of offsets, which are both. Assumes nothing.
use mathlib.Core.Path.{◌≡◌, refl, sym, ap, ◌∙◌}
use mathlib.Core.Logic.{◌≢◌, ◌⊎◌, inl, inr}
use mathlib.Core.Bool.{true}
use mathlib.Core.List.{List, [], ◌∷◌, ◌++◌}
use Prim.Native.Nat.{ℕ, zero, suc, ◌+◌, ◌-◌, ◌^◌, ◌≤◌, ◌<◌}
use native.Mathlib.Omega.{arith}
use lib.Dec.{leb}
use lib.ListN.{length, set as replaced, length-set, length-append}
use Rattle.spec.specs.Bytes.{le_bytes, splice, every}
use Rattle.spec.specs.Form.{Form, newest}
use Rattle.spec.specs.Records.{MatchRecord, in_range, set_in_range, set_bytes}
use Rattle.spec.proofs.Tests.{le-of-and}
use Rattle.spec.proofs.Fields.{length-le_bytes}
use Rattle.spec.proofs.RecordLaws.{offsets-in, set-empty, set-some, set_below}
use Rattle.spec.proofs.Splices.{splice-nil, splice-cons, splice-then}
use Rattle.records.specs.declared.Summary.{Summary}
use Rattle.records.specs.Summaries.{record_part, start_bytes, Wrote}
use Rattle.records.proofs.Starts.{part_most, part-most, any_part}

-- ---- lengths

-- the bytes of a set that is written
abbrev pub set_size : ℕ
set_size = 6

pub size_none : (k set : ℕ) → set ≡ 0 → 0 ≡ length (set_bytes k set)
size_none k set e = sym (ap length (set-empty k set e))

pub size-some : (k set : ℕ) → set ≢ 0 → set_size ≡ length (set_bytes k set)
size-some k set d = sym (ap length (set-some k set (omega arith)) ∙ ap (λ (n : ℕ). suc (suc n)) (length-le_bytes 4 set))

pub set-most : (k set : ℕ) → length (set_bytes k set) ≤ set_size
set-most k zero = omega (arith, size_none k 0 refl)
set-most k (suc set) = omega (arith, size-some k (suc set) (λ e. omega arith))

-- the most before a list
abbrev pub start_most : ℕ
start_most = part_most + set_size

module _ (n k : ℕ) (s : Summary) where
  pub start-length : length (start_bytes newest n k s) ≡ length (record_part newest n k s) + length (set_bytes k s.set)
  unfolding start_bytes
  start-length = length-append (record_part newest n k s) (set_bytes k s.set)

  pub start-most : length (start_bytes newest n k s) ≤ start_most
  start-most = omega (arith, start-length, part-most n k s, set-most k s.set)

  -- it does not hang on the keyword's length
  pub any-length : (m : ℕ) → start_bytes newest m k s ≡ start_bytes newest n k s
  unfolding start_bytes
  any-length m = ap (λ (x : List ℕ). x ++ set_bytes k s.set) (any_part n k s m)

-- ---- stores into a buffer

module _ (l : List ℕ) (at k set : ℕ) where
  pub put-none : set ≡ 0 → Wrote l at (set_bytes k set) l at
  put-none e = rw (set-empty k set e) (record { written = sym (splice-nil l at); ends = omega arith })

  pub put_some : (after : List ℕ) → set ≢ 0 → at + length (set_bytes k set) ≤ length l
      → after ≡ splice (replaced (replaced l at k) (at + 1) 4) (at + 2) (le_bytes 4 set) → Wrote l at (set_bytes k set) after (at + set_size)
  put_some after d room e =
      let h : 0 < set = omega arith in
      let n : set_size ≡ length (set_bytes k set) = size-some k set d in
      let two : at + 2 ≡ at + 1 + 1 = omega arith in
      record {
        written =
            e ∙ ap (λ (x : ℕ). splice (replaced (replaced l at k) (at + 1) 4) x (le_bytes 4 set)) two
            ∙ splice-cons (replaced l at k) (at + 1) 4 (le_bytes 4 set) (rw length-set (omega arith))
            ∙ splice-cons l at k (4 ∷ le_bytes 4 set) (omega arith)
            ∙ sym (ap (splice l at) (set-some k set h));
        ends = omega (arith, n);
      }

-- a record, and its set behind it
pub put_both : (l mid after : List ℕ) (n k end r : ℕ) (s : Summary) → Wrote l 0 (record_part newest n k s) mid end
    → Wrote mid end (set_bytes k s.set) after r → Wrote l 0 (start_bytes newest n k s) after r
unfolding start_bytes
put_both l mid after n k end r s w x = record {
  written = splice-then l 0 (record_part newest n k s) (set_bytes k s.set) (omega arith) w.written w.ends x.written;
  ends = omega (arith, w.ends, x.ends, length-append (record_part newest n k s) (set_bytes k s.set));
}

-- ---- a record in range has an empty set or no offsets: an offset says that the keyword is no longer than the chunk

pub set-or-offsets : (f : Form) (n size : ℕ) (m : MatchRecord) → in_range n size m ≡ true → set_in_range f n size m.inner ≡ true
    → (m.inner ≡ 0) ⊎ (m.offsets ≡ [])
set-or-offsets f n size m e q = go m.offsets (offsets-in n size m e)
  where
    go : (offsets : List ℕ) → every (λ at. leb (at + n) size) offsets ≡ true → (m.inner ≡ 0) ⊎ (offsets ≡ [])
    go [] h = inr refl
    go (x ∷ offsets) h =
        let z : n - size ≡ 0 = omega (arith, le-of-and (x + n) size _ h) in
        let l : m.inner < 2 ^ 0 = (rw z at (set_below f n size m.inner q)) in
        inl (omega arith)
