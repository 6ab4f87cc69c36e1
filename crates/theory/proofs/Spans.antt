-- Request #108: what the join lists across chunks is the paper's sentence, for all records in range, also those that no chunk gives; where an
-- occurrence ends in the next chunk it is document 01's cell; and 17 never occurs. Assumes nothing.
use mathlib.Core.Path.{◌≡◌, refl, ap, ◌∙◌}
use mathlib.Core.Logic.{◌⊎◌, inl, inr}
use mathlib.Core.Bool.{Bool, true, false, ◌&&◌, not, cond, and-false, or-false}
use mathlib.Core.List.{List, [], ◌∷◌}
use Prim.Native.Nat.{ℕ, ◌+◌, ◌-◌, ◌≤◌, ◌<◌, min}
use native.Mathlib.Nat.{lt_of_lt_of_le}
use native.Mathlib.Omega.{arith}
use lib.Dec.{ltb}
use lib.Pow.{pow_mono}
use lib.ListN.{length, drop, length-drop}
use Rattle.spec.specs.Bytes.{largest32, contains, every, sum, in_set}
use Rattle.spec.specs.Outcome.{first_number, not_found, file_too_long}
use Rattle.spec.specs.Keywords.{keywords_of, longest}
use Rattle.spec.specs.Form.{Form}
use Rattle.spec.specs.Records.{ChunkRecords, record_at, reach, in_range, set_in_range}
use Rattle.spec.specs.Recipes.{sizes_in, file_code}
use Rattle.spec.specs.Join.{crosses, starts, ends, goes_on, crosses_into, inner_least}
use Rattle.spec.proofs.Tests.{le-or-lt, leb-true, leb-false}
use Rattle.spec.proofs.Begins.{begins-short}
use Rattle.spec.proofs.Sets.{none_above}
use Rattle.spec.proofs.RecordLaws.{suffix-in, set_below}
use Rattle.spec.proofs.Crossing.{crosses-sentence}
use Rattle.spec.proofs.JoinIsSearch.{sets-inner-long}
use Rattle.theory.specs.Spans.{follows, crosses_by_lengths, SpanRange, AllSpan}

-- as records in range are
pub span-range : (f : Form) (w : List ℕ) (k : ℕ) (c : ChunkRecords) → in_range (length w) c.size (record_at c k) ≡ true
    → set_in_range f (length w) c.size (record_at c k).inner ≡ true → SpanRange w k c
unfolding reach
span-range f w k c e s =
    let a : (record_at c k).suffix ≤ min (length w - 1) c.size = suffix-in (length w) c.size (record_at c k) e in
    record { suffix = omega arith; inner = set_below f (length w) c.size (record_at c k).inner s }

module _ (w : List ℕ) (k : ℕ) where
  -- a chunk that the keyword does not outreach is not inside it
  past : (c : ChunkRecords) (p : ℕ) → SpanRange w k c → length w ≤ p + c.size → in_set (record_at c k).inner p ≡ false
  past c p r h = none_above (record_at c k).inner p (lt_of_lt_of_le r.inner (pow_mono {i = length w - c.size} {j = p} (omega arith)))

  -- a keyword does not end in a chunk that has fewer bytes than are left
  not-here : (c : ChunkRecords) (p : ℕ) → SpanRange w k c → p + c.size < length w → ends w (record_at c k).suffix p ≡ false
  unfolding ends
  not-here c p r h =
      begins-short (drop p w) (drop (length w - (record_at c k).suffix) w)
      (let m : length (drop (length w - (record_at c k).suffix) w) ≡ length w - (length w - (record_at c k).suffix) = length-drop (length w - (record_at c k).suffix) w in
      let n : length (drop p w) ≡ length w - p = length-drop p w in
      omega (arith, r.suffix))

  pub goes-by-lengths : (rest : List ChunkRecords) (p : ℕ) → AllSpan w k rest → goes_on w k p rest ≡ follows w k p rest
  unfolding goes_on follows
  goes-by-lengths [] p a = refl
  goes-by-lengths (c ∷ rest) p a = go (le-or-lt (length w) (p + c.size)) (goes-by-lengths rest (p + c.size) a.1)
    where
      go : (length w ≤ p + c.size) ⊎ (p + c.size < length w) → goes_on w k (p + c.size) rest ≡ follows w k (p + c.size) rest
          → goes_on w k p (c ∷ rest) ≡ follows w k p (c ∷ rest)
      go (inl h) ih = rw (past c p a.0 h, leb-true (length w) (p + c.size) h, or-false)
      go (inr h) ih = rw (not-here c p a.0 h, leb-false (length w) (p + c.size) h, ih)

  -- THE SENTENCE of the request
  pub crosses-by-lengths : (i : ℕ) (rest : List ChunkRecords) (left : ℕ) → i ≤ length w → AllSpan w k rest → crosses_into w k i rest left ≡ crosses_by_lengths w k i rest left
  crosses-by-lengths i rest left h a = crosses-sentence w k i rest left h ∙ ap (λ (b : Bool). starts w i left && b) (goes-by-lengths rest left a)

  -- TWO NEIGHBOURS: where the next chunk has the bytes that are left, it is document 01's cell
  pub crosses-near : (i : ℕ) (next : ChunkRecords) (rest : List ChunkRecords) (left : ℕ) → SpanRange w k next → length w ≤ left + next.size
      → crosses_into w k i (next ∷ rest) left ≡ crosses w i (record_at next k).suffix left
  crosses-near i next rest left r h = rw (past next left r h, and-false, or-false)

  -- and so before the last chunk of a file, whatever its records
  pub crosses-last : (i : ℕ) (next : ChunkRecords) (left : ℕ) → crosses_into w k i (next ∷ []) left ≡ crosses w i (record_at next k).suffix left
  unfolding goes_on
  crosses-last i next left = rw (and-false, and-false, or-false)

-- ---- 17

-- with sets a file is refused for 15 and 16 alone
pub never-17 : (f : Form) → f.sets ≡ true → (list : List ℕ) (keys : List (List ℕ)) (size_of : ℕ → ℕ) (file : List (List ℕ))
    → file_code keys size_of (inner_least f list) file
    ≡ first_number ((not (every (λ key. contains key keys) file), not_found) ∷ (ltb largest32 (sum (sizes_in keys size_of file)), file_too_long) ∷ [])
unfolding file_code
never-17 f q list keys size_of file = rw (sets-inner-long f q list (sizes_in keys size_of file))

-- without them an inner chunk that is shorter than the longest keyword's length minus 1 is refused, as document 01 has it
pub older-17 : (f : Form) → f.sets ≡ false → (list : List ℕ) → inner_least f list ≡ longest (keywords_of list) - 1
unfolding inner_least
older-17 f q list = ap (λ (b : Bool). cond b 0 (longest (keywords_of list) - 1)) q
