-- How many occurrences a place gives: as many as its streams have numbers, and each keyword as many as its stream has. Assumes nothing.
use mathlib.Core.Path.{◌≡◌, refl, sym, ap, ap₂, ◌∙◌}
use mathlib.Core.Logic.{⊎_elim}
use mathlib.Core.Bool.{Bool, true, false, cond, ◌&&◌}
use mathlib.Core.List.{List, [], ◌∷◌}
use Prim.Native.Nat.{ℕ, zero, suc, ◌+◌, ◌^◌, ◌≤◌, ◌<◌}
use native.Mathlib.Nat.{zero-add, add-zero}
use native.Mathlib.Numerals.{add-one}
use native.Mathlib.Omega.{arith}
use lib.ListN.{length, get_or, set, drop, length-append}
use lib.Seq.{get_or-set_same, get_or-set_other}
use lib.Dec.{eqb, ltb}
use Rattle.std.proofs.lemmas.Bool.{cases_eq}
use Rattle.spec.specs.Bytes.{fields_of, each, keep, member, rising}
use Rattle.spec.specs.Join.{Occurrence, occurrences_at, count_by}
use Rattle.spec.proofs.FieldLists.{length-fields_of}
use Rattle.spec.proofs.Rising.{all_below, passing-member}
use Rattle.spec.proofs.Tests.{le-or-lt, eqb-ne}
use Rattle.spec.proofs.Sums.{sum_up, sum_same, sum-none, sum-swap, sum-last, sum-single, length-each, length-keep}
use Rattle.spec.proofs.Clients.{count_none, count-append}
use Rattle.listing.specs.Streams.{below, unread, stream_of, unread_at, stream_at, occurrences, given, numbers, numbers_of, total, ReadableStreams, Held}
use Rattle.listing.proofs.Digits.{bits-length}
use Rattle.listing.proofs.Counted.{numbers-at, numbers-past}

pub below-same : (n : ℕ) (xs : List ℕ) → all_below n xs ≡ below n xs
below-same n [] = refl
below-same n (x ∷ xs) = ap (λ (b : Bool). ltb x n && b) (below-same n xs)

-- ---- occurrences and numbers

module _ (size : ℕ) where
  abbrev at_offset : List ℕ → ℕ → ℕ
  at_offset xs p = length (keep (member p xs) p)

  stream-length : (xs : List ℕ) → rising xs ≡ true → below size xs ≡ true → sum_up (at_offset xs) 0 size ≡ length xs
  stream-length xs up under =
      sym (length-each (λ p. keep (member p xs) p) 0 size)
      ∙ ap length (passing-member size 0 xs up (rw zero-add (below-same size xs ∙ under)) (λ _. omega arith))

  -- by swapping the sum over offsets and the one over keywords
  sum_is : (file count base : ℕ) (s : ℕ → List ℕ) → ((k : ℕ) → k < count → rising (s k) ≡ true) → ((k : ℕ) → k < count → below size (s k) ≡ true)
      → length (occurrences file count base size s) ≡ sum_up (λ k. length (s k)) 0 count
  unfolding occurrences occurrences_at
  sum_is file count base s up under =
      length-each _ 0 size
      ∙ sum_same _ (λ p. sum_up (λ k. at_offset (s k) p) 0 count) 0 size (λ p u v.
      length-each _ 0 count ∙ sum_same _ _ 0 count (λ k x y. length-keep (member p (s k)) _ p))
      ∙ sum-swap (λ p k. at_offset (s k) p) 0 size 0 count
      ∙ sum_same _ _ 0 count (λ k u v. stream-length (s k) (up k (omega arith)) (under k (omega arith)))

unread-length : (index : List ℕ) (width : ℕ) (s : List ℕ) → get_or s 4 0 < 2 ^ 32 → length (unread index width s) ≡ numbers s
unfolding unread
unread-length index width s h =
    let left : ℕ = get_or s 2 0 in
    let bytes : List ℕ = drop (get_or s 1 0) index in
    length-append (fields_of width left bytes) _
    ∙ ap₂ (λ (x y : ℕ). x + y) (length-fields_of width left bytes) (bits-length 32 (get_or s 3 0) (get_or s 4 0) h)

module _ (index : List ℕ) (width size count : ℕ) (streams : List (List ℕ)) (ready : ReadableStreams index width size count streams) where
  pub total-is : (file base : ℕ) → total streams count ≡ length (occurrences file count base size (unread_at index width streams))
  total-is file base =
      sum_same _ _ 0 count (λ k u v. sym (unread-length index width (stream_of streams k) (ready.each k (omega arith)).set))
      ∙ sym (sum_is size file count base (unread_at index width streams) (λ k h. (ready.each k h).up) (λ k h. (ready.each k h).under))

-- ---- a keyword's occurrences

count-each : (k : ℕ) (f : ℕ → List Occurrence) (a n : ℕ) → count_by (λ j. j) k (each f a n) ≡ sum_up (λ p. count_by (λ j. j) k (f p)) a n
count-each k f a zero = count_none (λ j. j) k
count-each k f a (suc n) =
    count-append (λ j. j) k (f a) (each f (suc a) n) ∙ ap (λ (x : ℕ). count_by (λ j. j) k (f a) + x) (count-each k f (suc a) n)

eqb_swap : (i k : ℕ) → eqb i k ≡ eqb k i
eqb_swap i k = ⊎_elim (λ e. rw e) (λ ne. eqb-ne i k ne ∙ sym (eqb-ne k i (λ q. ne (sym q)))) (cases_eq i k)

cond-none : (b : Bool) → ◌≡◌ {A = ℕ} (cond b 0 0) 0
cond-none true = refl
cond-none false = refl

count_kept : (k i p : ℕ) (b : Bool) (o : Occurrence) → o.keyword ≡ i → count_by (λ j. j) k (keep b o) ≡ cond (eqb k i) (length (keep b p)) 0
unfolding count_by
count_kept k i p true o e = add-zero (cond (eqb o.keyword k) 1 0) ∙ ap (λ (j : ℕ). cond (eqb j k) 1 0) e ∙ ap (λ (t : Bool). cond t 1 0) (eqb_swap i k)
count_kept k i p false o e = sym (cond-none (eqb k i))

-- at one offset it has one, where its stream has the offset
module _ (file count k p : ℕ) (t : ℕ → Bool) (offset : ℕ) where
  count-offset : count_by (λ j. j) k (occurrences_at file count t offset) ≡ sum_up (λ i. cond (eqb k i) (length (keep (t i) p)) 0) 0 count
  unfolding occurrences_at
  count-offset = count-each k _ 0 count ∙ sum_same _ _ 0 count (λ i u v. count_kept k i p (t i) _ refl)

  count-one : k < count → count_by (λ j. j) k (occurrences_at file count t offset) ≡ length (keep (t k) p)
  count-one h = count-offset ∙ sum-single (λ i. length (keep (t i) p)) k 0 count (omega arith) (omega arith)

  count_past : count ≤ k → count_by (λ j. j) k (occurrences_at file count t offset) ≡ 0
  count_past h =
      count-offset
      ∙ sum_same _ (λ i. 0) 0 count (λ i u v. ap (λ (b : Bool). cond b (length (keep (t i) p)) 0) (eqb-ne k i (λ q. omega arith)))
      ∙ sum-none 0 count

module _ (index : List ℕ) (width size count : ℕ) (streams : List (List ℕ)) (ready : ReadableStreams index width size count streams) (file base k : ℕ) where
  abbrev at_place : List Occurrence
  at_place = occurrences file count base size (unread_at index width streams)

  -- at a place a keyword has as many as its stream has numbers
  pub keyword-count : k < count → count_by (λ j. j) k at_place ≡ numbers (stream_of streams k)
  unfolding occurrences
  keyword-count h =
      let s : ℕ → List ℕ = unread_at index width streams in
      let r = ready.each k h in
      count-each k _ 0 size
      ∙ sum_same _ (at_offset size (s k)) 0 size (λ p u v. count-one file count k p (λ i. member p (s i)) (base + p) h)
      ∙ stream-length size (s k) r.up r.under
      ∙ unread-length index width (stream_of streams k) r.set

  -- and no other keyword has one
  pub keyword-none : count ≤ k → count_by (λ j. j) k at_place ≡ 0
  unfolding occurrences
  keyword-none h =
      count-each k _ 0 size
      ∙ sum_same _ (λ p. 0) 0 size (λ p u v. count_past file count k p (λ i. member p (unread_at index width streams i)) (base + p) h)
      ∙ sum-none 0 size

  pub keyword-counts : count_by (λ j. j) k at_place ≡ get_or (numbers_of streams count) k 0
  keyword-counts =
      ⊎_elim (λ h. keyword-none h ∙ sym (numbers-past streams count k h)) (λ h. keyword-count h ∙ sym (numbers-at streams count k h)) (le-or-lt count k)

-- what open streams give is as long whatever the file's number and wherever the place starts
pub given-length : (index : List ℕ) (width size count : ℕ) (streams : List (List ℕ)) → Held index width size count streams → (file base : ℕ)
    → length (given index width size count streams) ≡ length (occurrences file count base size (stream_at index width size streams))
given-length index width size count streams held file base = from 0 0 ∙ sym (from file base)
  where
    from : (file base : ℕ)
        → length (occurrences file count base size (stream_at index width size streams)) ≡ sum_up (λ k. length (stream_at index width size streams k)) 0 count
    from file base = sum_is size file count base (stream_at index width size streams) (λ k h. (held.each k h).up) (λ k h. (held.each k h).under)

-- ---- filling one stream after the other

pub total-set : (streams : List (List ℕ)) (k : ℕ) (new : List ℕ) → k < length streams → total (set streams k new) (k + 1) ≡ total streams k + numbers new
total-set streams k new h =
    rw add-one (sum-last (λ j. numbers (stream_of (set streams k new) j)) 0 k ∙ rw zero-add)
    ∙ ap₂ (λ (x y : ℕ). x + y)
    (sum_same _ _ 0 k (λ p u v. ap (λ (s : List ℕ). numbers s) (get_or-set_other streams k p new [] (λ q. omega arith))))
    (ap (λ (s : List ℕ). numbers s) (get_or-set_same streams k new [] h))
