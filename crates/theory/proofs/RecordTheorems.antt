-- Demand 2, first half: the record of a chunk and a keyword is the published method's, said by parts of lists alone, without a test or a
-- search: the longest beginning of the keyword, short of the whole, at the chunk's end; the longest ending at its start; every occurrence.
-- Exactly one record is so. Assumes nothing.
use mathlib.Core.Path.{◌≡◌, refl, sym, ap, ◌∙◌}
use mathlib.Core.Logic.{◌⊎◌, inl, inr, ⊎_elim}
use mathlib.Core.Bool.{Bool, true, false, ◌&&◌, cond, or-true, true≢false, false≢true}
use mathlib.Core.List.{List, [], ◌∷◌, ◌++◌}
use Prim.Native.Nat.{ℕ, zero, suc, ◌+◌, ◌-◌, ◌^◌, ◌≤◌, ◌<◌}
use lib.Dec.{leb}
use lib.Pow.{pow_mono}
use native.Mathlib.Nat.{zero-add, le_refl, lt_of_lt_of_le}
use native.Mathlib.Omega.{arith}
use borrow.Author.Tests.{lt-ltb}
use lib.ListN.{length, take, drop, length-take, length-drop, take-append-drop, drop_of_length-le}
use lib.Seq.{take_at, take_all}
use Rattle.spec.specs.Bytes.{begins, occurs_at, largest, member, rising, set_of, in_set}
use Rattle.spec.specs.Form.{Form}
use Rattle.spec.specs.Records.{MatchRecord, reach, ends_with, starts_with, prefix_of, suffix_of, offsets_of, record_of, lies_at, inner_of}
use Rattle.theory.specs.Published.{Ends, Starts, Inside, Published}
use Rattle.spec.proofs.Tests.{le-or-lt, eqb_same, leb-true, bool_cases, and_left, and_right}
use Rattle.spec.proofs.Sets.{has-set, has_above, none-empty, set_same, set-of-bits}
use Rattle.spec.proofs.Begins.{begins-front, begins-split, begins-short}
use Rattle.spec.proofs.Each.{passing, each-match, member-passing, member-above}
use Rattle.spec.proofs.Largest.{largest-passes, largest-le, largest-max}
use Rattle.spec.proofs.Rising.{all_below, passing-member}
use Rattle.spec.proofs.RecordLaws.{bool-ext, le_of}
use Rattle.spec.proofs.RecordRanges.{passing-rises}

-- ---- the tests, as equations of lists

begins-self : (w : List ℕ) → begins w w ≡ true
begins-self [] = refl
begins-self (a ∷ w) = rw (eqb_same a, begins-self w)

pub begins-take : (w x : List ℕ) → begins w x ≡ true → take (length w) x ≡ w
begins-take w x e = rw (begins-split w x e) (take_at w (drop (length w) x) (length w) refl)

pub take_begins : (w x : List ℕ) → take (length w) x ≡ w → begins w x ≡ true
take_begins w x e =
    ap (begins w) (sym (take-append-drop (length w) x) ∙ ap (λ (l : List ℕ). l ++ drop (length w) x) e)
    ∙ begins-front w w (drop (length w) x) (le_refl _) ∙ begins-self w

-- lists of the same length
begins-same : (w x : List ℕ) → length x ≡ length w → begins w x ≡ true → x ≡ w
begins-same w x l e = sym (take_all (length w) x (omega arith)) ∙ begins-take w x e

same-begins : (w x : List ℕ) → x ≡ w → begins w x ≡ true
same-begins w x e = rw e (begins-self w)

-- ---- the largest number, and rising lists

-- nothing that passes is above the largest
longest-by : (t : ℕ → Bool) (n i : ℕ) → i ≤ n → t i ≡ true → i ≤ largest t n
longest-by t n i h e =
    ⊎_elim (λ l. l) (λ (l : largest t n < i). absurd (true≢false (sym e ∙ largest-max t n i l h))) (le-or-lt i (largest t n))

-- what is listed of a range passes
listed-occurs : (t : ℕ → Bool) (n at : ℕ) → member at (passing t 0 n) ≡ true → t at ≡ true
listed-occurs t n at e =
    ⊎_elim (λ (h : n ≤ at). absurd (true≢false (sym e ∙ member-above t at 0 n (omega arith))))
    (λ (h : at < n). sym (member-passing t at 0 n (omega arith) (omega arith)) ∙ e) (le-or-lt n at)

below_of : (n : ℕ) (xs : List ℕ) → ((x : ℕ) → member x xs ≡ true → x < n) → all_below n xs ≡ true
below_of n [] h = refl
below_of n (x ∷ xs) h = rw (lt-ltb x n (h x (rw eqb_same)), below_of n xs (λ y m. h y (rw (m, or-true))))

-- rising lists with the same members are the same
rising-same : (n : ℕ) (xs ys : List ℕ) → rising xs ≡ true → rising ys ≡ true → ((x : ℕ) → member x xs ≡ member x ys)
    → ((x : ℕ) → member x xs ≡ true → x < n) → xs ≡ ys
rising-same n xs ys r s e h =
    sym (passing-member n 0 xs r (rw zero-add (below_of n xs h)) (λ _. omega arith))
    ∙ each-match _ _ 0 0 n (λ p l. rw (e (0 + p)))
    ∙ passing-member n 0 ys s (rw zero-add (below_of n ys (λ x m. h x (e x ∙ m)))) (λ _. omega arith)

-- numbers with the same bits are the same
same_bits : (x y : ℕ) → ((p : ℕ) → in_set x p ≡ in_set y p) → x ≡ y
same_bits x y h =
    let a : x < 2 ^ (x + y) = lt_of_lt_of_le (lt-two-pow x) (pow_mono {i = x} {j = x + y} (omega arith)) in
    let b : y < 2 ^ (x + y) = lt_of_lt_of_le (lt-two-pow y) (pow_mono {i = y} {j = x + y} (omega arith)) in
    sym (set-of-bits (x + y) x a) ∙ set_same (in_set x) (in_set y) (x + y) (λ s l. h s) ∙ set-of-bits (x + y) y b
  where
    lt-two-pow : (n : ℕ) → n < 2 ^ n
    lt-two-pow zero = omega arith
    lt-two-pow (suc n) = omega (arith, lt-two-pow n)

-- ---- the published record

module _ (f : Form) (keyword chunk : List ℕ) where
  module _ (nonempty : 1 ≤ length keyword) where
    in_reach : (i : ℕ) → i < length keyword → i ≤ length chunk → i ≤ reach (length keyword) (length chunk)
    unfolding reach
    in_reach i l h = omega arith

    reach-short : reach (length keyword) (length chunk) < length keyword
    unfolding reach
    reach-short = omega arith

    reach-in : reach (length keyword) (length chunk) ≤ length chunk
    unfolding reach
    reach-in = omega arith

    ends_of : (i : ℕ) → i < length keyword → i ≤ length chunk → ends_with keyword chunk i ≡ true → Ends keyword chunk i
    ends_of i l h e = begins-same (take i keyword) (drop (length chunk - i) chunk) (rw (length-drop, length-take) (omega arith)) e

    starts-of : (j : ℕ) → j < length keyword → j ≤ length chunk → starts_with keyword chunk j ≡ true → Starts keyword chunk j
    starts-of j l h e =
        let n : length (drop (length keyword - j) keyword) ≡ j = rw length-drop (omega arith) in
        rw n at (begins-take (drop (length keyword - j) keyword) chunk e)

    of-starts : (j : ℕ) → j < length keyword → Starts keyword chunk j → starts_with keyword chunk j ≡ true
    of-starts j l e =
        let n : length (drop (length keyword - j) keyword) ≡ j = rw length-drop (omega arith) in
        take_begins (drop (length keyword - j) keyword) chunk (rw n e)

    occurs-in : (at : ℕ) → occurs_at keyword chunk at ≡ true → at < length chunk
    occurs-in at e =
        ⊎_elim (λ (h : length chunk ≤ at). absurd (false≢true (sym (begins-short keyword (drop at chunk) (rw length-drop (omega arith))) ∙ e)))
        (λ h. h) (le-or-lt (length chunk) at)

    abbrev lies : ℕ → Bool
    lies p = leb 1 p && lies_at keyword chunk p

    -- the set of a form that has sets
    inner-set : f.sets ≡ true → (record_of f keyword chunk).inner ≡ set_of lies (length keyword - length chunk)
    unfolding record_of inner_of
    inner-set q = ap (λ (b : Bool). cond b (set_of lies (length keyword - length chunk)) 0) q

    inner-none : f.sets ≡ false → (record_of f keyword chunk).inner ≡ 0
    unfolding record_of
    inner-none q = ap (λ (b : Bool). cond b (inner_of keyword chunk) 0) q

    inner-has : (p : ℕ) → f.sets ≡ true → Inside keyword chunk p → in_set (record_of f keyword chunk).inner p ≡ true
    inner-has p q i =
        rw (inner-set q, has-set lies (length keyword - length chunk) p (omega (arith, i.behind)), leb-true 1 p i.before)
        (same-begins (take (length chunk) (drop p keyword)) chunk (sym i.same))

    inner-is : (p : ℕ) → in_set (record_of f keyword chunk).inner p ≡ true → (f.sets ≡ true) × Inside keyword chunk p
    inner-is p e = go (bool_cases f.sets) (le-or-lt (length keyword - length chunk) p)
      where
        go : (f.sets ≡ true) ⊎ (f.sets ≡ false) → (length keyword - length chunk ≤ p) ⊎ (p < length keyword - length chunk)
            → (f.sets ≡ true) × Inside keyword chunk p
        go (inr q) d = absurd (false≢true (sym (none-empty p) ∙ ap (λ (x : ℕ). in_set x p) (sym (inner-none q)) ∙ e))
        go (inl q) (inl h) = absurd (false≢true (sym (has_above lies (length keyword - length chunk) p h) ∙ ap (λ (x : ℕ). in_set x p) (sym (inner-set q)) ∙ e))
        go (inl q) (inr h) =
            let t : lies p ≡ true = sym (has-set lies (length keyword - length chunk) p h) ∙ ap (λ (x : ℕ). in_set x p) (sym (inner-set q)) ∙ e in
            let inside : Inside keyword chunk p =
            record {
              before = le_of 1 p (and_left (leb 1 p) (lies_at keyword chunk p) t);
              behind = omega arith;
              same =
                  sym (begins-same (take (length chunk) (drop p keyword)) chunk (rw (length-take, length-drop) (omega arith))
                  (and_right (leb 1 p) (lies_at keyword chunk p) t));
            } in
            (q, inside)

    -- The record is the published method's.
    pub record-published : Published keyword chunk f (record_of f keyword chunk)
    unfolding record_of prefix_of suffix_of offsets_of
    record-published =
        let t = ends_with keyword chunk in
        let u = starts_with keyword chunk in
        let n = reach (length keyword) (length chunk) in
        let h : length keyword ≤ length keyword - 0 = omega arith in
        let zero-starts : starts_with keyword chunk 0 ≡ true = of-starts 0 (omega arith) (sym (drop_of_length-le keyword h)) in
        record {
          prefix_short = omega (arith, largest-le t n, reach-short);
          prefix_in = omega (arith, largest-le t n, reach-in);
          prefix_ends = ends_of (largest t n) (omega (arith, largest-le t n, reach-short)) (omega (arith, largest-le t n, reach-in)) (largest-passes t n refl);
          prefix_longest = λ i l h e. longest-by t n i (in_reach i l h) (same-begins (take i keyword) (drop (length chunk - i) chunk) e);
          suffix_short = omega (arith, largest-le u n, reach-short);
          suffix_in = omega (arith, largest-le u n, reach-in);
          suffix_starts =
              starts-of (largest u n) (omega (arith, largest-le u n, reach-short)) (omega (arith, largest-le u n, reach-in)) (largest-passes u n zero-starts);
          suffix_longest = λ j l h e. longest-by u n j (in_reach j l h) (of-starts j l e);
          offsets_rise = passing-rises (occurs_at keyword chunk) 0 (length chunk);
          offsets_all = λ at e.
              let o : occurs_at keyword chunk at ≡ true = take_begins keyword (drop at chunk) e in
              member-passing (occurs_at keyword chunk) at 0 (length chunk) (omega arith) (omega (arith, occurs-in at o)) ∙ o;
          offsets_only = λ at e. begins-take keyword (drop at chunk) (listed-occurs (occurs_at keyword chunk) (length chunk) at e);
          inner_all = inner-has;
          inner_only = inner-is;
        }

    -- No other record is.
    pub published-once : (r : MatchRecord) → Published keyword chunk f r → r ≡ record_of f keyword chunk
    published-once r p =
        let q = record-published in
        let a : r.prefix ≡ (record_of f keyword chunk).prefix =
        omega (
          arith,
          q.prefix_longest r.prefix p.prefix_short p.prefix_in p.prefix_ends,
          p.prefix_longest (record_of f keyword chunk).prefix q.prefix_short q.prefix_in q.prefix_ends,
        ) in
        let b : r.suffix ≡ (record_of f keyword chunk).suffix =
        omega (
          arith,
          q.suffix_longest r.suffix p.suffix_short p.suffix_in p.suffix_starts,
          p.suffix_longest (record_of f keyword chunk).suffix q.suffix_short q.suffix_in q.suffix_starts,
        ) in
        let c : r.offsets ≡ (record_of f keyword chunk).offsets =
        rising-same (length chunk) r.offsets (record_of f keyword chunk).offsets p.offsets_rise q.offsets_rise
        (λ x. bool-ext _ _ (λ m. q.offsets_all x (p.offsets_only x m)) (λ m. p.offsets_all x (q.offsets_only x m)))
        (λ x m. occurs-in x (take_begins keyword (drop x chunk) (p.offsets_only x m))) in
        let d : r.inner ≡ (record_of f keyword chunk).inner =
        same_bits r.inner (record_of f keyword chunk).inner
        (λ x. bool-ext _ _ (λ m. q.inner_all x (p.inner_only x m).0 (p.inner_only x m).1) (λ m. p.inner_all x (q.inner_only x m).0 (q.inner_only x m).1)) in
        λ i. record { prefix = a i; suffix = b i; offsets = c i; inner = d i }
