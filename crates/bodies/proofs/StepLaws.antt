-- The body check keyword by keyword: its laws. What the bytes say from one keyword on is its record, its set and what follows them. Assumes nothing.
use mathlib.Core.Path.{◌≡◌, refl, sym, ap, ap₂, ◌∙◌}
use mathlib.Core.Logic.{◌⊎◌, inl, inr, ⊎_elim}
use mathlib.Core.Bool.{Bool, true, false, ◌&&◌, not, cond, and-false, false≢true}
use mathlib.Core.List.{List, [], ◌∷◌, ◌++◌}
use Prim.Native.Nat.{ℕ, suc, ◌-◌, ◌%◌, ◌^◌, ◌≤◌, ◌<◌}
use native.Mathlib.Omega.{arith}
use lib.Dec.{eqb, ltb, leb-zero, eqb-suc-zero}
use lib.ListN.{length, take, drop, take-append-drop}
use lib.Seq.{take_at, drop_at}
use Rattle.spec.specs.Bytes.{field_at, same, begins}
use Rattle.spec.specs.Form.{Form, form3}
use Rattle.spec.specs.Records.{MatchRecord, is_empty, reach, in_range, set_in_range, head_bytes, full_bytes, record_bytes, set_bytes, body_from}
use Rattle.spec.specs.Records.{record_size, set_is_next, record_is_next, record_taken, set_taken, read_set, read_keyword, behind_keyword, read_from, all_in_range, good_body}
use Rattle.spec.proofs.Tests.{le-or-lt, bool_cases, false_of, and_left, and_right, eqb_same}
use Rattle.spec.proofs.Begins.{begins-split}
use Rattle.spec.proofs.Same.{same-eq, same_refl}
use Rattle.spec.proofs.Fields.{length-le_bytes}
use Rattle.spec.proofs.RecordLaws.{FormGood, bool-ext, and_intro, written-empty, size-written, body-begins, set-empty, set-some, zero_in}
use Rattle.body_sets.specs.Sets.{set_good}
use Rattle.bodies.specs.Steps.{good_from, record_good, record_good_next, set_good_next}

pub good-is-from : (f : Form) (lengths : List ℕ) (size : ℕ) (body : List ℕ) → good_body f lengths size body ≡ good_from f 0 lengths size body
unfolding good_body good_from
good-is-from f lengths size body = refl

pub good-end : (f : Form) (k size : ℕ) (bytes : List ℕ) → good_from f k [] size bytes ≡ eqb (length bytes) 0
unfolding good_from body_from read_from all_in_range
good-end f k size [] = refl
good-end f k size (b ∷ bytes) = sym (eqb-suc-zero (length bytes))

-- two parts are the whole exactly if each is its part of it, where the first part's length is known once they are the whole
parts_same : (x y bytes : List ℕ) (s : ℕ) (i j : Bool) → (x ++ y ≡ bytes → i ≡ true → s ≡ length x)
    → (same (x ++ y) bytes && (i && j)) ≡ (same x (take s bytes) && i && (same y (drop s bytes) && j))
parts_same x y bytes s i j size = bool-ext (same (x ++ y) bytes && (i && j)) (same x (take s bytes) && i && (same y (drop s bytes) && j)) there back
  where
    there : (same (x ++ y) bytes && (i && j)) ≡ true → (same x (take s bytes) && i && (same y (drop s bytes) && j)) ≡ true
    there e =
        let w : x ++ y ≡ bytes = same-eq (x ++ y) bytes (and_left (same (x ++ y) bytes) (i && j) e) in
        let ij = and_right (same (x ++ y) bytes) (i && j) e in
        let l : length x ≡ s = sym (size w (and_left i j ij)) in
        rw (← w, take_at x y s l, drop_at x y s l, same_refl x, same_refl y, and_left i j ij, and_right i j ij)

    back : (same x (take s bytes) && i && (same y (drop s bytes) && j)) ≡ true → (same (x ++ y) bytes && (i && j)) ≡ true
    back e =
        let a = and_left (same x (take s bytes) && i) (same y (drop s bytes) && j) e in
        let b = and_right (same x (take s bytes) && i) (same y (drop s bytes) && j) e in
        let p : x ≡ take s bytes = same-eq x (take s bytes) (and_left (same x (take s bytes)) i a) in
        let q : y ≡ drop s bytes = same-eq y (drop s bytes) (and_left (same y (drop s bytes)) j b) in
        let w : x ++ y ≡ bytes = ap₂ {C = List ℕ} (λ u v. u ++ v) p q ∙ take-append-drop s bytes in
        rw (w, same_refl bytes, and_right (same x (take s bytes)) i a, and_right (same y (drop s bytes)) j b)

-- ---- what is read where a record or a set is next, and where it is not

-- where there are sets, a set's range does not hang on the form
range-with : (f : Form) (n size set : ℕ) → f.sets ≡ true → set_in_range f n size set ≡ set_in_range form3 n size set
unfolding set_in_range
range-with f n size set q = ap (λ (b : Bool). ltb set (cond b (2 ^ (n - size)) 1) && eqb (set % 2) 0) q

module _ (f : Form) (k : ℕ) (bytes : List ℕ) where
  pub taken_here : record_is_next f k bytes ≡ true → record_taken f k bytes ≡ record_size f bytes
  unfolding record_taken
  taken_here q = rw q

  pub taken_none : record_is_next f k bytes ≡ false → record_taken f k bytes ≡ 0
  unfolding record_taken
  taken_none q = rw q

  pub set_here : set_is_next f k bytes ≡ true → set_taken f k bytes ≡ 6
  unfolding set_taken
  set_here q = rw q

  pub set-none : set_is_next f k bytes ≡ false → set_taken f k bytes ≡ 0
  unfolding set_taken
  set-none q = rw q

  none-set : set_is_next f k bytes ≡ false → read_set f k bytes ≡ 0
  unfolding read_set
  none-set q = rw q

  pub set-has : set_is_next f k bytes ≡ true → f.sets ≡ true
  set-has q = and_left f.sets (begins (k ∷ 4 ∷ []) bytes) q

  read-has-sets : 0 < read_set f k bytes → f.sets ≡ true
  read-has-sets h =
      ⊎_elim set-has (λ (q : set_is_next f k bytes ≡ false). let z : ⊥ = omega (arith, none-set q) in absurd z) (bool_cases (set_is_next f k bytes))

  none_read : record_is_next f k bytes ≡ false → is_empty (read_keyword f k bytes) ≡ true
  unfolding read_keyword
  none_read q = rw q

  -- a set starts with its keyword's number
  set-number : set_is_next f k bytes ≡ true → begins (k ∷ []) bytes ≡ true
  set-number q =
      ap (begins (k ∷ [])) (begins-split (k ∷ 4 ∷ []) bytes (and_right f.sets (begins (k ∷ 4 ∷ []) bytes) q)) ∙ rw (eqb_same k)

  -- where the next number is not the keyword's, neither is next
  module _ (e : begins (k ∷ []) bytes ≡ false) where
    pub no_record : record_is_next f k bytes ≡ false
    no_record = rw e (and-false (not (set_is_next f k bytes)))

    pub no-set : set_is_next f k bytes ≡ false
    no-set = false_of (set_is_next f k bytes) (λ q. false≢true (sym e ∙ set-number q))

  module _ (n size : ℕ) where
    record-step : (same (record_bytes f n k (read_keyword f k bytes)) (take (record_taken f k bytes) bytes) && in_range n size (read_keyword f k bytes))
        ≡ record_good_next f n k size bytes
    unfolding record_good_next record_good read_keyword record_taken record_bytes full_bytes head_bytes in_range
    record-step = go (bool_cases (record_is_next f k bytes))
      where
        go : (record_is_next f k bytes ≡ true) ⊎ (record_is_next f k bytes ≡ false)
            → (same (record_bytes f n k (read_keyword f k bytes)) (take (record_taken f k bytes) bytes) && in_range n size (read_keyword f k bytes))
            ≡ record_good_next f n k size bytes
        go (inl q) = rw q
        go (inr q) = rw (q, leb-zero (reach n size))

    set-step : (same (set_bytes k (read_set f k bytes)) (take (set_taken f k bytes) bytes) && set_in_range f n size (read_set f k bytes))
        ≡ set_good_next f n k size bytes
    unfolding set_good_next set_good read_set set_taken
    set-step = go (bool_cases (set_is_next f k bytes))
      where
        go : (set_is_next f k bytes ≡ true) ⊎ (set_is_next f k bytes ≡ false)
            → (same (set_bytes k (read_set f k bytes)) (take (set_taken f k bytes) bytes) && set_in_range f n size (read_set f k bytes))
            ≡ set_good_next f n k size bytes
        go (inl q) = rw q (ap (λ (x : Bool). same (set_bytes k (field_at bytes 2 4)) (take 6 bytes) && x) (range-with f n size (field_at bytes 2 4) (set-has q)))
        go (inr q) = rw (q, set-empty k 0 refl, zero_in f n size)

-- ---- a keyword's record and set, each against its part of the bytes

module _ (f : Form) (good : FormGood f) (k n : ℕ) (lengths : List ℕ) (size : ℕ) (bytes : List ℕ) (positive : 1 ≤ n) (fit : size ≤ f.longest_chunk) where
  -- behind the record
  abbrev after : List ℕ
  after = drop (record_taken f k bytes) bytes

  -- a record in range that starts the bytes takes as many of them as its head says; it is not empty, as what follows is the set or starts above k
  here-size : (records : List MatchRecord)
      → record_bytes f n k (read_keyword f k bytes) ++ (set_bytes k (read_set f k after) ++ body_from f (suc k) lengths records) ≡ bytes
      → in_range n size (read_keyword f k bytes) ≡ true → record_taken f k bytes ≡ length (record_bytes f n k (read_keyword f k bytes))
  here-size records w within = go (bool_cases (record_is_next f k bytes))
    where
      r : MatchRecord
      r = read_keyword f k bytes

      rest : List ℕ
      rest = body_from f (suc k) lengths records

      next : begins (k ∷ []) rest ≡ false
      next = body-begins f k (suc k) lengths records (omega arith)

      wrong : record_is_next f k bytes ≡ true → is_empty r ≡ true → (read_set f k after ≤ 0) ⊎ (0 < read_set f k after) → ⊥
      wrong q e (inl z) =
          let x : rest ≡ bytes = rw (written-empty f n k r e, set-empty k (read_set f k after) (omega arith)) at w in
          false≢true (sym next ∙ ap (begins (k ∷ [])) x ∙ and_right (not (set_is_next f k bytes)) (begins (k ∷ []) bytes) q)
      wrong q e (inr h) =
          let x : set_bytes k (read_set f k after) ++ rest ≡ bytes = rw (written-empty f n k r e) at w in
          let y : begins (k ∷ 4 ∷ []) bytes ≡ true = rw (← x, set-some k (read_set f k after) h, eqb_same k) in
          let z : set_is_next f k bytes ≡ true = and_intro f.sets (begins (k ∷ 4 ∷ []) bytes) (read-has-sets f k after h) y in
          false≢true (sym (ap not z) ∙ and_left (not (set_is_next f k bytes)) (begins (k ∷ []) bytes) q)

      full : record_is_next f k bytes ≡ true → is_empty r ≡ false → record_taken f k bytes ≡ length (record_bytes f n k r)
      full q e =
          taken_here f k bytes q
          ∙ ap (record_size f) (sym w)
          ∙ size-written f good n size k positive fit r within e (set_bytes k (read_set f k after) ++ rest)

      go : (record_is_next f k bytes ≡ true) ⊎ (record_is_next f k bytes ≡ false) → record_taken f k bytes ≡ length (record_bytes f n k r)
      go (inl q) = ⊎_elim (λ (e : is_empty r ≡ true). absurd (wrong q e (le-or-lt (read_set f k after) 0))) (full q) (bool_cases (is_empty r))
      go (inr q) = taken_none f k bytes q ∙ sym (ap length (written-empty f n k r (none_read f k bytes q)))

  -- a set that starts the bytes behind the record takes six of them; it is not empty, as what follows starts above k
  set-size : (records : List MatchRecord) → set_bytes k (read_set f k after) ++ body_from f (suc k) lengths records ≡ after
      → set_taken f k after ≡ length (set_bytes k (read_set f k after))
  set-size records w = go (bool_cases (set_is_next f k after)) (le-or-lt (read_set f k after) 0)
    where
      rest : List ℕ
      rest = body_from f (suc k) lengths records

      go : (set_is_next f k after ≡ true) ⊎ (set_is_next f k after ≡ false) → (read_set f k after ≤ 0) ⊎ (0 < read_set f k after)
          → set_taken f k after ≡ length (set_bytes k (read_set f k after))
      go (inl q) (inl z) =
          let x : rest ≡ after = rw (set-empty k (read_set f k after) (omega arith)) at w in
          absurd (false≢true (sym (body-begins f k (suc k) lengths records (omega arith)) ∙ ap (begins (k ∷ [])) x ∙ set-number f k after q))
      go (inl q) (inr h) =
          set_here f k after q
          ∙ sym (ap length (set-some k (read_set f k after) h) ∙ ap (λ (l : ℕ). suc (suc l)) (length-le_bytes 4 (read_set f k after)))
      go (inr q) d = set-none f k after q ∙ sym (ap length (set-empty k (read_set f k after) (none-set f k after q)))

  -- the keyword's record, its set, and the bytes behind them
  pub good-step : good_from f k (n ∷ lengths) size bytes
      ≡ (record_good_next f n k size bytes && (set_good_next f n k size after && good_from f (suc k) lengths size (behind_keyword f k bytes)))
  unfolding good_from body_from read_from all_in_range behind_keyword read_keyword
  good-step =
      let records = read_from f (suc k) (length lengths) (drop (set_taken f k after) after) in
      let r = read_keyword f k bytes in
      let body = body_from f (suc k) lengths records in
      parts_same (record_bytes f n k r) (set_bytes k (read_set f k after) ++ body) bytes (record_taken f k bytes) (in_range n size r)
      (set_in_range f n size (read_set f k after) && all_in_range f size lengths records) (here-size records)
      ∙ ap₂ (λ (x y : Bool). x && y) (record-step f k bytes n size)
      (parts_same (set_bytes k (read_set f k after)) body after (set_taken f k after) (set_in_range f n size (read_set f k after))
      (all_in_range f size lengths records) (λ w e. set-size records w)
      ∙ ap (λ (x : Bool). x && good_from f (suc k) lengths size (drop (set_taken f k after) after)) (set-step f k after n size))

  -- the next number is not the keyword's: it has neither record nor set
  pub good-absent : begins (k ∷ []) bytes ≡ false → good_from f k (n ∷ lengths) size bytes ≡ good_from f (suc k) lengths size bytes
  unfolding record_good_next set_good_next behind_keyword
  good-absent e = good-step ∙ rw (taken_none f k bytes (no_record f k bytes e), no-set f k bytes e, set-none f k bytes (no-set f k bytes e), e)
