-- Laws of filling runs from a log: a member's offset, an entry, the log. Assumes nothing.
use mathlib.Core.Path.{◌≡◌, refl, sym, ap, ◌∙◌}
use mathlib.Core.Logic.{◌≢◌, ⊎_elim}
use mathlib.Core.Bool.{Bool, true, false, cond}
use mathlib.Core.List.{List, [], ◌∷◌, ◌++◌, append-nil}
use Prim.Native.Nat.{ℕ, zero, suc, ◌+◌, ◌-◌, ◌/◌, ◌^◌, ◌≤◌, ◌<◌}
use native.Mathlib.Nat.{add-zero}
use native.Mathlib.Numerals.{add-one}
use native.Mathlib.Omega.{arith}
use lib.ListN.{length, drop, get_or, set, length-append, drop_of_length-le}
use lib.Seq.{drop-cons, get_or-set_same, get_or-set_other}
use lib.Dec.{leb, ltb}
use borrow.Author.Tests.{lt-ltb, le-ltb}
use Rattle.spec.specs.Bytes.{splice, le_bytes, fields_bytes, keep, in_set}
use Rattle.spec.specs.Form.{newest}
use Rattle.spec.proofs.Tests.{le-or-lt, leb-true, leb-false, bool_cases}
use Rattle.spec.proofs.Fields.{length-le_bytes}
use Rattle.spec.proofs.Splices.{splice-splice, splice-nil}
use Rattle.spec.proofs.RecordLaws.{no-offsets}
use Rattle.logs.specs.Log.{set_at, place_in, logged_offsets}
use Rattle.offset_lists.specs.Patches.{patched, Apart}
use Rattle.keywords.specs.declared.Keywords.{Keywords}
use Rattle.offset_lists.specs.Runs.{piece_of, entry_run, log_run, cursor, moved_by, Filled, CanList}
use Rattle.logs.proofs.Bits.{Next, Changed, changed-not, no_member}
use Rattle.logs.proofs.Tallying.{sixteen}
use Rattle.offset_lists.proofs.Patching.{patched_same, patched-none, patched-length, patched-behind, patched-turn}

-- ---- runs in two parts

-- the first parts written, then the others behind them
pub patched-split : (n : ℕ) (p q : ℕ → ℕ) (f g h : ℕ → List ℕ) (l : List ℕ) → ((k : ℕ) → k < n → h k ≡ f k ++ g k)
    → ((k : ℕ) → k < n → q k ≡ p k + length (f k)) → Apart n p h (length l) → patched n q g (patched n p f l) ≡ patched n p h l
unfolding patched
patched-split zero p q f g h l e m a = refl
patched-split (suc n) p q f g h l e m a =
    let x : List ℕ = patched n p f l in
    let ends : (k : ℕ) → k < suc n → p k + length (h k) ≡ q k + length (g k) =
    λ k i. omega (arith, ap length (e k i), length-append (f k) (g k), m k i) in
    let first : length x ≡ length l =
    patched-length n p f l (λ k i. omega (arith, a.room k (omega arith), ap length (e k (omega arith)), length-append (f k) (g k))) in
    let inner : patched n q g x ≡ patched n p h l = patched-split n p q f g h l (λ k i. e k (omega arith)) (λ k i. m k (omega arith))
    (record { order = λ j k i o. a.order j k i (omega arith); room = λ k i. a.room k (omega arith) }) in
    let whole : length (patched n p h l) ≡ length l = patched-length n p h l (λ k i. a.room k (omega arith)) in
    let top : p n + length (h n) ≤ length l = a.room n (omega arith) in
    ap (λ (z : List ℕ). splice z (q n) (g n))
    (patched-behind n q g x (p n) (f n) (λ k i. omega (arith, ends k (omega arith), a.order k n i (omega arith))) (omega arith)
    ∙ ap (λ (z : List ℕ). splice z (p n) (f n)) inner)
    ∙ ap (λ (z : ℕ). splice (splice (patched n p h l) (p n) (f n)) z (g n)) (m n (omega arith))
    ∙ splice-splice (patched n p h l) (p n) (f n) (g n) (omega arith)
    ∙ ap (splice (patched n p h l) (p n)) (sym (e n (omega arith)))

-- ---- one offset

pub piece-none : (count offset : ℕ) → count ≤ 1 → piece_of newest count offset ≡ []
unfolding piece_of
piece-none count offset h = rw (leb-true count 1 h)

pub piece-some : (count offset : ℕ) → 1 < count → piece_of newest count offset ≡ le_bytes newest.width offset
unfolding piece_of
piece-some count offset h = rw (leb-false count 1 h)

pub piece-length : (count offset : ℕ) → 1 < count → length (piece_of newest count offset) ≡ newest.width
piece-length count offset h = ap length (piece-some count offset h) ∙ length-le_bytes newest.width offset

pub piece-put : (l : List ℕ) (at offset count : ℕ) → count ≤ 1 → (l ≡ splice l at (piece_of newest count offset)) × (0 ≡ length (piece_of newest count offset))
piece-put l at offset count h = (rw (piece-none count offset h, splice-nil), rw (piece-none count offset h))

-- ---- an entry, member by member

module _ (counts len : List ℕ) (members end : ℕ) where
  abbrev run : ℕ → List ℕ
  run = entry_run newest counts len members end

  -- what is left of it from keyword `from` on
  abbrev pub run_from : ℕ → ℕ → List ℕ
  run_from from k = cond (ltb k from) [] (run k)

  abbrev pub piece : ℕ → List ℕ
  piece k = piece_of newest (get_or counts k 0) (end - get_or len k 0)

  -- how it moves the cursors
  abbrev pub moves : ℕ → ℕ → ℕ
  moves k x = x + length (piece k)

  pub run-member : (k : ℕ) → in_set members k ≡ true → run k ≡ piece k
  unfolding entry_run
  run-member k h = rw h

  run-other : (k : ℕ) → in_set members k ≡ false → run k ≡ []
  unfolding entry_run
  run-other k h = rw h

  -- what stays of the promise with the members below `from` done
  abbrev pub Promised : (before c₀ out c : List ℕ) (from : ℕ) → Type 0
  Promised before c₀ out c from =
      (n : ℕ) → ((k : ℕ) → n ≤ k → run k ≡ []) → Apart n (cursor c₀) run (length before)
      → patched n (cursor c) (run_from from) out ≡ patched n (cursor c₀) run before

  -- done and left are all
  moved-left : (from k : ℕ) (c₀ c : List ℕ) → Changed members moves from c₀ c → cursor c k + length (run_from from k) ≡ cursor c₀ k + length (run k)
  moved-left from k c₀ c h = ⊎_elim
      (λ (q : from ≤ k). let e : cursor c k ≡ cursor c₀ k = changed-not members moves from k c₀ c h q in
      rw (le-ltb k from q) (ap (λ (x : ℕ). x + length (run k)) e))
      (λ (q : k < from). ⊎_elim (member q) (other q) (bool_cases (in_set members k)))
      (le-or-lt from k)
    where
      member : k < from → in_set members k ≡ true → cursor c k + length (run_from from k) ≡ cursor c₀ k + length (run k)
      member q b =
          let e : cursor c k ≡ cursor c₀ k + length (piece k) = h k ∙ rw (lt-ltb k from q, b) in
          let f : length (run_from from k) ≡ 0 = rw (lt-ltb k from q) in
          omega (arith, e, f, ap length (run-member k b))

      other : k < from → in_set members k ≡ false → cursor c k + length (run_from from k) ≡ cursor c₀ k + length (run k)
      other q b =
          let e : cursor c k ≡ cursor c₀ k = h k ∙ rw (lt-ltb k from q, b) in
          let f : length (run_from from k) ≡ 0 = rw (lt-ltb k from q) in
          omega (arith, e, f, ap length (run-other k b))

  left-most : (from k : ℕ) → length (run_from from k) ≤ length (run k)
  left-most from k = go (ltb k from)
    where
      go : (b : Bool) → length (cond b [] (run k)) ≤ length (run k)
      go true = omega arith
      go false = omega arith

  -- what is left lies apart too
  left-apart : (n from size : ℕ) (c₀ c : List ℕ) → Changed members moves from c₀ c → Apart n (cursor c₀) run size → Apart n (cursor c) (run_from from) size
  left-apart n from size c₀ c h a = record {
    order = λ j k i o. omega (arith, moved-left from j c₀ c h, a.order j k i o, moved-left from k c₀ c h, left-most from k);
    room = λ k i. omega (arith, moved-left from k c₀ c h, a.room k i);
  }

  -- the next member's piece written
  pub member-turn : (n from k rest x : ℕ) (c₀ c before out after : List ℕ) → Next members from k rest → k < length c → x ≡ cursor c k + length (piece k)
      → after ≡ splice out (cursor c k) (piece k) → length out ≡ length before
      → Changed members moves from c₀ c → ((j : ℕ) → n ≤ j → run j ≡ []) → Apart n (cursor c₀) run (length before)
      → patched n (cursor (set c k x)) (run_from (k + 1)) after ≡ patched n (cursor c) (run_from from) out
  member-turn n from k rest x c₀ c before out after m l e w s h none a = ⊎_elim outside inside (le-or-lt n k)
    where
      -- another keyword's
      same : (j : ℕ) → j ≢ k → run_from (k + 1) j ≡ run_from from j
      same j d = ⊎_elim
          (λ (q : k < j). rw (le-ltb j (k + 1) (omega arith), le-ltb j from (omega (arith, m.low))))
          (λ (q : j < suc k). ⊎_elim
          (λ (o : from ≤ j). rw (lt-ltb j (k + 1) (omega arith), le-ltb j from o) (sym (run-other j (m.between j o (omega arith)))))
          (λ (o : j < from). rw (lt-ltb j (k + 1) (omega arith), lt-ltb j from o))
          (le-or-lt from j))
          (le-or-lt (suc k) j)

      here : run_from from k ≡ piece k
      here = rw (le-ltb k from m.low) (run-member k m.here)

      done : run_from (k + 1) k ≡ []
      done = rw (lt-ltb k (k + 1) (omega arith))

      outside : n ≤ k → patched n (cursor (set c k x)) (run_from (k + 1)) after ≡ patched n (cursor c) (run_from from) out
      outside o =
          let z : piece k ≡ [] = sym (run-member k m.here) ∙ none k o in
          let q : after ≡ out = w ∙ rw (z, splice-nil) in
          rw q (patched_same n (cursor (set c k x)) (cursor c) (run_from (k + 1)) (run_from from) out
          (λ j i. get_or-set_other c k j x 0 (omega arith)) (λ j i. same j (omega arith)))

      inside : k < n → patched n (cursor (set c k x)) (run_from (k + 1)) after ≡ patched n (cursor c) (run_from from) out
      inside i =
          rw w (patched-turn n (cursor c) (cursor (set c k x)) (run_from from) (run_from (k + 1)) out k (piece k) i
          (rw s (left-apart n from (length before) c₀ c h a))
          (here ∙ sym (rw (done, append-nil)))
          (get_or-set_same c k x 0 l ∙ e)
          (λ j o d. get_or-set_other c k j x 0 d)
          (λ j o d. same j d))

  -- none is left
  pub member-end : (from : ℕ) (c₀ c before out : List ℕ) → 0 ≡ members / 2 ^ from → Changed members moves from c₀ c
      → Promised before c₀ out c from → Filled run before c₀ out c
  member-end from c₀ c before out z h p = record {
    bytes = λ n none a. sym (patched-none n (cursor c) (run_from from) out (λ k i. left k)) ∙ p n none a;
    moved = λ k. sym (add-zero (cursor c k)) ∙ ap (λ (v : List ℕ). cursor c k + length v) (sym (left k)) ∙ moved-left from k c₀ c h;
  }
    where
      left : (k : ℕ) → run_from from k ≡ []
      left k = ⊎_elim
          (λ (q : from ≤ k). rw (le-ltb k from q) (run-other k (no_member members from k z q)))
          (λ (q : k < from). rw (lt-ltb k from q))
          (le-or-lt from k)

  -- room for the next member's piece
  pub member-room : (from k rest size : ℕ) (c₀ c : List ℕ) → Next members from k rest → Changed members moves from c₀ c
      → cursor c₀ k + length (run k) ≤ size → cursor c k + length (piece k) ≤ size
  member-room from k rest size c₀ c m h r =
      omega (arith, changed-not members moves from k c₀ c h m.low, ap length (run-member k m.here))

  pub runs-start : (n : ℕ) (c before : List ℕ) → patched n (cursor c) (run_from 0) before ≡ patched n (cursor c) run before
  runs-start n c before = patched_same n (cursor c) (cursor c) (run_from 0) run before (λ k i. refl) (λ k i. rw (le-ltb k 0 (omega arith)))

-- ---- a log, entry by entry

module _ (counts len ends : List ℕ) where
  -- what a log lists of keyword k
  abbrev lists : List ℕ → ℕ → List ℕ
  lists log = log_run newest counts len ends log

  -- what its first entry does
  abbrev pub adds : ℕ → ℕ → List ℕ
  adds e = entry_run newest counts len (set_at ends e) (place_in e + 1)

  pub lists-none : (k : ℕ) → lists [] k ≡ []
  unfolding log_run logged_offsets fields_bytes
  lists-none k = go (leb (get_or counts k 0) 1)
    where
      go : (b : Bool) → ◌≡◌ {A = List ℕ} (cond b [] []) []
      go true = refl
      go false = refl

  pub lists-more : (e : ℕ) (log : List ℕ) (k : ℕ) → lists (e ∷ log) k ≡ adds e k ++ lists log k
  unfolding log_run entry_run piece_of logged_offsets fields_bytes
  lists-more e log k = go (leb (get_or counts k 0) 1) (in_set (set_at ends e) k)
    where
      offset : ℕ
      offset = place_in e + 1 - get_or len k 0

      go : (few here : Bool)
          → cond few [] (fields_bytes newest.width (keep here offset ++ logged_offsets ends k (get_or len k 0) log))
          ≡ cond here (cond few [] (le_bytes newest.width offset)) [] ++ cond few [] (fields_bytes newest.width (logged_offsets ends k (get_or len k 0) log))
      go true true = refl
      go true false = refl
      go false true = refl
      go false false = refl

  -- the entries from i on are left
  pub record Going (log : List ℕ) (i : ℕ) (before cursors₀ out cursors : List ℕ) : Type 0 where
    pub size : length out ≡ length before
    pub placed : length cursors ≡ length cursors₀
    pub left : (k : ℕ) → cursor cursors k + length (lists (drop i log) k) ≡ cursor cursors₀ k + length (lists log k)
    pub risen : (k : ℕ) → cursor cursors₀ k ≤ cursor cursors k
    pub kept : (n : ℕ) → ((k : ℕ) → n ≤ k → lists log k ≡ []) → Apart n (cursor cursors₀) (lists log) (length before)
        → patched n (cursor cursors) (lists (drop i log)) out ≡ patched n (cursor cursors₀) (lists log) before

  pub going_start : (log before cursors : List ℕ) → Going log 0 before cursors before cursors
  going_start log before cursors = record {
    size = refl;
    placed = refl;
    left = λ k. refl;
    risen = λ k. omega arith;
    kept = λ n none a. refl;
  }

  pub going_end : (log : List ℕ) (i : ℕ) (before cursors₀ out cursors : List ℕ) → length log ≤ i → Going log i before cursors₀ out cursors
      → Filled (lists log) before cursors₀ out cursors
  going_end log i before cursors₀ out cursors h g = record {
    bytes = λ n none a. sym (patched-none n (cursor cursors) (lists (drop i log)) out (λ k l. ended k)) ∙ g.kept n none a;
    moved = λ k. omega (arith, g.left k, ap length (ended k));
  }
    where
      ended : (k : ℕ) → lists (drop i log) k ≡ []
      ended k = rw (drop_of_length-le log h) (lists-none k)

  module _ (log : List ℕ) (i : ℕ) (l : i < length log) (before cursors₀ out cursors : List ℕ) (g : Going log i before cursors₀ out cursors) where
    abbrev entry : ℕ
    entry = get_or log i 0

    here : (k : ℕ) → lists (drop i log) k ≡ adds entry k ++ lists (drop (i + 1) log) k
    here k = rw (drop-cons log i 0 l, add-one i) (lists-more (get_or log i 0) (drop (suc i) log) k)

    here-length : (k : ℕ) → length (lists (drop i log) k) ≡ length (adds entry k) + length (lists (drop (i + 1) log) k)
    here-length k = ap length (here k) ∙ length-append (adds entry k) (lists (drop (i + 1) log) k)

    -- room for the entry
    pub going-room : ((k : ℕ) → cursor cursors₀ k + length (lists log k) ≤ length before) → (k : ℕ) → cursor cursors k + length (adds (get_or log i 0) k)
        ≤ length out
    going-room r k = omega (arith, r k, g.left k, here-length k, g.size)

    pub going-turn : (after cursors' : List ℕ) → length after ≡ length out → length cursors' ≡ length cursors
        → Filled (adds (get_or log i 0)) out cursors after cursors' → Going log (i + 1) before cursors₀ after cursors'
    going-turn after cursors' s c f = record {
      size = s ∙ g.size;
      placed = c ∙ g.placed;
      left = λ k. omega (arith, f.moved k, g.left k, here-length k);
      risen = λ k. omega (arith, f.moved k, g.risen k);
      kept = λ n none a. ap (patched n (cursor cursors') (lists (drop (i + 1) log))) (f.bytes n (λ k m. nothing none k m) (first n a)) ∙ split n a
          ∙ g.kept n none a;
    }
      where
        nothing : {n : ℕ} → ((k : ℕ) → n ≤ k → lists log k ≡ []) → (k : ℕ) → n ≤ k → adds entry k ≡ []
        nothing none k m = no-offsets (adds entry k) (omega (arith, g.left k, g.risen k, here-length k, ap length (none k m)))

        -- what is left lies apart
        rest : (n : ℕ) → Apart n (cursor cursors₀) (lists log) (length before) → Apart n (cursor cursors) (lists (drop i log)) (length out)
        rest n a = record {
          order = λ j k o m. omega (arith, g.left j, a.order j k o m, g.risen k);
          room = λ k m. omega (arith, g.left k, a.room k m, g.size);
        }

        first : (n : ℕ) → Apart n (cursor cursors₀) (lists log) (length before) → Apart n (cursor cursors) (adds entry) (length out)
        first n a = record {
          order = λ j k o m. omega (arith, (rest n a).order j k o m, here-length j);
          room = λ k m. omega (arith, (rest n a).room k m, here-length k);
        }

        split : (n : ℕ) → Apart n (cursor cursors₀) (lists log) (length before)
            → patched n (cursor cursors') (lists (drop (i + 1) log)) (patched n (cursor cursors) (adds entry) out)
            ≡ patched n (cursor cursors) (lists (drop i log)) out
        split n a = patched-split n (cursor cursors) (cursor cursors') (adds entry) (lists (drop (i + 1) log)) (lists (drop i log)) out
            (λ k m. here k) (λ k m. f.moved k) (rest n a)

-- ---- the lists of a log, as they are asked and promised

module _ (words : Keywords) (run : ℕ → List ℕ) (before cursors counts : List ℕ) (can : CanList words run before cursors counts) where
  -- each has room
  pub list-room : (k : ℕ) → cursor cursors k + length (run k) ≤ length before
  list-room k = ⊎_elim (λ h. omega (arith, can.within k h, ap length (can.none k h))) (λ h. can.apart.room k h) (le-or-lt words.count k)

  pub list-filled : (out cursors' : List ℕ) → length cursors' ≡ 16 → Filled run before cursors out cursors'
      → (out ≡ patched words.count (cursor cursors) run before) × (cursors' ≡ moved_by run cursors)
  unfolding moved_by
  list-filled out cursors' n f = (f.bytes words.count can.none can.apart, sixteen (λ k. cursor cursors k + length (run k)) cursors' n (λ k h. f.moved k))
