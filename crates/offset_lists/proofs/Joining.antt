-- A log in parts (request #105): the lists of offsets are filled one part after the other, each where the part before left the cursors. Assumes nothing.
use mathlib.Core.Path.{◌≡◌, sym, ap, ◌∙◌}
use mathlib.Core.Logic.{⊎_elim}
use mathlib.Core.List.{List, [], ◌∷◌, ◌++◌, append_assoc}
use Prim.Native.Nat.{ℕ, ◌+◌, ◌≤◌, ◌<◌}
use native.Mathlib.Omega.{arith}
use lib.ListN.{length, length-append, get_or-eq_default}
use Rattle.spec.specs.Form.{newest}
use Rattle.spec.proofs.Tests.{le-or-lt}
use Rattle.spec.proofs.RecordLaws.{no-offsets}
use Rattle.spec.proofs.Tabulated.{length-tabulated}
use Rattle.keywords.specs.declared.Keywords.{Keywords}
use Rattle.offset_lists.specs.Patches.{patched}
use Rattle.offset_lists.specs.Runs.{log_run, cursor, moved_by, CanList}
use Rattle.logs.proofs.Tallying.{sixteen, sixteenth}
use Rattle.offset_lists.proofs.Patching.{patched-none, patched-length}
use Rattle.offset_lists.proofs.Filling.{adds, lists-none, lists-more, patched-split}

-- ---- lists of offsets

pub lists-append : (counts len ends x y : List ℕ) (k : ℕ)
    → log_run newest counts len ends (x ++ y) k ≡ log_run newest counts len ends x k ++ log_run newest counts len ends y k
lists-append counts len ends [] y k = rw (lists-none counts len ends k)
lists-append counts len ends (e ∷ x) y k =
    lists-more counts len ends e (x ++ y) k
    ∙ ap (λ (r : List ℕ). adds counts len ends e k ++ r) (lists-append counts len ends x y k)
    ∙ sym (append_assoc (adds counts len ends e k) (log_run newest counts len ends x k) (log_run newest counts len ends y k))
    ∙ ap (λ (r : List ℕ). r ++ log_run newest counts len ends y k) (sym (lists-more counts len ends e x k))

-- ---- cursors

pub moved_length : (run : ℕ → List ℕ) (cursors : List ℕ) → length (moved_by run cursors) ≡ 16
unfolding moved_by
moved_length run cursors = length-tabulated (λ k. cursor cursors k + length (run k)) 0 16

pub moved_at : (run : ℕ → List ℕ) (cursors : List ℕ) (k : ℕ) → k < 16 → cursor (moved_by run cursors) k ≡ cursor cursors k + length (run k)
unfolding moved_by
moved_at run cursors k h = sixteenth (λ j. cursor cursors j + length (run j)) k h

-- ---- one part after the other

-- the parts before the window are filled, the window and what is behind it are not
module _ (words : Keywords) (run x y z : ℕ → List ℕ) (parts : (k : ℕ) → run k ≡ x k ++ y k ++ z k)
    (before c₀ counts : List ℕ) (can : CanList words run before c₀ counts) (out c : List ℕ) (filled : out ≡ patched words.count (cursor c₀) x before)
    (moved : c ≡ moved_by x c₀) where
  lengths : (k : ℕ) → length (run k) ≡ length (x k) + length (y k) + length (z k)
  lengths k = ap length (parts k) ∙ length-append (x k ++ y k) (z k) ∙ ap (λ (n : ℕ). n + length (z k)) (length-append (x k) (y k))

  at : (k : ℕ) → k < words.count → cursor c k ≡ cursor c₀ k + length (x k)
  at k h = ap (λ (l : List ℕ). cursor l k) moved ∙ moved_at x c₀ k (omega (arith, can.few))

  same : length out ≡ length before
  same = ap length filled ∙ patched-length words.count (cursor c₀) x before (λ k h. omega (arith, can.apart.room k h, lengths k))

  gone : (k : ℕ) → words.count ≤ k → (length (x k) ≡ 0) × (length (y k) ≡ 0)
  gone k h = (omega (arith, lengths k, ap length (can.none k h)), omega (arith, lengths k, ap length (can.none k h)))

  -- the window's part can be filled
  pub part-fills : CanList words y out c counts
  part-fills = record {
    placed = ap length moved ∙ moved_length x c₀;
    counted = can.counted;
    sizes = can.sizes;
    few = can.few;
    apart = record {
      order = λ j k i o. omega (arith, at j (omega arith), at k o, can.apart.order j k i o, lengths j);
      room = λ k o. omega (arith, at k o, can.apart.room k o, lengths k, same);
    };
    none = λ k h. no-offsets (y k) (gone k h).1;
    within = λ k h. ⊎_elim
        (λ (i : 16 ≤ k). omega (arith, get_or-eq_default c 0 {n = k} (omega (arith, ap length moved, moved_length x c₀))))
        (λ (i : k < 16). omega (arith, ap (λ (l : List ℕ). cursor l k) moved, moved_at x c₀ k i, (gone k h).0, can.within k h, same))
        (le-or-lt 16 k);
  }

  -- and then the parts up to its end are
  pub part_filled : (w : ℕ → List ℕ) → ((k : ℕ) → w k ≡ x k ++ y k) → (out' : List ℕ) → out' ≡ patched words.count (cursor c) y out
      → out' ≡ patched words.count (cursor c₀) w before
  part_filled w e out' p =
      p ∙ ap (patched words.count (cursor c) y) filled
      ∙ patched-split words.count (cursor c₀) (cursor c) x y w before (λ k h. e k) at (record {
        order = λ j k i o. omega (arith, can.apart.order j k i o, lengths j, ap length (e j), length-append (x j) (y j));
        room = λ k o. omega (arith, can.apart.room k o, lengths k, ap length (e k), length-append (x k) (y k));
      })

  pub part_moved : (w : ℕ → List ℕ) → ((k : ℕ) → w k ≡ x k ++ y k) → (c' : List ℕ) → c' ≡ moved_by y c → c' ≡ moved_by w c₀
  unfolding moved_by
  part_moved w e c' p = sixteen (λ k. cursor c₀ k + length (w k)) c' (ap length p ∙ moved_length y c) (λ k h. omega (
    arith,
    ap (λ (l : List ℕ). cursor l k) p,
    moved_at y c k h,
    ap (λ (l : List ℕ). cursor l k) moved,
    moved_at x c₀ k h,
    ap length (e k),
    length-append (x k) (y k),
  ))

-- before the first part nothing is
pub none_filled : (n : ℕ) (p : ℕ → ℕ) (run : ℕ → List ℕ) (before : List ℕ) → ((k : ℕ) → run k ≡ []) → before ≡ patched n p run before
none_filled n p run before h = sym (patched-none n p run before (λ k i. h k))

pub none-moved : (run : ℕ → List ℕ) (cursors : List ℕ) → length cursors ≡ 16 → ((k : ℕ) → run k ≡ []) → cursors ≡ moved_by run cursors
unfolding moved_by
none-moved run cursors l h = sixteen (λ k. cursor cursors k + length (run k)) cursors l (λ k i. omega (arith, ap length (h k)))
