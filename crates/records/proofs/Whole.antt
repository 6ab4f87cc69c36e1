-- A body begun, then filled from the chunk's log, is the chunk's body; so is a body begun that has no lists. Assumes nothing.
use mathlib.Core.Path.{◌≡◌, sym, ap, ◌∙◌}
use mathlib.Core.Logic.{⊎_elim}
use mathlib.Core.List.{List, []}
use Prim.Native.Nat.{ℕ, ◌+◌, ◌≤◌, ◌<◌}
use native.Mathlib.Omega.{arith}
use lib.ListN.{length, get_or, get_or-eq_default}
use Rattle.spec.specs.Bytes.{written}
use Rattle.spec.specs.Form.{newest}
use Rattle.spec.specs.Scan.{scan_body}
use Rattle.spec.proofs.Tests.{le-or-lt, leb-true}
use Rattle.keywords.specs.declared.Keywords.{Keywords}
use Rattle.logs.specs.declared.Tally.{Tally}
use Rattle.records.specs.declared.Started.{Started}
use Rattle.records.specs.Bodies.{found_at, start_of, list_of, place_of, started_of, Tells}
use Rattle.offset_lists.specs.Patches.{patched}
use Rattle.offset_lists.specs.Runs.{log_run, cursor, CanList}
use Rattle.records.specs.Summaries.{list_bytes}
use Rattle.logs.specs.Tallies.{tally_of}
use Rattle.records.proofs.BodyLaws.{lens, keywords-few}
use Rattle.records.proofs.Beginning.{place-most, place-behind, begun-length, body-begun, list-place, no-list-place, started-length, started-at}
use Rattle.offset_lists.proofs.Patching.{patched_same, patched-none}
use Rattle.logs.proofs.Tallying.{tally-counts}
use Rattle.records.proofs.Telling.{Sources, sources-list, sources-none}

module _ (list : List ℕ) (words : Keywords) (chunk log ends tails : List ℕ) (last : ℕ) (s : Sources list words chunk log ends tails last)
    (tally : Tally) (t : tally ≡ tally_of ends words.len log) (before begun : List ℕ) (started : Started)
    (fits : length (scan_body newest list chunk) ≤ length before) (e : begun ≡ patched words.count (place_of list chunk) (start_of list chunk) before)
    (b : started ≡ started_of list chunk) where
  abbrev run : ℕ → List ℕ
  run = log_run newest tally.counts words.len ends log

  is : (k : ℕ) → k < words.count → run k ≡ list_of list chunk k
  is k h = sources-list list words chunk log ends tails last s tally t k h

  none : (k : ℕ) → words.count ≤ k → run k ≡ []
  none k h = sources-none list words chunk log ends tails last s tally t k h

  same : length begun ≡ length before
  same = ap length e ∙ begun-length list words s.reads chunk before fits words.count (omega arith)

  at : (k : ℕ) → k < words.count → cursor started.cursors k ≡ place_of list chunk k + length (start_of list chunk k)
  at k h = started-at list chunk started b k (omega (arith, keywords-few list words s.reads)) ∙ list-place list words s.reads chunk k h

  -- every list has room at its cursor
  pub can-list : CanList words run begun started.cursors tally.counts
  can-list = record {
    placed = started-length list chunk started b;
    counted = tally-counts ends words.len log tally t;
    sizes = lens list words s.reads;
    few = keywords-few list words s.reads;
    apart = record {
      order = λ j k i o. omega (arith, at j (omega arith), at k o, ap length (is j (omega arith)), place-behind list words s.reads chunk j k i);
      room = λ k i. omega (arith, at k i, ap length (is k i), place-most list words s.reads chunk k i, same);
    };
    none = none;
    within = λ k h. ⊎_elim
        (λ (i : 16 ≤ k). omega (arith, get_or-eq_default started.cursors 0 {n = k} (omega (arith, started-length list chunk started b))))
        (λ (i : k < 16). omega (arith, started-at list chunk started b k i, no-list-place list words s.reads chunk k h))
        (le-or-lt 16 k);
  }

  pub body-filled : (after : List ℕ) → after ≡ patched words.count (cursor started.cursors) run begun → after ≡ written before (scan_body newest list chunk)
  body-filled after p =
      p ∙ ap (patched words.count (cursor started.cursors) run) e
      ∙ patched_same words.count (cursor started.cursors) (λ k. place_of list chunk k + length (start_of list chunk k)) run (list_of list chunk)
      (patched words.count (place_of list chunk) (start_of list chunk) before) at is
      ∙ body-begun list words s.reads chunk before fits

-- with no offsets there are no lists
pub body-without : (list : List ℕ) (words : Keywords) (chunk tails : List ℕ) (last : ℕ) (tally : Tally) → Tells list words chunk tails last tally
    → ((k : ℕ) → get_or tally.counts k 0 ≡ 0) → (before begun : List ℕ) → length (scan_body newest list chunk) ≤ length before
    → begun ≡ patched words.count (place_of list chunk) (start_of list chunk) before → begun ≡ written before (scan_body newest list chunk)
unfolding list_bytes
body-without list words chunk tails last tally t none before begun fits e =
    e ∙ sym (patched-none words.count (λ k. place_of list chunk k + length (start_of list chunk k)) (list_of list chunk)
    (patched words.count (place_of list chunk) (start_of list chunk) before) (λ k h. empty k h)) ∙ body-begun list words t.reads chunk before fits
  where
    empty : (k : ℕ) → k < words.count → list_of list chunk k ≡ []
    empty k h = rw (leb-true (length (found_at list chunk k).offsets) 1 (omega (arith, none k, t.count k h)))
