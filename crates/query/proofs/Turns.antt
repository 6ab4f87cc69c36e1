-- The loop over the files that writes their lines: before file k, what lies in the buffer and the lines of the files from k on are all lines. And what
-- the plan says of a query's lines. Assumes nothing.
use mathlib.Core.Path.{◌≡◌, refl, sym, ap, subst, ◌∙◌}
use mathlib.Core.Logic.{◌≢◌}
use mathlib.Core.Bool.{Bool, false}
use mathlib.Core.List.{List, [], ◌∷◌, ◌++◌}
use Prim.Native.Nat.{ℕ, ◌+◌, ◌*◌, ◌≤◌, ◌<◌}
use native.Mathlib.Omega.{arith}
use lib.ListN.{length, get_or}
use borrow.Author.Tests.{ne_eqb}
use Rattle.spec.specs.Bytes.{part, field_at, splice}
use Rattle.spec.specs.Form.{form_of}
use Rattle.spec.specs.Index.{lengths_in}
use Rattle.spec.specs.Recipes.{file_count, recipes_code}
use Rattle.spec.specs.Join.{Occurrence}
use Rattle.spec.specs.Query.{Line, line_of, query_lines, line_size, lines_bytes}
use Rattle.spec.proofs.Writing.{Going, going_start, going-room, going_on, going_end}
use Rattle.recipes.proofs.Files.{Walk, accepted}
use Rattle.recipes.proofs.Slices.{file-next}
use Rattle.walk.specs.Walking.{file_list}
use Rattle.plan.specs.Plans.{rows, all_rows, Marked}
use Rattle.plan.proofs.FileLaws.{list-is, lines_left, lines_start, lines_end, lines_step}
use Rattle.query.proofs.LineBytes.{lines-nil, lines-append, line-size, query-size, Lined}

-- ---- the plan's rows are lines

module _ (index recipes query : List ℕ) (some : 1 ≤ length query) where
  asks : length query ≢ 0
  asks e = let z : ⊥ = omega arith in absurd z

  pub rows-lines : all_rows index recipes query ≡ length (query_lines (form_of index) index recipes query)
  unfolding all_rows
  rows-lines = rw (ne_eqb (length query) 0 asks)

  none : (l : List Line) → length l ≡ 0 → l ≡ []
  none [] e = refl
  none (x ∷ l) e = let z : ⊥ = omega arith in absurd z

  no_rows : (k : ℕ) (list : List Occurrence) → rows (lengths_in index) query k list ≡ 0 → line_of (lengths_in index) query k list ≡ []
  unfolding rows
  no_rows k list z =
      let e : length (line_of (lengths_in index) query k list) ≡ 0 = rw (ne_eqb (length query) 0 asks) at z in
      none (line_of (lengths_in index) query k list) e

  -- a file that is not said to have rows has no line
  pub unmarked : (has_rows : List Bool) → Marked index recipes query has_rows → (k at : ℕ) → Walk recipes k at → k < file_count recipes → (file : List ℕ)
      → file ≡ part recipes (at + 4) (20 * field_at recipes at 4) → get_or has_rows k false ≡ false
      → line_of (lengths_in index) query k (file_list k index file) ≡ []
  unmarked has_rows m k at w turn file f z =
      no_rows k (file_list k index file) (ap (rows (lengths_in index) query k) (sym (list-is index recipes k at w turn file f)) ∙ m.none k turn z)

-- ---- the loop

module _ (index recipes query : List ℕ) where
  -- the bytes of all lines, and of those of the files from k on
  abbrev whole : List ℕ
  whole = lines_bytes (query_lines (form_of index) index recipes query)

  abbrev coming : ℕ → List ℕ
  coming k = lines_bytes (lines_left index recipes query k)

  -- before file k, which is at `at`: the lines lie in the buffer up to `place`
  pub record Lining (out₀ out : List ℕ) (k at place : ℕ) : Type 0 where
    pub walk : Walk recipes k at
    pub going : Going out₀ out 0 place whole (coming k)

  pub lining-start : recipes_code recipes ≡ 0 → (out : List ℕ) → Lining out out 0 4 0
  lining-start good out = record { walk = (accepted recipes good).start; going = rw (lines_start index recipes query) (going_start out 0 whole) }

  -- a turn, with file k's slice
  module _ (k at : ℕ) (turn : k < file_count recipes) (file : List ℕ) (f : file ≡ part recipes (at + 4) (20 * field_at recipes at 4))
      (out₀ out : List ℕ) (place : ℕ) (g : Lining out₀ out k at place)
      (room : line_size query * length (query_lines (form_of index) index recipes query) ≤ length out₀) where
    abbrev here : List Line
    here = line_of (lengths_in index) query k (file_list k index file)

    here-size : length (lines_bytes here) ≡ line_size query * length here
    here-size = line-size (lengths_in index) query k (file_list k index file)

    bytes-step : coming k ≡ lines_bytes here ++ coming (k + 1)
    bytes-step = ap lines_bytes (lines_step index recipes k at g.walk turn file f query) ∙ lines-append here (lines_left index recipes query (k + 1))

    whole_room : 0 + length whole ≤ length out₀
    whole_room = omega (arith, query-size (form_of index) index recipes query)

    pub lining-room : place + line_size query * length here ≤ length out
    lining-room =
        omega (arith, here-size, going-room out₀ out 0 place whole (coming k) g.going (lines_bytes here) (coming (k + 1)) whole_room bytes-step)

    pub lining-on : (out' : List ℕ) (end : ℕ) → Lined (lengths_in index) query k (file_list k index file) place out out' end
        → Lining out₀ out' (k + 1) (at + (4 + length file)) end
    lining-on out' end l =
        let next : at + 4 + length file ≡ at + (4 + length file) = omega arith in
        record {
          walk = subst (Walk recipes (k + 1)) next (file-next recipes k at g.walk turn file f);
          going =
              going_on out₀ out 0 place whole (coming k) g.going out' (lines_bytes here) (coming (k + 1)) end
              whole_room bytes-step (l.0 ∙ ap (λ (x : ℕ). place + x) (sym here-size)) l.1;
        }

  pub lining-end : (out₀ out : List ℕ) (k at place : ℕ) → Lining out₀ out k at place → file_count recipes ≤ k → out ≡ splice out₀ 0 whole
  lining-end out₀ out k at place g h =
      going_end out₀ out 0 place whole (coming k) g.going (ap lines_bytes (lines_end index recipes query k at g.walk h) ∙ lines-nil)
