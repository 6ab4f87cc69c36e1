-- The loop over the files that lists them: before file k, what lies in the buffer and the files from k on are the whole list. Assumes nothing.
use mathlib.Core.Path.{◌≡◌, sym, ap, subst, ◌∙◌}
use mathlib.Core.List.{List, ◌++◌}
use Prim.Native.Nat.{ℕ, ◌+◌, ◌*◌, ◌≤◌, ◌<◌}
use native.Mathlib.Omega.{arith}
use lib.ListN.{length}
use Rattle.spec.specs.Bytes.{part, field_at, splice}
use Rattle.spec.specs.Form.{form_of}
use Rattle.spec.specs.Recipes.{file_count, recipes_code}
use Rattle.spec.specs.Join.{Occurrence, join_file, join_list, list_bytes}
use Rattle.spec.proofs.ListBytes.{length-list, list-nil, list-append}
use Rattle.spec.proofs.Writing.{Going, going_start, going-room, going_on, going_end}
use Rattle.recipes.proofs.Files.{Walk, accepted}
use Rattle.walk.specs.Walking.{chunks_in}
use Rattle.recipes.proofs.Slices.{file-next}
use Rattle.plan.proofs.FileLaws.{keywords, left, left-start, left_end, left_step}

module _ (index recipes : List ℕ) where
  -- the bytes of the whole list, and of the files from k on
  abbrev whole : List ℕ
  whole = list_bytes (join_list (form_of index) index recipes)

  abbrev coming : ℕ → List ℕ
  coming k = list_bytes (left index recipes k)

  -- before file k, which is at `at`: the list lies in the buffer up to `place`
  pub record Listing (out₀ out : List ℕ) (k at place : ℕ) : Type 0 where
    pub walk : Walk recipes k at
    pub going : Going out₀ out 0 place whole (coming k)

  pub listing_start : recipes_code recipes ≡ 0 → (out : List ℕ) → Listing out out 0 4 0
  listing_start good out = record { walk = (accepted recipes good).start; going = rw (left-start index recipes) (going_start out 0 whole) }

  -- a turn, with file k's slice
  module _ (k at : ℕ) (turn : k < file_count recipes) (file : List ℕ) (f : file ≡ part recipes (at + 4) (20 * field_at recipes at 4))
      (out₀ out : List ℕ) (place : ℕ) (g : Listing out₀ out k at place) (room : 9 * length (join_list (form_of index) index recipes) ≤ length out₀) where
    abbrev here : List Occurrence
    here = join_file k (keywords index recipes) (chunks_in index file)

    bytes-step : coming k ≡ list_bytes here ++ coming (k + 1)
    bytes-step = ap list_bytes (left_step index recipes k at g.walk turn file f) ∙ list-append here (left index recipes (k + 1))

    whole_room : 0 + length whole ≤ length out₀
    whole_room = omega (arith, length-list (join_list (form_of index) index recipes))

    pub listing-room : place + 9 * length here ≤ length out
    listing-room =
        omega (arith, length-list here, going-room out₀ out 0 place whole (coming k) g.going (list_bytes here) (coming (k + 1)) whole_room bytes-step)

    pub listing-on : (out' : List ℕ) (end : ℕ) → (end ≡ place + 9 * length here) × (out' ≡ splice out place (list_bytes here))
        → Listing out₀ out' (k + 1) (at + (4 + length file)) end
    listing-on out' end l =
        let next : at + 4 + length file ≡ at + (4 + length file) = omega arith in
        record {
          walk = subst (Walk recipes (k + 1)) next (file-next recipes k at g.walk turn file f);
          going =
              going_on out₀ out 0 place whole (coming k) g.going out' (list_bytes here) (coming (k + 1)) end
              whole_room bytes-step (l.0 ∙ ap (λ (x : ℕ). place + x) (sym (length-list here))) l.1;
        }

  pub listing-end : (out₀ out : List ℕ) (k at place : ℕ) → Listing out₀ out k at place → file_count recipes ≤ k → out ≡ splice out₀ 0 whole
  listing-end out₀ out k at place g h =
      going_end out₀ out 0 place whole (coming k) g.going (ap list_bytes (left_end index recipes k at g.walk h) ∙ list-nil)
