-- A list is small: a file has fewer than 2^36 occurrences, and there are at most 65,535 files. Assumes nothing.
use mathlib.Core.Path.{◌≡◌, refl, ap, ◌∙◌}
use mathlib.Core.List.{List, []}
use Prim.Native.Nat.{ℕ, zero, suc, ◌+◌, ◌*◌, ◌^◌, ◌<◌, ◌≤◌}
use native.Mathlib.Omega.{arith}
use lib.ListN.{length, length-append}
use Rattle.spec.specs.Bytes.{part, field_at}
use Rattle.spec.specs.Form.{form_of}
use Rattle.spec.specs.Index.{index_keys}
use Rattle.spec.specs.Opened.{opened_of}
use Rattle.spec.specs.Recipes.{named, file_count}
use Rattle.spec.specs.Join.{join_list, joinable_code}
use Rattle.recipes.proofs.Files.{Walk, accepted}
use Rattle.recipes.proofs.Slices.{file-next}
use Rattle.files.proofs.Places.{no-slots}
use Rattle.walk.specs.Walking.{file_list, Checked}
use Rattle.walk.proofs.Counts.{count-any, count-few}
use Rattle.plan.proofs.FileLaws.{left, left-start, left_end, left_step, file-walks, file-passes}
use Rattle.plan.proofs.Stages.{joinable-passed}

module _ (index recipes : List ℕ) (good : joinable_code (form_of index) index recipes ≡ 0) where
  checked : Checked index (opened_of index)
  checked = record { good = (joinable-passed index recipes good).0; read = refl }

  -- the files from k on, of which there are n
  left-few : (n k at : ℕ) → k + n ≡ file_count recipes → Walk recipes k at → length (left index recipes k) ≤ 68719476736 * n
  left-few zero k at e w = omega (arith, ap length (left_end index recipes k at w (omega arith)))
  left-few (suc n) k at e w =
      let file : List ℕ = part recipes (at + 4) (20 * field_at recipes at 4) in
      let turn : k < file_count recipes = omega arith in
      let passes = file-passes index recipes k at w turn file refl (joinable-passed index recipes good).2 in
      let walks = file-walks index recipes k at w turn file refl [] passes (no-slots (index_keys index) (named file)) in
      omega (
        arith,
        ap length (left_step index recipes k at w turn file refl) ∙ length-append (file_list k index file) (left index recipes (k + 1)),
        count-any index file k,
        count-few index (opened_of index) file [] checked walks,
        left-few n (k + 1) (at + 4 + length file) (omega arith) (file-next recipes k at w turn file refl),
      )

  -- THE WHOLE LIST IS SMALL
  pub list-few : length (join_list (form_of index) index recipes) < 2 ^ 53
  list-few =
      let a = accepted recipes (joinable-passed index recipes good).1 in
      omega (
        arith,
        ap length (left-start index recipes),
        left-few (file_count recipes) 0 4 (omega arith) a.start,
        a.few,
      )
