-- The files one after the other (Surveys); each return by what was found.
use Rattle.std.proofs.Common.{◌≡◌, refl, sym, ap, ◌∙◌, List, ℕ, ◌+◌, ◌*◌, ◌^◌, ◌≤◌, ◌<◌, length, arith, rules}
use lib.ListN.{length-replicate}
use Rattle.spec.specs.declared.Opened.{Opened}
use Rattle.spec.specs.Bytes.{part, field_at}
use Rattle.spec.specs.Directory.{size_at}
use Rattle.spec.specs.Index.{lengths_in, index_layout, index_keys}
use Rattle.spec.specs.Recipes.{named, file_count, file_code}
use Rattle.spec.specs.Refusal.{number, number_of}
use Rattle.spec.proofs.Refusals.{number-some}
use Rattle.recipes.proofs.Files.{Walk, walk-file, accepted}
use Rattle.files.specs.Measures.{least_in, keys_at, sizes_at}
use Rattle.files.proofs.Slots.{Tested}
use Rattle.files.proofs.OfIndex.{index-code, index-slotted}
use Rattle.walk.specs.Walking.{file_list, File, Checked}
use Rattle.walk.proofs.Entries.{lies, starts, counts}
use Rattle.walk.proofs.Counts.{count-any, count-few}
use Rattle.plan.specs.Plans.{rows}
use Rattle.plan.proofs.FileLaws.{code_of, file-walks}
use Rattle.plan.proofs.RowLaws.{rows_few}
use Rattle.plan.proofs.CountLaws.{counts_start, counts-on, counts_end}
use Rattle.plan.proofs.Surveys.{survey-start, survey-refused, survey-on, survey-passed, survey-total, survey-rows}
use Rattle.plan.proofs.Stages.{inner-least, files-number, done-plan}
use Rattle.plan.proofs.survey_files.Goals as goal

-- a file that was tested: what its test says, that it can be walked if it passed, and that it then has few occurrences and rows
module _ (index recipes : List ℕ) (o : Opened) (d : Checked index o) (k at : ℕ) (walk : Walk recipes k at) (turn : k < file_count recipes)
    (file : List ℕ) (f : file ≡ part recipes (at + 4) (20 * field_at recipes at 4)) (slots₀ slots : List ℕ) (code : ℕ)
    (t : Tested (keys_at index o.directory o.entries) (sizes_at index o.directory) (least_in o) (named file) slots₀ slots code) where
  test : code ≡ code_of index (named file)
  test =
      index-code index o.directory o.entries (starts index o d) (counts index o d) (least_in o) (named file) slots₀ slots code t
      ∙ ap (λ (n : ℕ). file_code (index_keys index) (size_at (index_layout index) index) n (named file)) (inner-least index o d.read)

  module _ (z : code ≡ 0) where
    walks : File index file slots
    walks =
        file-walks index recipes k at walk turn file f slots (sym test ∙ z)
        (index-slotted index o.directory o.entries (starts index o d) (counts index o d) (least_in o) (named file) slots₀ slots code t z)

    few : length (file_list k index file) < 2 ^ 36
    few = omega (arith, count-any index file k, count-few index o file slots d walks)

    small : (query : List ℕ) (n : ℕ) → n ≡ rows (lengths_in index) query k (file_list k index file) → n < 2 ^ 36
    small query n e = omega (arith, e, rows_few (lengths_in index) query k (file_list k index file) few)

pub count_at-files-requires : goal.count_at-files-requires
count_at-files-requires c = omega (arith, (accepted c.args.recipes.now c.requires.joinable.named).header)

pub loop-k-init : goal.loop-k-init
loop-k-init c =
    let a = c.args in (
      length-replicate {A = ℕ} 65536 0,
      survey-start a.index.now a.recipes.now a.query.now c.requires.joinable.named,
      counts_start a.query.now a.index.now a.recipes.now,
    )

pub file_at-file-requires : goal.file_at-file-requires
file_at-file-requires c =
    let l = c.loop-k in
    let recipes = c.args.recipes.now in
    (walk-file recipes l.k l.at (field_at recipes l.at 4) l.invariant.1.walk (omega arith) refl).room

pub check_file-requires-clause-lies : goal.check_file-requires-clause-lies
check_file-requires-clause-lies c = lies c.args.index.now c.args.survey.opened c.requires.joinable.looked.checked

pub returns-in_err-check_file : goal.returns-in_err-check_file
returns-in_err-check_file c =
    let a = c.args in
    let j = c.requires.joinable in
    let l = c.loop-k in
    let f = c.file_at-file in
    let r = c.in_err-check_file.field-0.0 in
    let e : number c.from_residual.result ≡ number_of r = search rules in
    let says = test a.index.now a.recipes.now a.survey.opened j.looked.checked l.k l.at l.invariant.1.walk (omega arith) f.result.now f.ensures
    l.slots c.check_file.new.slots (number_of r) c.in_err-check_file.ensures in
    let all = survey-refused a.index.now a.recipes.now a.query.now l.k l.at (omega arith) f.result.now f.ensures
    l.has_rows l.total l.invariant.1 (number_of r) says (number-some r) in
    (e ∙ all ∙ files-number a.index.now a.recipes.now j.looked.checked.good j.named, search rules)

pub rows_in-n-requires-clause-file : goal.rows_in-n-requires-clause-file
rows_in-n-requires-clause-file c =
    let a = c.args in
    let l = c.loop-k in
    let f = c.file_at-file in
    walks a.index.now a.recipes.now a.survey.opened c.requires.joinable.looked.checked l.k l.at l.invariant.1.walk (omega arith) f.result.now f.ensures
    l.slots c.check_file.new.slots 0 c.in_ok-check_file.ensures refl

pub overflow_add-total : goal.overflow_add-total
overflow_add-total c =
    let a = c.args in
    let l = c.loop-k in
    let f = c.file_at-file in
    let most = small a.index.now a.recipes.now a.survey.opened c.requires.joinable.looked.checked l.k l.at l.invariant.1.walk (omega arith)
    f.result.now f.ensures l.slots c.check_file.new.slots 0 c.in_ok-check_file.ensures refl a.query.now c.rows_in-n.result c.rows_in-n.ensures.0 in
    record { fits = omega (arith, l.invariant.1.small, l.invariant.1.few) }

pub loop-k-preserved : goal.loop-k-preserved
loop-k-preserved c =
    let a = c.args in
    let l = c.loop-k in
    let f = c.file_at-file in
    let t = c.in_ok-check_file.ensures in
    let slots = c.check_file.new.slots in
    let n = c.rows_in-n in
    let d = c.requires.joinable.looked.checked in
    let says = test a.index.now a.recipes.now a.survey.opened d l.k l.at l.invariant.1.walk (omega arith) f.result.now f.ensures l.slots slots 0 t in
    let shorter = few a.index.now a.recipes.now a.survey.opened d l.k l.at l.invariant.1.walk (omega arith) f.result.now f.ensures l.slots slots 0 t refl in
    let most = small a.index.now a.recipes.now a.survey.opened d l.k l.at l.invariant.1.walk (omega arith) f.result.now f.ensures
    l.slots slots 0 t refl a.query.now n.result n.ensures.0 in (
      c.check_file.auto.slots ∙ l.invariant.0,
      survey-on a.index.now a.recipes.now a.query.now l.k l.at (omega arith) f.result.now f.ensures
          l.has_rows l.total l.invariant.1 0 says refl n.result n.ensures.0 most,
      counts-on a.query.now a.index.now a.recipes.now l.k l.at l.invariant.1.walk (omega arith) f.result.now f.ensures
          l.counts n.new.counts l.invariant.2 n.ensures.1 shorter,
    )

pub returns : goal.returns
returns c =
    let a = c.args in
    let index = a.index.now in
    let recipes = a.recipes.now in
    let query = a.query.now in
    let l = c.loop-k in
    let j = c.requires.joinable in
    let done : file_count recipes ≤ l.k = omega arith in (
      sym (survey-passed index recipes query l.has_rows l.k l.at l.total l.invariant.1 done) ∙ files-number index recipes j.looked.checked.good j.named,
      done-plan index recipes query l.total l.counts a.survey.opened l.has_rows
          (survey-total index recipes query l.has_rows l.k l.at l.total l.invariant.1 done)
          (counts_end query index recipes l.k l.at l.invariant.1.walk done l.counts l.invariant.2)
          j.looked.checked.read
          (survey-rows index recipes query l.has_rows l.k l.at l.total l.invariant.1 done),
    )
