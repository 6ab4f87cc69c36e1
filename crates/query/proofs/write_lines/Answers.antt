-- The files one after the other (Turns).
use Rattle.std.proofs.Common.{refl, ◌<◌, [], arith}
use Rattle.spec.specs.Bytes.{field_at}
use Rattle.spec.specs.Index.{index_keys}
use Rattle.spec.specs.Recipes.{named, file_count}
use Rattle.recipes.proofs.Files.{walk-file, accepted}
use Rattle.files.proofs.Places.{no-slots}
use Rattle.plan.proofs.FileLaws.{file-walks, file-passes}
use Rattle.plan.proofs.LengthLaws.{lengths-parsed}
use Rattle.plan.proofs.Stages.{header, list-good}
use Rattle.query.proofs.Turns.{unmarked, lining-start, lining-room, lining-on, lining-end}
use Rattle.query.proofs.write_lines.Goals as goal

pub slice_bounds-parse-count : goal.slice_bounds-parse-count
slice_bounds-parse-count c = header c.args.index.now c.requires.planned.0.joinable.looked.checked.good

pub slice_bounds-parse-start : goal.slice_bounds-parse-start
slice_bounds-parse-start c = header c.args.index.now c.requires.planned.0.joinable.looked.checked.good

pub parse-words-requires : goal.parse-words-requires
parse-words-requires c = list-good c.args.index.now c.requires.planned.0.joinable.looked.checked.good

pub count_at-files-requires : goal.count_at-files-requires
count_at-files-requires c = omega (arith, (accepted c.args.recipes.now c.requires.planned.0.joinable.named).header)

pub loop-number-init : goal.loop-number-init
loop-number-init c = lining-start c.args.index.now c.args.recipes.now c.args.query.now c.requires.planned.0.joinable.named c.args.out.now

pub file_at-file-requires : goal.file_at-file-requires
file_at-file-requires c =
    let l = c.loop-number in
    let recipes = c.args.recipes.now in
    (walk-file recipes l.number l.at (field_at recipes l.at 4) l.invariant.walk (omega arith) refl).room

pub bounds-made-number : goal.bounds-made-number
bounds-made-number c = omega (arith, (accepted c.args.recipes.now c.requires.planned.0.joinable.named).few)

pub write_line-place-requires-clause-file_value : goal.write_line-place-requires-clause-file_value
write_line-place-requires-clause-file_value c =
    let a = c.args in
    let l = c.loop-number in
    let f = c.file_at-file in
    unmarked a.index.now a.recipes.now a.query.now c.requires.planned.1 a.made.has_rows c.requires.planned.0.marked
    l.number l.at l.invariant.walk (omega arith) f.result.now f.ensures

pub write_line-place-requires-clause-file : goal.write_line-place-requires-clause-file
write_line-place-requires-clause-file c =
    let index = c.args.index.now in
    let recipes = c.args.recipes.now in
    let l = c.loop-number in
    let w = l.invariant.walk in
    let file = c.file_at-file.result.now in
    let f = c.file_at-file.ensures in
    let turn : l.number < file_count recipes = omega arith in
    let passes = file-passes index recipes l.number l.at w turn file f c.requires.planned.0.passed in (
      file-walks index recipes l.number l.at w turn file f [] passes (no-slots (index_keys index) (named file)),
      c.requires.planned.2,
      lengths-parsed index c.parse-words.result c.parse-words.ensures,
    )

pub write_line-place-requires-clause-file_in_bounds : goal.write_line-place-requires-clause-file_in_bounds
write_line-place-requires-clause-file_in_bounds c =
    let a = c.args in
    let l = c.loop-number in
    let f = c.file_at-file in
    lining-room a.index.now a.recipes.now a.query.now l.number l.at (omega arith) f.result.now f.ensures a.out.now l.out l.place l.invariant
    c.requires.query_in_bounds

pub loop-number-preserved : goal.loop-number-preserved
loop-number-preserved c =
    let a = c.args in
    let l = c.loop-number in
    let f = c.file_at-file in
    let w = c.write_line-place in
    lining-on a.index.now a.recipes.now a.query.now l.number l.at (omega arith) f.result.now f.ensures a.out.now l.out l.place l.invariant
    c.requires.query_in_bounds w.new.out w.result w.ensures

pub returns : goal.returns
returns c =
    let a = c.args in
    let l = c.loop-number in
    lining-end a.index.now a.recipes.now a.query.now a.out.now l.out l.number l.at l.place l.invariant (omega arith)
