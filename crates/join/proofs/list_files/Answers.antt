-- The files one after the other (Turns).
use Rattle.std.proofs.Common.{refl, sym, ◌∙◌, ◌<◌, [], arith}
use Rattle.spec.specs.Bytes.{field_at}
use Rattle.spec.specs.Index.{lengths_in, index_keys}
use Rattle.spec.specs.Recipes.{named, file_count}
use Rattle.recipes.proofs.Files.{walk-file, accepted}
use Rattle.files.proofs.Places.{no-slots}
use Rattle.plan.specs.Plans.{list_of}
use Rattle.plan.proofs.FileLaws.{list-is, file-walks, file-passes}
use Rattle.plan.proofs.RowLaws.{no-occurrence}
use Rattle.join.proofs.Turns.{listing_start, listing-room, listing-on, listing-end}
use Rattle.join.proofs.list_files.Goals as goal

pub count_at-files-requires : goal.count_at-files-requires
count_at-files-requires c = omega (arith, (accepted c.args.recipes.now c.requires.planned.joinable.named).header)

pub loop-number-init : goal.loop-number-init
loop-number-init c = listing_start c.args.index.now c.args.recipes.now c.requires.planned.joinable.named c.args.out.now

pub file_at-file-requires : goal.file_at-file-requires
file_at-file-requires c =
    let l = c.loop-number in
    let recipes = c.args.recipes.now in
    (walk-file recipes l.number l.at (field_at recipes l.at 4) l.invariant.walk (omega arith) refl).room

pub bounds-made-number : goal.bounds-made-number
bounds-made-number c = omega (arith, (accepted c.args.recipes.now c.requires.planned.joinable.named).few)

pub list_file-place-requires-clause-file_value : goal.list_file-place-requires-clause-file_value
list_file-place-requires-clause-file_value c =
    let index = c.args.index.now in
    let recipes = c.args.recipes.now in
    let l = c.loop-number in
    let turn : l.number < file_count recipes = omega arith in
    let listed = list-is index recipes l.number l.at l.invariant.walk turn c.file_at-file.result.now c.file_at-file.ensures in
    let none = no-occurrence (lengths_in index) l.number (list_of index recipes l.number) in
    λ z. sym listed ∙ none (c.requires.planned.marked.none l.number turn z)

pub list_file-place-requires-clause-file : goal.list_file-place-requires-clause-file
list_file-place-requires-clause-file c =
    let index = c.args.index.now in
    let recipes = c.args.recipes.now in
    let l = c.loop-number in
    let w = l.invariant.walk in
    let file = c.file_at-file.result.now in
    let f = c.file_at-file.ensures in
    let turn : l.number < file_count recipes = omega arith in
    let passes = file-passes index recipes l.number l.at w turn file f c.requires.planned.passed in
    file-walks index recipes l.number l.at w turn file f [] passes (no-slots (index_keys index) (named file))

pub list_file-place-requires-clause-file_in_bounds : goal.list_file-place-requires-clause-file_in_bounds
list_file-place-requires-clause-file_in_bounds c =
    let a = c.args in
    let l = c.loop-number in
    let f = c.file_at-file in
    listing-room a.index.now a.recipes.now l.number l.at (omega arith) f.result.now f.ensures a.out.now l.out l.place l.invariant
    c.requires.recipes_in_bounds

pub loop-number-preserved : goal.loop-number-preserved
loop-number-preserved c =
    let a = c.args in
    let l = c.loop-number in
    let f = c.file_at-file in
    let w = c.list_file-place in
    listing-on a.index.now a.recipes.now l.number l.at (omega arith) f.result.now f.ensures a.out.now l.out l.place l.invariant
    c.requires.recipes_in_bounds w.new.out w.result w.ensures

pub returns : goal.returns
returns c =
    let a = c.args in
    let l = c.loop-number in
    listing-end a.index.now a.recipes.now a.out.now l.out l.number l.at l.place l.invariant (omega arith)
