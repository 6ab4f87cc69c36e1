use Rattle.std.proofs.Common.{rules, ◌≡◌, ◌+◌, length, refl, arith}
use Rattle.spec.specs.Bytes.{field_at}
use Rattle.spec.specs.Refusal.{number, number_of}
use Rattle.spec.proofs.Refusals.{number-some}
use Rattle.recipes.proofs.Files.{walk-file, accepted}
use Rattle.compact.proofs.Turns.{along-first, along-missing, along-on, along-end}
use Rattle.compact.proofs.mark_files.Goals as goal

pub count_at-files-requires : goal.count_at-files-requires
count_at-files-requires c = omega (arith, (accepted c.args.recipes.now c.requires.2).header)

pub loop-init : goal.loop-init
loop-init c = along-first c.args.store.now c.args.recipes.now c.args.marks.now c.requires.2

pub file_at-file-requires : goal.file_at-file-requires
file_at-file-requires c =
    let recipes = c.args.recipes.now in
    (walk-file recipes c.loop.counter c.loop.at (field_at recipes c.loop.at 4) c.loop.invariant.walk (omega arith) refl).room

pub returns-in_err-mark_file : goal.returns-in_err-mark_file
returns-in_err-mark_file c =
    let l = c.loop in
    let r = c.in_err-mark_file.field-0.0 in
    let e : number c.from_residual.result ≡ number_of r = search rules in
    rw e
    (along-missing c.args.store.now c.args.recipes.now c.args.marks.now l.counter l.at l.marks l.invariant
    (omega arith) c.file_at-file.result.now c.file_at-file.ensures c.mark_file.new.marks (number_of r) c.in_err-mark_file.ensures (number-some r))

pub loop-preserved : goal.loop-preserved
loop-preserved c =
    let l = c.loop in
    let r = c.mark_file in
    let f = c.file_at-file in
    let e : l.at + (4 + length f.result.now) ≡ l.at + 4 + length f.result.now = omega arith in
    rw e
    (along-on c.args.store.now c.args.recipes.now c.args.marks.now l.counter l.at l.marks l.invariant
    (omega arith) f.result.now f.ensures r.new.marks c.in_ok-mark_file.ensures r.auto.marks)

pub returns : goal.returns
returns c =
    let l = c.loop in
    along-end c.args.store.now c.args.recipes.now c.args.marks.now l.counter l.at l.marks l.invariant (omega arith)
