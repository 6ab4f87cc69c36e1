-- The measure's tests in their order.
use Rattle.std.proofs.Common.{◌≡◌, ◌∙◌, ap, sym, refl, arith, true, false, rules, lt-ltb, le-ltb}
use Rattle.spec.specs.Recipes.{named}
use Rattle.spec.specs.Refusal.{number, number_of}
use Rattle.files.specs.Measures.{keys_at, sizes_at, least_in, Measured}
use Rattle.files.proofs.Measuring.{tested}
use Rattle.files.proofs.check_file.Goals as goal
use Rattle.files.proofs.check_file.Goals.{In_ok-m}

pub returns-in_err-m : goal.returns-in_err-m
returns-in_err-m c =
    let r = c.in_err-m.field-0.0 in
    let e : number c.from_residual.result ≡ number_of r = search rules in
    let m = c.in_err-m.ensures in
    let t = tested (keys_at c.args.index.now c.args.opened.directory c.args.opened.entries) (sizes_at c.args.index.now c.args.opened.directory) (least_in c.args.opened)
    (named c.args.file.now) c.args.slots.now c.measure_file.new.slots true 0 false 15 m.1 refl in
    (e ∙ ap number_of m.0 ∙ t.0, t.1)

pub returns-then-m-gt4294967295 : goal.returns-then-m-gt4294967295
returns-then-m-gt4294967295 c =
    let m = c.in_ok-m.m in
    tested (keys_at c.args.index.now c.args.opened.directory c.args.opened.entries) (sizes_at c.args.index.now c.args.opened.directory) (least_in c.args.opened)
    (named c.args.file.now) c.args.slots.now c.measure_file.new.slots false m.total m.short 16 c.in_ok-m.ensures (rw (lt-ltb 4294967295 m.total c.if-m-gt4294967295.true) refl)

pub returns-then-m : goal.returns-then-m
returns-then-m c =
    let m = c.in_ok-m.m in
    tested (keys_at c.args.index.now c.args.opened.directory c.args.opened.entries) (sizes_at c.args.index.now c.args.opened.directory) (least_in c.args.opened)
    (named c.args.file.now) c.args.slots.now c.measure_file.new.slots false m.total m.short 17 c.in_ok-m.ensures
    (rw (le-ltb 4294967295 m.total (omega (arith, c.if-m-gt4294967295.false)), c.if-m.true) refl)

pub returns : goal.returns
returns c =
    let m = c.in_ok-m.m in
    tested (keys_at c.args.index.now c.args.opened.directory c.args.opened.entries) (sizes_at c.args.index.now c.args.opened.directory) (least_in c.args.opened)
    (named c.args.file.now) c.args.slots.now c.measure_file.new.slots false m.total m.short 0 c.in_ok-m.ensures
    (rw (le-ltb 4294967295 m.total (omega (arith, c.if-m-gt4294967295.false)), c.if-m.false) refl)
