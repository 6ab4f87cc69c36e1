use Rattle.std.proofs.Common.{refl, ◌/◌, length, ap, ◌∙◌, arith}
use Rattle.spec.specs.Recipes.{named}
use Rattle.files.specs.Measures.{keys_at, sizes_at, inner_short, least_in}
use Rattle.files.proofs.Measuring.{measuring-start}
use Rattle.files.proofs.Places.{place-missing, place-on, place_end}
use Rattle.files.proofs.measure_file.Goals as goal

pub loop-j-init : goal.loop-j-init
loop-j-init c =
    let index = c.args.index.now in
    measuring-start (keys_at index c.args.opened.directory c.args.opened.entries) (sizes_at index c.args.opened.directory) (least_in c.args.opened)
    (named c.args.file.now) c.args.slots.now

pub returns-then-count-k : goal.returns-then-count-k
returns-then-count-k c =
    let a = c.args in
    let l = c.loop-j in (
      refl,
      place-missing a.file.now a.index.now a.opened.directory a.opened.entries (least_in a.opened) a.slots.now
          l.j l.total l.short l.slots l.invariant c.loop-j-test.true c.entry_of-k.result c.entry_of-k.ensures c.if-count-k.true,
    )

pub loop-j-preserved : goal.loop-j-preserved
loop-j-preserved c =
    let a = c.args in
    let l = c.loop-j in
    let short = ap (inner_short l.j (length a.file.now / 20) c.size_of-size.result) c.inner_least-least.ensures in
    place-on a.file.now a.index.now a.opened.directory a.opened.entries (least_in a.opened) a.slots.now
    l.j l.total l.short l.slots l.invariant c.loop-j-test.true
    _ _ c.entry_of-k.ensures c.if-count-k.false c.size_of-size.ensures _ (omega arith)
    c.inner_short-short.result (c.inner_short-short.ensures ∙ short) c.keep.new.slots c.keep.ensures

pub returns : goal.returns
returns c =
    let a = c.args in
    let l = c.loop-j in
    place_end a.file.now a.index.now a.opened.directory a.opened.entries (least_in a.opened) a.slots.now
    l.j l.total l.short l.slots l.invariant (omega arith)
