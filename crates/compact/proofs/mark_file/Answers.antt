use Rattle.std.proofs.Common.{◌+◌, ◌*◌, arith}
use Rattle.spec.proofs.StoreLaws.{store-good}
use Rattle.compact.proofs.Turns.{place-missing, place-on, file-end, key-size}
use Rattle.compact.proofs.mark_file.Goals as goal

pub position-k-requires : goal.position-k-requires
position-k-requires c = (c.requires.0, key-size c.args.file.now (0 + 20 * c.loop-j.j) c.key-key.result.now c.key-key.ensures (omega arith))

pub returns-then-count-k : goal.returns-then-count-k
returns-then-count-k c =
    let a = c.args in
    let l = c.loop-j in
    place-missing a.file.now a.store.now a.count a.marks.now l.j l.marks c.requires.0.counts l.invariant
    c.loop-j-test.true c.key-key.result.now c.key-key.ensures c.position-k.result c.position-k.ensures c.if-count-k.true

pub loop-j-preserved : goal.loop-j-preserved
loop-j-preserved c =
    let a = c.args in
    let l = c.loop-j in
    place-on a.file.now a.store.now a.count a.marks.now l.j l.marks c.requires.0.counts l.invariant
    c.loop-j-test.true c.key-key.result.now c.key-key.ensures c.position-k.result c.position-k.ensures
    (store-good a.store.now c.requires.0.checked).differ c.if-count-k.false c.requires.1

pub returns : goal.returns
returns c =
    let l = c.loop-j in
    file-end c.args.file.now c.args.store.now c.args.count c.args.marks.now l.j l.marks c.requires.0.counts l.invariant (omega arith)
