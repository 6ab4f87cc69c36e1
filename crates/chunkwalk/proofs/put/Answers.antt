use Rattle.std.proofs.Common.{◌∙◌}
use Rattle.chunkwalk.proofs.Walking.{none-tells, written_none, written-odd}
use Rattle.chunkwalk.proofs.put.Goals as goal

pub put_unwalked-size-requires : goal.put_unwalked-size-requires
put_unwalked-size-requires c =
    (none-tells c.requires.0 c.args.chunk.now c.requires.1 c.args.mark c.if-mark-eq0.true c.requires.2, c.requires.3)

pub returns-then-mark-eq0 : goal.returns-then-mark-eq0
returns-then-mark-eq0 c =
    let r = c.put_unwalked-size in
    (r.ensures.0, written_none c.requires.0 c.args.chunk.now c.requires.1 c.args.mark c.if-mark-eq0.true c.requires.2 r.result r.ensures.1)

pub returns-then-chunk-le-WINDOW : goal.returns-then-chunk-le-WINDOW
returns-then-chunk-le-WINDOW c =
    let a = c.args in
    let m = a.m.now in
    (c.put_short.ensures.0, c.put_short.ensures.1 ∙ written-odd m.list.now a.chunk.now a.mark c.if-mark-eq0.false)

pub returns-else-chunk-le-WINDOW : goal.returns-else-chunk-le-WINDOW
returns-else-chunk-le-WINDOW c =
    let a = c.args in
    let m = a.m.now in
    (c.put_long.ensures.0, c.put_long.ensures.1 ∙ written-odd m.list.now a.chunk.now a.mark c.if-mark-eq0.false)
