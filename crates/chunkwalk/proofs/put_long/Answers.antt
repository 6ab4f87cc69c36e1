use Rattle.windows.proofs.Windowing.{can-on}
use Rattle.chunkwalk.proofs.Walking.{can-window, count-tells, lists-room, written-whole}
use Rattle.chunkwalk.proofs.put_long.Goals as goal

pub count-w-requires : goal.count-w-requires
count-w-requires c = can-window c.requires.0 c.args.chunk.now c.requires.1

pub put_starts-started-requires : goal.put_starts-started-requires
put_starts-started-requires c = (count-tells c.requires.0 c.args.chunk.now c.requires.1 c.count-w.result c.count-w.ensures, c.requires.2)

pub fill-requires : goal.fill-requires
fill-requires c =
    let a = c.args in
    let w = c.count-w in
    let p = c.put_starts-started in (
      can-on (can-window c.requires.0 a.chunk.now c.requires.1) w.auto.log w.auto.run1 w.auto.run2 w.auto.run3,
      lists-room c.requires.0 a.chunk.now c.requires.1 w.result w.ensures a.out.now p.new.out p.result c.requires.2 p.ensures.0 p.ensures.1,
    )

pub returns : goal.returns
returns c =
    let w = c.count-w in
    let p = c.put_starts-started in
    written-whole c.requires.0 c.args.chunk.now c.requires.1 w.result w.ensures c.args.out.now p.new.out p.result c.requires.2 p.ensures.0 p.ensures.1
    c.fill.new.out c.fill.ensures
