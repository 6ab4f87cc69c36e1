use Rattle.windows.proofs.Windowing.{whole-counts}
use Rattle.chunkwalk.proofs.Walking.{can-window, count-tells, count-part, count-part-length, count-part-room, log-room, written-part}
use Rattle.chunkwalk.proofs.put_short.Goals as goal

pub count_window-w-requires : goal.count_window-w-requires
count_window-w-requires c = whole-counts (can-window c.requires.0 c.args.chunk.now c.requires.1) c.requires.2

pub put_starts-started-requires : goal.put_starts-started-requires
put_starts-started-requires c =
    let w = c.count_window-w in
    (count-tells c.requires.0 c.args.chunk.now c.requires.1 w.result w.ensures.answer, c.requires.3)

pub slice_bounds-entries-end : goal.slice_bounds-entries-end
slice_bounds-entries-end c =
    let w = c.count_window-w in
    count-part-room c.requires.0 c.args.chunk.now c.requires.1 w.result w.ensures.answer c.args.log.now w.new.log w.ensures.entries

pub slice_bounds-entries-end-2 : goal.slice_bounds-entries-end-2
slice_bounds-entries-end-2 c =
    let w = c.count_window-w in
    count-part-length c.requires.0 c.args.chunk.now c.requires.1 w.result w.ensures.answer c.args.log.now w.new.log w.ensures.entries

pub put_log-requires : goal.put_log-requires
put_log-requires c =
    let a = c.args in
    let w = c.count_window-w in
    let p = c.put_starts-started in
    log-room c.requires.0 a.chunk.now c.requires.1 w.result w.ensures.answer a.out.now p.new.out p.result c.requires.3 p.ensures.0 p.ensures.1 _
    (count-part c.requires.0 a.chunk.now c.requires.1 w.result w.ensures.answer a.log.now w.new.log w.ensures.entries)

pub returns : goal.returns
returns c =
    let a = c.args in
    let w = c.count_window-w in
    let p = c.put_starts-started in
    written-part c.requires.0 a.chunk.now c.requires.1 w.result w.ensures.answer a.out.now p.new.out p.result c.requires.3 p.ensures.0 p.ensures.1 _
    c.put_log.new.out (count-part c.requires.0 a.chunk.now c.requires.1 w.result w.ensures.answer a.log.now w.new.log w.ensures.entries)
    c.put_log.ensures.0
