use Rattle.std.proofs.Common.{◌+◌, ◌*◌, length, refl, sym, arith}
use Rattle.chunkwalk.proofs.Walking.{equipped-on}
use Rattle.index_writer.proofs.MarkLaws.{marked, marked-usable}
use Rattle.scan.proofs.Answers.{scan-short, scan-large, scan-done}
use Rattle.scan.proofs.Fits.{count-few, size_few, len_is}
use Rattle.scan.proofs.measured.Goals as goal

pub overflow_mul-len : goal.overflow_mul-len
overflow_mul-len c = omega (arith, count-few c.requires.0.walks)

pub overflow_add-len-2 : goal.overflow_add-len-2
overflow_add-len-2 c = omega (arith, count-few c.requires.0.walks)

pub overflow_add-len-3 : goal.overflow_add-len-3
overflow_add-len-3 c =
    let w = c.requires.0.walks in
    let r = c.measure_bodies-bodies in
    omega (arith, count-few w, size_few w r.result.size r.ensures.0)

pub returns-then-out-len : goal.returns-then-out-len
returns-then-out-len c =
    let a = c.args in
    let list = a.machine.now.list.now in
    let r = c.measure_bodies-bodies in
    scan-short list a.store.now 0 (sym c.requires.1) a.out.now (8 + length list + 32 * a.count + r.result.size) refl
    (len_is c.requires.0.walks r.result.size r.ensures.0) c.if-out-len.true

pub returns-then-len-gt-LARGEST : goal.returns-then-len-gt-LARGEST
returns-then-len-gt-LARGEST c =
    let a = c.args in
    let list = a.machine.now.list.now in
    let r = c.measure_bodies-bodies in
    scan-large list a.store.now 0 (sym c.requires.1) a.out.now (8 + length list + 32 * a.count + r.result.size) refl
    (len_is c.requires.0.walks r.result.size r.ensures.0) c.if-len-gt-LARGEST.true

pub put_index-requires : goal.put_index-requires
put_index-requires c =
    let a = c.args in
    let list = a.machine.now.list.now in
    let r = c.measure_bodies-bodies in
    let p = c.requires.0 in
    let marks = r.new.marks in
    record {
      measures = record {
        walks = p.walks;
        equipped = equipped-on p.equipped r.auto.log r.auto.run1 r.auto.run2 r.auto.run3;
        long = omega (arith, r.auto.marks, p.long);
      };
      usable = marked-usable list a.store.now marks (marked list a.store.now a.marks.now marks r.ensures.2);
      room = omega (arith, c.if-out-len.false, r.ensures.0);
    }

pub returns : goal.returns
returns c =
    let a = c.args in
    let list = a.machine.now.list.now in
    let r = c.measure_bodies-bodies in
    scan-done list a.store.now 0 (sym c.requires.1) a.out.now (8 + length list + 32 * a.count + r.result.size) r.result.moves
    c.put_index.new.out refl (len_is c.requires.0.walks r.result.size r.ensures.0) r.ensures.1 (omega (arith, c.if-out-len.false))
    (omega (arith, c.if-len-gt-LARGEST.false)) c.put_index.ensures.0
