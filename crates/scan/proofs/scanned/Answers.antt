use Rattle.std.proofs.Common.{◌≤◌, length, refl, sym, ◌∙◌, arith}
use Rattle.spec.specs.Form.{newest}
use Rattle.spec.specs.Scan.{scan_index}
use Rattle.spec.specs.Store.{chunk_count}
use Rattle.index_writer.specs.Layout.{bodies_from}
use Rattle.index_writer.proofs.Moves.{odd-moves}
use Rattle.index_writer.proofs.MarkLaws.{odd-usable}
use Rattle.scan.proofs.Answers.{scan-done}
use Rattle.scan.proofs.Fits.{count-few, index-fits, len_is}
use Rattle.scan.proofs.scanned.Goals as goal
use Rattle.scan.proofs.scanned.Goals.{Then-always_fits}

-- the index fits
fits : (c : Then-always_fits) → let a = c.args in let list = a.machine.now.list.now in
    (length (scan_index newest list a.store.now) ≤ length a.out.now) × (length (scan_index newest list a.store.now) ≤ 4294967295)
fits c = index-fits c.requires.0.walks (length c.args.out.now) c.always_fits.result c.always_fits.ensures c.if-always_fits.true

-- a mark for each chunk
enough : (c : Then-always_fits) → chunk_count c.args.store.now ≤ length c.args.marks.now
enough c = let p = c.requires.0 in omega (arith, p.long, p.walks.counted, count-few p.walks)

pub put_index-once-requires : goal.put_index-once-requires
put_index-once-requires c =
    let a = c.args in
    let list = a.machine.now.list.now in
    let t = (goal.at.put_index-once-requires c).Then-always_fits in
    record {
      measures = c.requires.0;
      usable = odd-usable list a.store.now a.marks.now (enough t) c.requires.1;
      room = omega (arith, (fits t).0, len_is c.requires.0.walks (length (bodies_from newest list a.store.now 0)) refl);
    }

pub returns-then-always_fits : goal.returns-then-always_fits
returns-then-always_fits c =
    let a = c.args in
    let list = a.machine.now.list.now in
    let t = (goal.at.returns-then-always_fits c).Then-always_fits in
    let r = c.put_index-once in
    scan-done list a.store.now 0 (sym c.requires.2) a.out.now r.result.size r.result.moves r.new.out refl r.ensures.1
    (r.ensures.2 ∙ odd-moves list a.store.now a.marks.now (enough t) c.requires.1)
    (omega (arith, (fits t).0, r.ensures.1)) (omega (arith, (fits t).1, r.ensures.1)) r.ensures.0
