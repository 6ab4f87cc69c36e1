use Rattle.std.proofs.Common.{arith}
use Rattle.records.proofs.SetLaws.{start-length, put_both}
use Rattle.records.proofs.put_start.Goals as goal

pub put_set-requires : goal.put_set-requires
put_set-requires c =
    let r = c.put_record-end in
    (omega (arith, c.requires.room, (r.ensures 0).ends, start-length 0 c.args.k c.args.s), c.requires.number)

pub returns : goal.returns
returns c = λ n.
    let a = c.args in
    let r = c.put_record-end in
    put_both a.out.now r.new.out c.put_set.new.out n a.k r.result c.put_set.result a.s (r.ensures n) c.put_set.ensures
