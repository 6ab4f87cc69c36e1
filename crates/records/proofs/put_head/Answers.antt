use Rattle.std.proofs.Common.{arith}
use Rattle.records.proofs.Starts.{head-put}
use Rattle.records.proofs.put_head.Goals as goal

pub returns : goal.returns
returns c =
    let a = c.args in
    let kind = c.kind_of-kind in
    let count = c.count_byte-count in
    head-put a.out.now a.k a.s kind.result count.result c.write.new.out kind.ensures count.ensures (omega arith) c.write.ensures
