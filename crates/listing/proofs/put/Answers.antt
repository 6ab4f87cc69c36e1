use Rattle.std.proofs.Common.{arith}
use Rattle.listing.proofs.Writes.{three-fields}
use Rattle.listing.proofs.put.Goals as goal

pub returns : goal.returns
returns c =
    three-fields _ _ _ _ c.args.place c.args.file c.args.offset c.args.keyword (omega arith) c.write.ensures c.write-2.ensures c.write-3.ensures
