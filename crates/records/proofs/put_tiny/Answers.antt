use Rattle.std.proofs.Common.{arith}
use Rattle.records.proofs.Starts.{tiny-put}
use Rattle.records.proofs.put_tiny.Goals as goal

pub returns : goal.returns
returns c = let a = c.args in tiny-put a.out.now a.k a.s (omega arith)
