use Rattle.std.proofs.Common.{drop}
use Rattle.bodies.proofs.Turns.{behind, record-absent, record-next, record-here}
use Rattle.bodies.proofs.record_part.Goals as goal

pub returns-then-is_set : goal.returns-then-is_set
returns-then-is_set c = record-absent c.args.format c.args.n c.args.k c.args.size (drop c.args.at c.args.body.now) cc

pub returns : goal.returns
returns c =
    let a = c.args in
    let rest = drop a.at a.body.now in
    let here = record-here a.format a.n a.k a.size rest (record-next a.format a.n a.k a.size rest c.requires.1 cc) in
    cc (behind a.body.now a.at)
