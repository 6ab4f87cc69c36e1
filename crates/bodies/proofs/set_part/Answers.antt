use Rattle.std.proofs.Common.{drop}
use Rattle.bodies.proofs.Turns.{behind, set-absent, set-bad, set-taken}
use Rattle.bodies.proofs.set_part.Goals as goal

pub returns-then-not-is_set : goal.returns-then-not-is_set
returns-then-not-is_set c = set-absent c.args.format c.args.n c.args.k c.args.size (drop c.args.at c.args.body.now) cc

pub returns-then-set_good : goal.returns-then-set_good
returns-then-set_good c = set-taken c.args.format c.args.n c.args.k c.args.size (drop c.args.at c.args.body.now) (cc) (cc (behind c.args.body.now c.args.at))

pub returns-else-set_good : goal.returns-else-set_good
returns-else-set_good c = set-bad c.args.format c.args.n c.args.k c.args.size (drop c.args.at c.args.body.now) (cc) (cc (behind c.args.body.now c.args.at))
