use Rattle.std.proofs.Common.{arith}
use Rattle.listing.proofs.Pulling.{pull-field, pull-end, start-in, pull-start}
use Rattle.listing.proofs.pull.Goals as goal

pub returns-then-left-gt0 : goal.returns-then-left-gt0
returns-then-left-gt0 c =
    pull-field _ _ _ c.args.stream c.requires.1 c.if-left-gt0.true c.read_offset-x.result c.read_offset-x.ensures

pub returns-then-set-eq0 : goal.returns-then-set-eq0
returns-then-set-eq0 c = pull-end _ _ _ c.args.stream c.requires.1 (omega arith) c.if-set-eq0.true

pub overflow_add-y : goal.overflow_add-y
overflow_add-y c = omega (arith, start-in _ _ _ c.args.stream c.requires.1 (omega arith) (omega arith))

pub overflow_add-result-2 : goal.overflow_add-result-2
overflow_add-result-2 c = omega (arith, start-in _ _ _ c.args.stream c.requires.1 (omega arith) (omega arith))

pub returns : goal.returns
returns c = pull-start _ _ _ c.args.stream c.requires.1 (omega arith) (omega arith)
