-- Each return is a law of `advanced`, by the tests passed so far.
use Rattle.std.proofs.Common.{sym, arith}
use Rattle.listing.proofs.Choices.{advanced-done, advanced-other, advanced-early, advanced-next}
use Rattle.listing.proofs.advance.Goals as goal

pub returns-then-query-step : goal.returns-then-query-step
returns-then-query-step c = sym (advanced-done c.args.lengths.now c.args.query.now c.args.choice _ c.if-query-step.true)

pub returns-then-keyword-asked : goal.returns-then-keyword-asked
returns-then-keyword-asked c =
    sym (advanced-other c.args.lengths.now c.args.query.now c.args.choice _ (omega arith) (omega arith))

pub returns-then-offset-from : goal.returns-then-offset-from
returns-then-offset-from c =
    sym (advanced-early c.args.lengths.now c.args.query.now c.args.choice _ (omega arith) (omega arith) (omega arith))

pub returns : goal.returns
returns c = sym (advanced-next c.args.lengths.now c.args.query.now c.args.choice _ (omega arith) (omega arith) (omega arith))
