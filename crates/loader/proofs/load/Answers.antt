use Rattle.std.proofs.Common.{arith}
use Rattle.loader.proofs.Loading.{loading-on, loading-end, keyword-room}
use Rattle.loader.proofs.load.Goals as goal

pub keyword_at-step-requires : goal.keyword_at-step-requires
keyword_at-step-requires c =
    (omega arith, keyword-room c.args.format _ _ _ _ _ _ _ _ c.loop-k.invariant c.loop-k-test.true, c.requires.wide)

pub loop-k-preserved : goal.loop-k-preserved
loop-k-preserved c =
    loading-on c.args.format _ _ _ _ _ _ _ _ c.loop-k.invariant c.loop-k-test.true _ _ c.keyword_at-step.ensures.0 c.keyword_at-step.ensures.1

pub returns : goal.returns
returns c = loading-end c.args.format _ _ _ _ _ _ _ _ c.loop-k.invariant (omega arith)
