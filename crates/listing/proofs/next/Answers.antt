use Rattle.listing.proofs.Stepping.{least-readable, next-taken}
use Rattle.listing.proofs.next.Goals as goal

pub pull-requires : goal.pull-requires
pull-requires c =
    (c.requires.count_nonzero.2, least-readable _ _ _ c.args.count _ c.requires.held.0 c.requires.held.1 c.least-k.result c.least-k.ensures)

pub returns : goal.returns
returns c =
    next-taken _ _ _ c.args.count _ c.requires.held.0 c.requires.held.1 c.least-k.result c.least-k.ensures c.pull.result c.pull.ensures
