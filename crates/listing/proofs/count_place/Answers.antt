use Rattle.std.proofs.Common.{◌∙◌, sym, arith}
use Rattle.listing.proofs.Counted.{place_end, place_none}
use Rattle.listing.proofs.count_place.Goals as goal

pub returns-then-many-eq0 : goal.returns-then-many-eq0
returns-then-many-eq0 c = place_none c.args.streams.now c.args.count _ (sym c.requires.count_bound.3 ∙ c.if-many-eq0.true)

pub returns : goal.returns
returns c = place_end c.args.streams.now c.args.counts.now c.loop-keyword.counts _ c.loop-keyword.invariant c.args.count (omega arith)
