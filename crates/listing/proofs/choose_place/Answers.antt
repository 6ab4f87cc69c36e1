use Rattle.std.proofs.Common.{arith}
use Rattle.listing.proofs.Coming.{coming-more}
use Rattle.listing.proofs.Carried.{choosing-never, choosing-start, choosing-complete, choosing-on, choosing-end}
use Rattle.listing.proofs.choose_place.Goals as goal

pub returns-then-place-lt1 : goal.returns-then-place-lt1
returns-then-place-lt1 c =
    choosing-never _ c.args.place c.args.lengths.now c.args.query.now _ _ c.requires.readable_streams.0 c.requires.readable_streams.1 (omega arith)

pub loop-init : goal.loop-init
loop-init c =
    choosing-start _ c.args.place c.args.lengths.now c.args.query.now _ _ c.requires.readable_streams.0 c.requires.readable_streams.1 _
    c.open-opened.ensures

pub returns-then-query-chosen : goal.returns-then-query-chosen
returns-then-query-chosen c =
    choosing-complete _ c.args.place c.args.lengths.now c.args.query.now _ _ _ _ c.loop.invariant c.if-query-chosen.true

pub next-t-requires-clause-held : goal.next-t-requires-clause-held
next-t-requires-clause-held c =
    (c.loop.invariant.coming.held, coming-more _ c.args.place _ _ c.loop.invariant.coming c.loop-test.true)

pub loop-preserved : goal.loop-preserved
loop-preserved c =
    choosing-on _ c.args.place c.args.lengths.now c.args.query.now _ _ _ _ c.loop.invariant _ _ _ c.next-t.ensures _ c.advance-chosen.ensures

pub returns : goal.returns
returns c = choosing-end _ c.args.place c.args.lengths.now c.args.query.now _ _ _ _ c.loop.invariant c.loop-test.false
