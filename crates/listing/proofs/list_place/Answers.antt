use Rattle.std.proofs.Common.{arith}
use Rattle.listing.proofs.Coming.{coming-more}
use Rattle.listing.proofs.Listed.{listing_none, listing_start, listing-room, listing-on, listing-end}
use Rattle.listing.proofs.list_place.Goals as goal

pub returns-then-place-eq0 : goal.returns-then-place-eq0
returns-then-place-eq0 c =
    listing_none _ c.args.place _ _ c.requires.readable_streams.0 c.requires.readable_streams.1 c.if-place-eq0.true

pub loop-init : goal.loop-init
loop-init c =
    listing_start _ c.args.place _ _ c.requires.readable_streams.0 c.requires.readable_streams.1 c.open-opened.result c.open-opened.ensures

pub next-t-requires-clause-held : goal.next-t-requires-clause-held
next-t-requires-clause-held c =
    (c.loop.invariant.coming.held, coming-more _ c.args.place _ _ c.loop.invariant.coming c.loop-test.true)

pub put-requires : goal.put-requires
put-requires c =
    (listing-room _ c.args.place _ _ _ _ _ _ c.loop.invariant c.requires.streams_in_bounds _ _ _ c.next-t.ensures, omega arith)

pub overflow_add-p : goal.overflow_add-p
overflow_add-p c =
    omega (
      arith,
      listing-room _ c.args.place _ _ _ _ _ _ c.loop.invariant c.requires.streams_in_bounds _ _ _ c.next-t.ensures,
      c.loop.invariant.going.same,
    )

pub loop-preserved : goal.loop-preserved
loop-preserved c =
    listing-on _ c.args.place _ _ _ _ _ _ c.loop.invariant c.requires.streams_in_bounds _ _ _ c.next-t.ensures _ c.put.ensures

pub returns : goal.returns
returns c = listing-end _ c.args.place _ _ _ _ _ _ c.loop.invariant c.loop-test.false
