use Rattle.std.proofs.Common.{◌+◌, drop, arith}
use borrow.Author.Tests.{not-true}
use Rattle.spec.specs.Keywords.{folded_keywords}
use Rattle.spec.specs.Index.{list_in}
use Rattle.walk.specs.Walking.{chunks_in, LoadedPair, Filled, crossings}
use Rattle.walk.proofs.Entries.{few, nonempty, narrow, entry-known, place-loaded, pair-loaded, out-chunks}
use Rattle.walk.proofs.Places.{AllGood, crossable, prefixed, near-filled}
use Rattle.walk.proofs.Counts.{all-good, ready, listing_none, listing_start, listing-fits, listing-room, listing-on, listing-end}
use Rattle.walk.proofs.list_file.Goals.{After-load-behind, Joined-opened-behind, then-opened-behind, else-opened-behind}
use Rattle.walk.proofs.list_file.Goals as goal

-- the file's chunks are in range
ranges : (c : After-load-behind) → AllGood (folded_keywords (list_in c.args.source.now.index.now)) (chunks_in c.args.source.now.index.now c.args.file.now)
ranges c = all-good _ c.requires.directory.checked.good _ _ c.requires.file

-- the place is loaded, and the place behind it
pair : (c : After-load-behind) → LoadedPair c.args.source.now.index.now c.args.source.now.opened
    (chunks_in c.args.source.now.index.now c.args.file.now) c.loop-n.n c.loop-n.rows c.load-behind.new.rows c.loop-n.size c.load-behind.result
pair c = pair-loaded _ _ _ c.requires.file _ c.loop-n-test.true _ _ _ c.loop-n.invariant.1 c.entry_at-e.result c.entry_at-e.ensures _ _ c.load-behind.ensures

-- its streams are filled, in the one way or the other
filled : (c : Joined-opened-behind) → Filled c.loop-n.size c.args.source.now.opened.keywords
    (crossings (folded_keywords (list_in c.args.source.now.index.now)) c.loop-n.rows
    (drop (c.loop-n.n + 1) (chunks_in c.args.source.now.index.now c.args.file.now)))
    c.loop-n.rows c.if-opened-behind.streams c.if-opened-behind.many
filled c = elim c.if-opened-behind.branch [
  | then-opened-behind w ↦
      rw (w.streams-is, w.many-is)
      (near-filled _ _ _ c.requires.directory.checked (all-good _ c.requires.directory.checked.good _ _ c.requires.file) _ _ _ _ _
      (pair-loaded _ _ _ c.requires.file _ c.loop-n-test.true _ _ _ c.loop-n.invariant.1 c.entry_at-e.result c.entry_at-e.ensures _ _ c.load-behind.ensures)
      _ c.requires.tables_value w.if-opened-behind.true _ _ w.cross-many.ensures)
  | else-opened-behind w ↦ rw (w.streams-is, w.many-is) w.cross_over-many.ensures
]

pub returns-then-not-listing : goal.returns-then-not-listing
returns-then-not-listing c =
    listing_none c.args.source.now.index.now c.args.file.now c.args.listing.number _ _
    (c.requires.file_value (not-true c.args.listing.has_rows c.if-not-listing.true))

pub load-size-requires : goal.load-size-requires
load-size-requires c = (
  c.requires.directory.checked,
  entry-known _ c.args.source.now.opened _ _ c.requires.directory.checked c.requires.file _ _ c.entry_at-start.ensures,
  few _ c.args.source.now.opened c.requires.directory.checked,
)

pub loop-n-init : goal.loop-n-init
loop-n-init c = (
  few _ c.args.source.now.opened c.requires.directory.checked,
  place-loaded _ _ _ c.requires.file _ c.entry_at-start.result c.entry_at-start.ensures c.args.source.now.opened _ _ c.load-size.ensures,
  listing_start c.args.source.now.index.now c.args.file.now c.args.listing.number _ _ _ c.requires.file,
)

pub load-behind-requires : goal.load-behind-requires
load-behind-requires c = (
  c.requires.directory.checked,
  entry-known _ c.args.source.now.opened _ _ c.requires.directory.checked c.requires.file _ _ c.entry_at-e.ensures,
  c.loop-n.invariant.1.long,
)

pub cross-many-requires : goal.cross-many-requires
cross-many-requires c =
    let l = (goal.at.cross-many-requires c).After-load-behind in (
      few _ c.args.source.now.opened c.requires.directory.checked,
      c.loop-n.invariant.0,
      crossable _ _ _ c.requires.directory.checked (ranges l) _ _ _ _ _ (pair l),
    )

pub cross_over-many-requires-clause-prefixed : goal.cross_over-many-requires-clause-prefixed
cross_over-many-requires-clause-prefixed c =
    let l = (goal.at.cross_over-many-requires-clause-prefixed c).After-load-behind in
    (prefixed _ _ _ c.requires.directory.checked (ranges l) _ _ _ _ _ (pair l), omega arith)

pub list_place-p-requires-clause-count_nonzero : goal.list_place-p-requires-clause-count_nonzero
list_place-p-requires-clause-count_nonzero c =
    let l = (goal.at.list_place-p-requires-clause-count_nonzero c).After-load-behind in
    let j = (goal.at.list_place-p-requires-clause-count_nonzero c).Joined-opened-behind in (
      nonempty _ c.args.source.now.opened c.requires.directory.checked,
      few _ c.args.source.now.opened c.requires.directory.checked,
      omega (arith, narrow _ c.args.source.now.opened c.requires.directory.checked),
      omega (
        arith,
        listing-fits _ _ _ c.requires.directory.checked (ranges l) _ _ _ _ _ (pair l) _ (filled j).crossed _ _ _ _ _ _ c.loop-n.invariant.2,
      ),
    )

pub list_place-p-requires-clause-readable_streams : goal.list_place-p-requires-clause-readable_streams
list_place-p-requires-clause-readable_streams c =
    let l = (goal.at.list_place-p-requires-clause-readable_streams c).After-load-behind in
    let j = (goal.at.list_place-p-requires-clause-readable_streams c).Joined-opened-behind in
    (ready _ _ _ c.requires.directory.checked (ranges l) _ _ _ _ _ (pair l) _ (filled j).crossed, (filled j).all)

pub list_place-p-requires-clause-streams_in_bounds : goal.list_place-p-requires-clause-streams_in_bounds
list_place-p-requires-clause-streams_in_bounds c =
    let l = (goal.at.list_place-p-requires-clause-streams_in_bounds c).After-load-behind in
    let j = (goal.at.list_place-p-requires-clause-streams_in_bounds c).Joined-opened-behind in
    listing-room _ _ _ c.requires.directory.checked (ranges l) _ _ _ _ _ (pair l) _ (filled j).crossed _ _ _ _ _ _ c.loop-n.invariant.2
    c.requires.file_in_bounds

pub loop-n-preserved : goal.loop-n-preserved
loop-n-preserved c =
    let l = (goal.at.loop-n-preserved c).After-load-behind in
    let j = (goal.at.loop-n-preserved c).Joined-opened-behind in (
      (filled j).crossed.long,
      (pair l).second,
      listing-on _ _ _ c.requires.directory.checked (ranges l) _ _ _ _ _ (pair l) _ (filled j).crossed _ _ _ _ _ _ c.loop-n.invariant.2
          c.requires.file_in_bounds _ _ c.list_place-p.ensures.0 c.list_place-p.ensures.1,
    )

pub returns : goal.returns
returns c =
    listing-end c.args.source.now.index.now c.args.file.now c.args.listing.number _ _ _ _ _ _
    (out-chunks c.args.source.now.index.now c.args.file.now c.loop-n.n c.loop-n-test.false) c.loop-n.invariant.2
