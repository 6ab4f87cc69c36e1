use Rattle.std.proofs.Common.{arith}
use Rattle.spec.specs.Keywords.{folded_keywords}
use Rattle.spec.specs.Index.{list_in}
use Rattle.walk.specs.Walking.{chunks_in, LoadedPair}
use Rattle.walk.proofs.Entries.{few, nonempty, narrow, entry-known, place-loaded, in-chunks, out-chunks}
use Rattle.walk.proofs.Places.{AllGood, place-ready}
use Rattle.walk.proofs.Counts.{all-good}
use Rattle.walk.proofs.FileChoices.{choosing-fits, choosing-on, choosing-start, choosing-done, choosing-end}
use Rattle.walk.proofs.choose_file.Goals.{After-fill-ahead}
use Rattle.walk.proofs.choose_file.Goals as goal

-- the file's chunks are in range
ranges : (c : After-fill-ahead) → AllGood (folded_keywords (list_in c.args.source.now.index.now)) (chunks_in c.args.source.now.index.now c.args.file.now)
ranges c = all-good _ c.requires.directory.0.checked.good _ _ c.requires.file

-- the place is loaded, and the place behind it
pair : (c : After-fill-ahead) → LoadedPair c.args.source.now.index.now c.args.source.now.opened
    (chunks_in c.args.source.now.index.now c.args.file.now) c.loop-n.n c.loop-n.rows c.fill-ahead.new.rows c.loop-n.size c.fill-ahead.result.size
pair c = record { inside = in-chunks _ _ _ c.loop-n-test.true; first = c.loop-n.invariant.1; second = c.fill-ahead.ensures.0 }

pub load-size-requires : goal.load-size-requires
load-size-requires c = (
  c.requires.directory.0.checked,
  entry-known _ c.args.source.now.opened _ _ c.requires.directory.0.checked c.requires.file _ _ c.entry_at-start.ensures,
  few _ c.args.source.now.opened c.requires.directory.0.checked,
)

pub loop-n-init : goal.loop-n-init
loop-n-init c = (
  few _ c.args.source.now.opened c.requires.directory.0.checked,
  place-loaded _ _ _ c.requires.file _ c.entry_at-start.result c.entry_at-start.ensures c.args.source.now.opened _ _ c.load-size.ensures,
  choosing-start c.args.source.now.index.now c.args.file.now c.args.choosing.number c.args.choosing.lengths c.args.query.now _ c.requires.file _
      c.nothing_chosen-choice.ensures,
)

pub returns-then-query-choice : goal.returns-then-query-choice
returns-then-query-choice c =
    choosing-done c.args.source.now.index.now c.args.file.now c.args.choosing.number c.args.choosing.lengths c.args.query.now _ _ _ c.if-query-choice.true
    c.loop-n.invariant.2

pub choose_place-choice-requires-clause-count_nonzero : goal.choose_place-choice-requires-clause-count_nonzero
choose_place-choice-requires-clause-count_nonzero c =
    let f = (goal.at.choose_place-choice-requires-clause-count_nonzero c).After-fill-ahead in (
      nonempty _ c.args.source.now.opened c.requires.directory.0.checked,
      few _ c.args.source.now.opened c.requires.directory.0.checked,
      omega (arith, narrow _ c.args.source.now.opened c.requires.directory.0.checked),
      omega (
        arith,
        choosing-fits _ _ _ c.requires.directory.0.checked (ranges f) _ _ _ _ _ (pair f) c.args.choosing.number c.args.choosing.lengths
            c.args.query.now _ _ c.loop-n.invariant.2,
      ),
    )

pub choose_place-choice-requires-clause-readable_streams : goal.choose_place-choice-requires-clause-readable_streams
choose_place-choice-requires-clause-readable_streams c =
    let f = (goal.at.choose_place-choice-requires-clause-readable_streams c).After-fill-ahead in (
      place-ready _ _ _ c.requires.directory.0.checked (ranges f) _ _ _ _ _ (pair f) _ c.fill-ahead.ensures.1.crossed,
      c.fill-ahead.ensures.1.all,
    )

pub loop-n-preserved : goal.loop-n-preserved
loop-n-preserved c =
    let f = (goal.at.loop-n-preserved c).After-fill-ahead in (
      c.fill-ahead.ensures.1.crossed.long,
      c.fill-ahead.ensures.0,
      choosing-on _ _ _ c.requires.directory.0.checked (ranges f) _ _ _ _ _ (pair f) c.args.choosing.number c.args.choosing.lengths
          c.args.query.now _ _ c.loop-n.invariant.2 _ c.fill-ahead.ensures.1.crossed _ c.choose_place-choice.ensures,
    )

pub returns : goal.returns
returns c =
    choosing-end c.args.source.now.index.now c.args.file.now c.args.choosing.number c.args.choosing.lengths c.args.query.now _ _ _
    (out-chunks c.args.source.now.index.now c.args.file.now c.loop-n.n c.loop-n-test.false) c.loop-n.invariant.2
