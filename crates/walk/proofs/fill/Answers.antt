-- The rows of the place and of the place behind it are a loaded pair, so that the streams can be filled; where no keyword goes on over the place
-- behind, the tables have the starts that cross, and elsewhere `cross_over` carries them on.
use Rattle.std.proofs.Common.{arith}
use Rattle.spec.specs.Keywords.{folded_keywords}
use Rattle.spec.specs.Index.{list_in}
use Rattle.walk.specs.Walking.{chunks_in, LoadedPair}
use Rattle.walk.proofs.Entries.{few, entry-known, pair-loaded}
use Rattle.walk.proofs.Counts.{all-good}
use Rattle.walk.proofs.Places.{AllGood, crossable, prefixed, near-filled}
use Rattle.walk.proofs.fill.Goals.{After-load-behind}
use Rattle.walk.proofs.fill.Goals as goal

-- the file's chunks are in range
ranges : (c : After-load-behind) → AllGood (folded_keywords (list_in c.args.source.now.index.now)) (chunks_in c.args.source.now.index.now c.args.file.now)
ranges c = all-good _ c.requires.directory.0.checked.good _ _ c.requires.file.0

-- the place is loaded, and the place behind it
pair : (c : After-load-behind) → LoadedPair c.args.source.now.index.now c.args.source.now.opened (chunks_in c.args.source.now.index.now c.args.file.now)
    c.args.spot.place c.args.rows.now c.load-behind.new.rows c.args.spot.size c.load-behind.result
pair c =
    pair-loaded _ _ _ c.requires.file.0 _ c.requires.file.1 _ _ _ c.requires.loaded_at c.entry_at-e.result c.entry_at-e.ensures _ _
    c.load-behind.ensures

pub load-behind-requires : goal.load-behind-requires
load-behind-requires c = (
  c.requires.directory.0.checked,
  entry-known _ c.args.source.now.opened _ _ c.requires.directory.0.checked c.requires.file.0 _ _ c.entry_at-e.ensures,
  c.requires.loaded_at.long,
)

pub cross-many-requires : goal.cross-many-requires
cross-many-requires c =
    let l = (goal.at.cross-many-requires c).After-load-behind in (
      few _ c.args.source.now.opened c.requires.directory.0.checked,
      c.requires.file.2,
      crossable _ _ _ c.requires.directory.0.checked (ranges l) _ _ _ _ _ (pair l),
    )

pub returns-then-opened-behind : goal.returns-then-opened-behind
returns-then-opened-behind c =
    let l = (goal.at.returns-then-opened-behind c).After-load-behind in (
      (pair l).second,
      near-filled _ _ _ c.requires.directory.0.checked (ranges l) _ _ _ _ _ (pair l) _ c.requires.directory.1 c.if-opened-behind.true _ _
          c.cross-many.ensures,
    )

pub cross_over-many-requires-clause-prefixed : goal.cross_over-many-requires-clause-prefixed
cross_over-many-requires-clause-prefixed c =
    let l = (goal.at.cross_over-many-requires-clause-prefixed c).After-load-behind in
    (prefixed _ _ _ c.requires.directory.0.checked (ranges l) _ _ _ _ _ (pair l), omega (arith, c.requires.file.1))

pub returns : goal.returns
returns c = ((pair (goal.at.returns c).After-load-behind).second, c.cross_over-many.ensures)
