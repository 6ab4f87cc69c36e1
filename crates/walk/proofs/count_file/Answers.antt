use Rattle.std.proofs.Common.{◌+◌, ◌<◌, drop, arith}
use Rattle.spec.specs.Keywords.{folded_keywords}
use Rattle.spec.specs.Index.{list_in}
use Rattle.walk.specs.Walking.{chunks_in, LoadedPair, Filled, crossings}
use Rattle.walk.proofs.Entries.{few, entry-known, place-loaded, pair-loaded, out-chunks}
use Rattle.walk.proofs.Places.{AllGood, crossable, prefixed, near-filled}
use Rattle.walk.proofs.Counts.{all-good, count-few, countable, counting-on, counting-end, keywords-start, keywords-few, keywords-on, keywords-end}
use Rattle.walk.proofs.count_file.Goals.{After-load-after, Joined-opened-after, then-opened-after, else-opened-after}
use Rattle.walk.proofs.count_file.Goals as goal

-- the file's chunks are in range
ranges : (c : After-load-after) → AllGood (folded_keywords (list_in c.args.source.now.index.now)) (chunks_in c.args.source.now.index.now c.args.file.now)
ranges c = all-good _ c.requires.directory.checked.good _ _ c.requires.file

-- the place is loaded, and the place behind it
pair : (c : After-load-after) → LoadedPair c.args.source.now.index.now c.args.source.now.opened
    (chunks_in c.args.source.now.index.now c.args.file.now) c.loop-n.n c.loop-n.rows c.load-after.new.rows c.loop-n.size c.load-after.result
pair c = pair-loaded _ _ _ c.requires.file _ c.loop-n-test.true _ _ _ c.loop-n.invariant.1 c.entry_at-e.result c.entry_at-e.ensures _ _ c.load-after.ensures

-- its streams are filled, in the one way or the other
filled : (c : Joined-opened-after) → Filled c.loop-n.size c.args.source.now.opened.keywords
    (crossings (folded_keywords (list_in c.args.source.now.index.now)) c.loop-n.rows
    (drop (c.loop-n.n + 1) (chunks_in c.args.source.now.index.now c.args.file.now)))
    c.loop-n.rows c.if-opened-after.streams c.if-opened-after.many
filled c = elim c.if-opened-after.branch [
  | then-opened-after w ↦
      rw (w.streams-is, w.many-is)
      (near-filled _ _ _ c.requires.directory.checked (all-good _ c.requires.directory.checked.good _ _ c.requires.file) _ _ _ _ _
      (pair-loaded _ _ _ c.requires.file _ c.loop-n-test.true _ _ _ c.loop-n.invariant.1 c.entry_at-e.result c.entry_at-e.ensures _ _ c.load-after.ensures)
      _ c.requires.tables_value w.if-opened-after.true _ _ w.cross-many.ensures)
  | else-opened-after w ↦ rw (w.streams-is, w.many-is) w.cross_over-many.ensures
]

pub load-size-requires : goal.load-size-requires
load-size-requires c = (
  c.requires.directory.checked,
  entry-known _ c.args.source.now.opened _ _ c.requires.directory.checked c.requires.file _ _ c.entry_at-start.ensures,
  few _ c.args.source.now.opened c.requires.directory.checked,
)

pub loop-n-init : goal.loop-n-init
loop-n-init c = (
  few _ c.args.source.now.opened c.requires.directory.checked,
  place-loaded _ _ _ c.requires.file _ c.entry_at-start.result c.entry_at-start.ensures c.args.source.now.opened _ _ c.load-size.ensures,
  omega arith,
  keywords-start c.args.source.now.index.now c.args.file.now _ c.requires.counts_len.0,
)

pub load-after-requires : goal.load-after-requires
load-after-requires c = (
  c.requires.directory.checked,
  entry-known _ c.args.source.now.opened _ _ c.requires.directory.checked c.requires.file _ _ c.entry_at-e.ensures,
  c.loop-n.invariant.1.long,
)

pub cross-many-requires : goal.cross-many-requires
cross-many-requires c =
    let l = (goal.at.cross-many-requires c).After-load-after in (
      few _ c.args.source.now.opened c.requires.directory.checked,
      c.loop-n.invariant.0,
      crossable _ _ _ c.requires.directory.checked (ranges l) _ _ _ _ _ (pair l),
    )

pub cross_over-many-requires-clause-prefixed : goal.cross_over-many-requires-clause-prefixed
cross_over-many-requires-clause-prefixed c =
    let l = (goal.at.cross_over-many-requires-clause-prefixed c).After-load-after in
    (prefixed _ _ _ c.requires.directory.checked (ranges l) _ _ _ _ _ (pair l), omega arith)

-- no count has grown by more than the file has occurrences
pub count_place-requires-clause-by_index : goal.count_place-requires-clause-by_index
count_place-requires-clause-by_index c = λ k u.
    let l = (goal.at.count_place-requires-clause-by_index c).After-load-after in
    let j = (goal.at.count_place-requires-clause-by_index c).Joined-opened-after in
    let h : k < 16 = omega (arith, u, few _ c.args.source.now.opened c.requires.directory.checked) in (
      countable _ _ _ c.requires.directory.checked (ranges l) _ _ _ _ _ (pair l) _ (filled j).crossed k u,
      omega (
        arith,
        keywords-few _ _ _ _ _ c.loop-n.invariant.3 c.requires.counts_len.0 k h,
        count-few _ c.args.source.now.opened _ _ c.requires.directory.checked c.requires.file,
        c.requires.counts_len.1 k h,
      ),
    )

pub overflow_add-sum : goal.overflow_add-sum
overflow_add-sum c =
    let l = (goal.at.overflow_add-sum c).After-load-after in
    let j = (goal.at.overflow_add-sum c).Joined-opened-after in
    omega (
      arith,
      counting-on _ _ _ c.requires.directory.checked (ranges l) _ _ _ _ _ (pair l) _ (filled j).crossed _ _ c.loop-n.invariant.2 (filled j).all,
      count-few _ c.args.source.now.opened _ _ c.requires.directory.checked c.requires.file,
    )

pub loop-n-preserved : goal.loop-n-preserved
loop-n-preserved c =
    let l = (goal.at.loop-n-preserved c).After-load-after in
    let j = (goal.at.loop-n-preserved c).Joined-opened-after in (
      (filled j).crossed.long,
      (pair l).second,
      counting-on _ _ _ c.requires.directory.checked (ranges l) _ _ _ _ _ (pair l) _ (filled j).crossed _ _ c.loop-n.invariant.2 (filled j).all,
      keywords-on _ _ _ c.requires.directory.checked (ranges l) _ _ _ _ _ (pair l) _ (filled j).crossed _ _ _ c.loop-n.invariant.3
          c.count_place.ensures,
    )

pub returns : goal.returns
returns c =
    let past = out-chunks c.args.source.now.index.now c.args.file.now c.loop-n.n c.loop-n-test.false in (
      counting-end c.args.source.now.index.now c.args.file.now _ _ past c.loop-n.invariant.2,
      keywords-end c.args.source.now.index.now c.args.file.now _ _ _ c.loop-n.invariant.3 past,
    )
