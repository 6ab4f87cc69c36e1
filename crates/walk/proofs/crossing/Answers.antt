use Rattle.std.proofs.Common.{◌<◌, sym, ap, ◌∙◌, arith}
use Rattle.spec.specs.Keywords.{folded_keywords}
use Rattle.spec.specs.Form.{form_of}
use Rattle.spec.specs.Records.{ChunkRecords, record_at}
use Rattle.spec.specs.Index.{list_in, index_records}
use Rattle.walk.specs.Walking.{chunks_in, LoadedAt}
use Rattle.walk.proofs.Entries.{counts, few, keywords-count, place-loaded, in-chunks, out-chunks, chunk-at}
use Rattle.walk.proofs.Counts.{all-good}
use Rattle.walk.proofs.Places.{AllGood}
use Rattle.walk.proofs.Crossings.{crossing-none, prefix-below, crossing-from, crossing-dead, suffix-below, crossing-over, crossing-to}
use Rattle.walk.proofs.crossing.Goals.{Else-i-eq0, After-entry_at-e, After-load-size}
use Rattle.walk.proofs.crossing.Goals as goal

-- the file's chunks are in range
ranges : (c : Else-i-eq0) → AllGood (folded_keywords (list_in c.args.source.now.index.now)) (chunks_in c.args.source.now.index.now c.args.file.now)
ranges c = all-good _ c.requires.directory.checked.good _ _ c.requires.file.0

below : (c : Else-i-eq0) → c.args.start.keyword < 16
below c =
    omega (
      arith,
      c.requires.file.1.known,
      few _ c.args.source.now.opened c.requires.directory.checked,
      keywords-count _ c.args.source.now.opened c.requires.directory.checked,
    )

prefix : (c : Else-i-eq0) → c.args.start.prefix < 32
prefix c =
    prefix-below _ c.args.source.now.opened c.requires.directory.checked _ c.requires.tables_value _ (ranges c) c.args.start.keyword _
    c.args.start.place c.requires.file.1

-- the place's entry is one of the index
entered : (c : After-entry_at-e) → c.entry_at-e.result < c.args.source.now.opened.entries
entered c =
    omega (
      arith,
      counts _ c.args.source.now.opened c.requires.directory.checked,
      c.entry_at-e.ensures.inside c.loop-n-test.true,
      c.requires.file.0.found c.loop-n.n c.loop-n-test.true,
    )

-- it is loaded
ahead : (c : After-load-size) → LoadedAt c.args.source.now.index.now c.args.source.now.opened (chunks_in c.args.source.now.index.now c.args.file.now) c.loop-n.n
    c.load-size.new.rows c.load-size.result
ahead c = place-loaded _ _ _ c.requires.file.0 _ c.entry_at-e.result c.entry_at-e.ensures c.args.source.now.opened _ _ c.load-size.ensures

pub returns-then-i-eq0 : goal.returns-then-i-eq0
returns-then-i-eq0 c = crossing-none _ c.args.start.keyword _ _ c.if-i-eq0.true

pub starts_of-live-requires : goal.starts_of-live-requires
starts_of-live-requires c = let s = (goal.at.starts_of-live-requires c).Else-i-eq0 in (below s, prefix s)

pub loop-n-init : goal.loop-n-init
loop-n-init c = (
  few _ c.args.source.now.opened c.requires.directory.checked,
  crossing-from _ c.args.source.now.opened c.requires.directory.checked _ c.requires.tables_value _ (ranges (goal.at.loop-n-init c).Else-i-eq0)
      c.args.start.keyword _ c.args.start.place c.requires.file.1 _ c.starts_of-live.ensures c.requires.file.0.small,
)

pub returns-then-live-eq0 : goal.returns-then-live-eq0
returns-then-live-eq0 c =
    crossing-dead _ c.args.source.now.opened c.requires.directory.checked _ c.requires.tables_value _ (ranges (goal.at.returns-then-live-eq0 c).Else-i-eq0)
    c.args.start.keyword _ c.args.start.place c.requires.file.1 _ _ _ _ c.if-live-eq0.true c.loop-n.invariant.1

pub load-size-requires : goal.load-size-requires
load-size-requires c =
    (c.requires.directory.checked, omega (arith, entered (goal.at.load-size-requires c).After-entry_at-e), c.loop-n.invariant.0)

pub offset_bounds-rows-k : goal.offset_bounds-rows-k
offset_bounds-rows-k c = omega (arith, below (goal.at.offset_bounds-rows-k c).Else-i-eq0)

pub bounds-rows-k : goal.bounds-rows-k
bounds-rows-k c = below (goal.at.bounds-rows-k c).Else-i-eq0

pub ends_of-ends-requires : goal.ends_of-ends-requires
ends_of-ends-requires c =
    let s = (goal.at.ends_of-ends-requires c).Else-i-eq0 in
    let l = (goal.at.ends_of-ends-requires c).After-load-size in (
      below s,
      suffix-below _ c.args.source.now.opened c.requires.directory.checked _ c.requires.tables_value _ (ranges s)
          c.args.start.keyword _ c.args.start.place c.requires.file.1 _ _ _ _ c.loop-n.invariant.1 (in-chunks _ _ _ c.loop-n-test.true) _ _ (ahead l),
    )

pub inner_at-inner-requires-clause-checked : goal.inner_at-inner-requires-clause-checked
inner_at-inner-requires-clause-checked c =
    let e = entered (goal.at.inner_at-inner-requires-clause-checked c).After-entry_at-e in
    (c.requires.directory.checked, e, omega (arith, c.requires.file.1.known, keywords-count _ c.args.source.now.opened c.requires.directory.checked))

pub inner_at-inner-requires-clause-sets_behind : goal.inner_at-inner-requires-clause-sets_behind
inner_at-inner-requires-clause-sets_behind c =
    let e = entered (goal.at.inner_at-inner-requires-clause-sets_behind c).After-entry_at-e in
    c.load-size.ensures.sets (omega (arith, e, counts _ c.args.source.now.opened c.requires.directory.checked))

pub going-ended-requires : goal.going-ended-requires
going-ended-requires c = omega (arith, prefix (goal.at.going-ended-requires c).Else-i-eq0, c.loop-n.invariant.1.small)

pub going-live-requires : goal.going-live-requires
going-live-requires c = omega (arith, prefix (goal.at.going-live-requires c).Else-i-eq0, c.loop-n.invariant.1.small)

pub loop-n-preserved : goal.loop-n-preserved
loop-n-preserved c =
    let s = (goal.at.loop-n-preserved c).Else-i-eq0 in
    let l = (goal.at.loop-n-preserved c).After-load-size in (
      c.load-size.ensures.long,
      crossing-over _ c.args.source.now.opened c.requires.directory.checked _ c.requires.tables_value _ (ranges s)
          c.args.start.keyword _ c.args.start.place c.requires.file.1 _ _ _ _ c.loop-n.invariant.1 (in-chunks _ _ _ c.loop-n-test.true) _ _ (ahead l)
          _ _ _ _ _ c.ends_of-ends.ensures
          (c.inner_at-inner.ensures ∙ ap (λ (x : ChunkRecords). (record_at x c.args.start.keyword).inner)
          (sym (chunk-at c.args.source.now.index.now c.args.file.now c.loop-n.n c.loop-n-test.true
          ∙ ap (index_records (form_of c.args.source.now.index.now) c.args.source.now.index.now) (sym (c.entry_at-e.ensures.inside c.loop-n-test.true)))))
          c.going-ended.ensures c.either-found.ensures.0 c.going-live.ensures,
    )

pub returns : goal.returns
returns c =
    crossing-to _ c.args.source.now.opened c.requires.directory.checked _ c.requires.tables_value _ (ranges (goal.at.returns c).Else-i-eq0)
    c.args.start.keyword _ c.args.start.place c.requires.file.1 _ _ _ _ (out-chunks _ _ _ c.loop-n-test.false) c.loop-n.invariant.1
