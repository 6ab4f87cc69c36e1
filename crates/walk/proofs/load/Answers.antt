use Rattle.std.proofs.Common.{arith}
use Rattle.loader.specs.Loaded.{Loadable}
use Rattle.loader.proofs.Loading.{loaded}
use Rattle.walk.proofs.Entries.{entry-room, entry-loadable, entry-loaded, none-loaded}
use Rattle.walk.proofs.load.Goals.{After-read-long}
use Rattle.walk.proofs.load.Goals as goal

-- its body can be loaded
loadable : (c : After-read-long)
    → Loadable c.args.source.now.opened.format c.args.source.now.index.now c.read-from.result c.read-long.result
    c.args.source.now.opened.keywords c.args.rows.now
loadable c =
    entry-loadable _ c.args.source.now.opened c.requires.0 c.args.e c.if-opened-e.false _ _ c.read-from.ensures c.read-long.ensures _ c.requires.2

pub returns-then-opened-e : goal.returns-then-opened-e
returns-then-opened-e c = none-loaded _ c.args.source.now.opened c.requires.0 c.args.e c.if-opened-e.true

pub overflow_mul-entry : goal.overflow_mul-entry
overflow_mul-entry c = omega (arith, entry-room _ c.args.source.now.opened c.requires.0 c.args.e c.if-opened-e.false)

pub overflow_add-entry : goal.overflow_add-entry
overflow_add-entry c = omega (arith, entry-room _ c.args.source.now.opened c.requires.0 c.args.e c.if-opened-e.false)

pub overflow_add-entry-2 : goal.overflow_add-entry-2
overflow_add-entry-2 c = omega (arith, entry-room _ c.args.source.now.opened c.requires.0 c.args.e c.if-opened-e.false)

pub read-from-requires : goal.read-from-requires
read-from-requires c = omega (arith, entry-room _ c.args.source.now.opened c.requires.0 c.args.e c.if-opened-e.false)

pub overflow_add-entry-3 : goal.overflow_add-entry-3
overflow_add-entry-3 c = omega (arith, entry-room _ c.args.source.now.opened c.requires.0 c.args.e c.if-opened-e.false)

pub read-long-requires : goal.read-long-requires
read-long-requires c = omega (arith, entry-room _ c.args.source.now.opened c.requires.0 c.args.e c.if-opened-e.false)

pub load-requires : goal.load-requires
load-requires c = loadable (goal.at.load-requires c).After-read-long

pub overflow_add-entry-4 : goal.overflow_add-entry-4
overflow_add-entry-4 c = omega (arith, entry-room _ c.args.source.now.opened c.requires.0 c.args.e c.if-opened-e.false)

pub read-requires : goal.read-requires
read-requires c = omega (arith, entry-room _ c.args.source.now.opened c.requires.0 c.args.e c.if-opened-e.false)

pub returns : goal.returns
returns c =
    entry-loaded _ c.args.source.now.opened c.requires.0 c.args.e c.if-opened-e.false _ _ c.read-from.ensures c.read-long.ensures _ _ c.read.ensures
    (loaded c.args.source.now.opened.format _ _ _ _ _ _ (loadable (goal.at.returns c).After-read-long) c.load.ensures)
