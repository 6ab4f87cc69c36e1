-- The three fields are the entry's, and its body lies in the index.
use Rattle.std.proofs.Common.{◌+◌, ◌≤◌, length, arith}
use Rattle.spec.specs.Store.{chunk_count}
use Rattle.index.proofs.StageLaws.{body-within, body-ready, good-is}
use Rattle.index.proofs.entry_good.Goals.{After-read-n}
use Rattle.index.proofs.entry_good.Goals as goal

-- the entry's body lies in the index
within : (c : After-read-n) → c.read-at.result + c.read-n.result ≤ length c.args.index.now
within c =
    let a = c.args in
    body-within a.index.now a.start (chunk_count a.index.now) c.requires.0 a.words a.lens.now c.requires.2 a.e
    _ _ _ c.requires.1 c.read-size.ensures c.read-at.ensures c.read-n.ensures a.format c.requires.3

pub overflow_add-at : goal.overflow_add-at
overflow_add-at c = omega (arith, within (goal.at.overflow_add-at c).After-read-n)

pub slice_bounds-body_good-end : goal.slice_bounds-body_good-end
slice_bounds-body_good-end c = within (goal.at.slice_bounds-body_good-end c).After-read-n

pub body_good-requires : goal.body_good-requires
body_good-requires c =
    let a = c.args in
    body-ready a.index.now a.start (chunk_count a.index.now) c.requires.0 a.words a.lens.now c.requires.2 a.e
    _ _ _ c.requires.1 c.read-size.ensures c.read-at.ensures c.read-n.ensures a.format c.requires.3

pub returns : goal.returns
returns c =
    let a = c.args in
    good-is a.index.now a.start (chunk_count a.index.now) c.requires.0 a.words a.lens.now c.requires.2 a.e
    _ _ _ c.requires.1 c.read-size.ensures c.read-at.ensures c.read-n.ensures a.format c.requires.3 c.body_good.result c.body_good.ensures
