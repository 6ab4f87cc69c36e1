use Rattle.std.proofs.Common.{◌≡◌, take}
use Rattle.automaton.specs.Walking.{walk_log}
use Rattle.windows.proofs.Windowing.{logged-part, logged-length, logged-room, counted_is, fits-part}
use Rattle.windows.proofs.count_window.Goals as goal
use Rattle.windows.proofs.count_window.Goals.{After-walk_lanes-w}

-- the part of the log that the walk wrote
part : (c : After-walk_lanes-w) → let a = c.args in let m = a.m.now in
    take c.walk_lanes-w.result.logged c.walk_lanes-w.new.log ≡ walk_log m.list.now a.node a.bytes.now a.at
part c =
    let a = c.args in
    let m = a.m.now in
    let w = c.walk_lanes-w in
    logged-part m.list.now c.requires.walks.walks.rows.accepted a.node a.bytes.now a.at w.result w.ensures.answer a.log.now w.new.log w.ensures.entries

pub slice_bounds-tally_of-end : goal.slice_bounds-tally_of-end
slice_bounds-tally_of-end c =
    let a = c.args in
    let m = a.m.now in
    let w = c.walk_lanes-w in
    logged-room m.list.now c.requires.walks.walks.rows.accepted a.node a.bytes.now a.at w.result w.ensures.answer a.log.now w.new.log w.ensures.entries

pub slice_bounds-tally_of-end-2 : goal.slice_bounds-tally_of-end-2
slice_bounds-tally_of-end-2 c =
    let a = c.args in
    let m = a.m.now in
    let w = c.walk_lanes-w in
    logged-length m.list.now c.requires.walks.walks.rows.accepted a.node a.bytes.now a.at w.result w.ensures.answer a.log.now w.new.log w.ensures.entries

pub tally_of-tally-requires : goal.tally_of-tally-requires
tally_of-tally-requires c =
    let m = c.args.m.now in
    (c.requires.sizes, fits-part m.ends.now m.words.len _ _ (part (goal.at.tally_of-tally-requires c).After-walk_lanes-w) c.requires.fits)

pub returns-clause-answer : goal.returns-clause-answer
returns-clause-answer c =
    let a = c.args in
    let m = a.m.now in
    counted_is m.list.now m.ends.now m.words.len c.requires.walks.walks.rows.accepted a.node a.bytes.now a.at c.walk_lanes-w.result
    c.tally_of-tally.result _ c.walk_lanes-w.ensures.answer (part (goal.at.returns-clause-answer c).After-walk_lanes-w) c.tally_of-tally.ensures
