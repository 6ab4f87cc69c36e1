use Rattle.std.proofs.Common.{◌∙◌, get_or}
use Rattle.logs.specs.Log.{number_in, place_in, set_at, Fits}
use Rattle.spec.specs.Form.{newest}
use Rattle.offset_lists.specs.Runs.{log_run}
use Rattle.offset_lists.proofs.Filling.{going-room, going-turn, going_end, list-room, list-filled}
use Rattle.offset_lists.proofs.put_log.Goals as goal

pub bounds-ends-node : goal.bounds-ends-node
unfolding number_in
bounds-ends-node c = (c.requires.1 _ c.loop-entry-test.true).node

pub put_entry-requires : goal.put_entry-requires
unfolding set_at number_in place_in
put_entry-requires c =
    let a = c.args in
    let l = c.loop-entry in
    let can = c.requires.0 in
    let f : Fits a.ends.now a.words.len (get_or a.log.now l.entry-index 0) = c.requires.1 _ c.loop-entry-test.true in
    record {
      fill = record {
        placed = l.invariant.placed ∙ can.placed;
        counted = can.counted;
        sizes = can.sizes;
        room = going-room a.counts.now a.words.len a.ends.now a.log.now l.entry-index c.loop-entry-test.true a.out.now a.cursors.now
            l.out l.cursors l.invariant (list-room a.words _ a.out.now a.cursors.now a.counts.now can);
      };
      few = f.few;
      back = f.back;
    }

pub loop-entry-preserved : goal.loop-entry-preserved
unfolding set_at number_in place_in
loop-entry-preserved c =
    let a = c.args in
    let l = c.loop-entry in
    let r = c.put_entry in
    going-turn a.counts.now a.words.len a.ends.now a.log.now l.entry-index c.loop-entry-test.true a.out.now a.cursors.now
    l.out l.cursors l.invariant r.new.out r.new.cursors r.auto.out r.auto.cursors r.ensures

pub returns : goal.returns
returns c =
    let a = c.args in
    let l = c.loop-entry in
    list-filled a.words (log_run newest a.counts.now a.words.len a.ends.now a.log.now) a.out.now a.cursors.now a.counts.now
    c.requires.0 l.out l.cursors (l.invariant.placed ∙ c.requires.0.placed)
    (going_end a.counts.now a.words.len a.ends.now a.log.now l.entry-index a.out.now a.cursors.now l.out l.cursors
    c.loop-entry-test.false l.invariant)
