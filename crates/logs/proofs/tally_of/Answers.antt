use Rattle.std.proofs.Common.{◌≡◌, ap, ◌∙◌, arith}
use Rattle.logs.specs.Log.{number_in, place_in, set_at, Fits}
use Rattle.logs.proofs.Backwards.{back-start, back-most, back-fits, back-turn, back-end}
use Rattle.logs.proofs.tally_of.Goals as goal
use Rattle.logs.proofs.tally_of.Goals.{In-Some}

-- the entry can be read
fit : (c : In-Some) → Fits c.args.ends.now c.args.len.now c.in-Some.field-0.now
fit c = back-fits c.args.ends.now c.args.len.now c.args.log.now _ _ c.loop-entry.invariant _ _ c.in-Some.ensures.steps c.requires.1

pub loop-entry-init : goal.loop-entry-init
loop-entry-init c =
    let all : c.into_iter-entry-iterator.result.iter.rest.now ≡ c.args.log.now =
    ap (λ s. s.iter.rest.now) c.into_iter-entry-iterator.ensures.into_iter_gives
    ∙ ap (λ s. s.rest.now) c.rev-entry-items.ensures.source
    ∙ c.iter.ensures.rest in
    rw all (back-start c.args.ends.now c.args.len.now c.args.log.now)

pub bounds-ends-node : goal.bounds-ends-node
unfolding number_in
bounds-ends-node c = (fit (goal.at.bounds-ends-node c).In-Some).node

pub count_entry-requires : goal.count_entry-requires
unfolding set_at number_in place_in
count_entry-requires c =
    let f = fit (goal.at.count_entry-requires c).In-Some in
    let b = c.loop-entry.invariant in
    record {
      counted = b.tallied.counted;
      kept = b.tallied.kept;
      sizes = c.requires.0;
      few = f.few;
      back = f.back;
      room = λ k. omega (arith, back-most c.args.ends.now c.args.len.now c.args.log.now _ _ b k);
    }

pub loop-entry-preserved : goal.loop-entry-preserved
unfolding set_at number_in place_in
loop-entry-preserved c =
    let r = c.count_entry in
    back-turn c.args.ends.now c.args.len.now c.args.log.now _ _ c.loop-entry.invariant _ _ c.in-Some.ensures.steps _ _
    r.auto.counts r.auto.firsts r.ensures.0 r.ensures.1

pub returns : goal.returns
returns c = back-end c.args.ends.now c.args.len.now c.args.log.now _ _ c.loop-entry.invariant c.in-None.ensures.steps.0
