use Rattle.std.proofs.Common.{◌≡◌, ◌+◌, ◌*◌, ◌≤◌, length, ap, ◌∙◌, zero-add, arith}
use Rattle.spec.specs.Form.{newest}
use Rattle.records.proofs.BodyLaws.{body_rest, rest-start, rest-none, record_most, record-step, record-most, keywords-few}
use Rattle.records.proofs.body_size.Goals as goal
use Rattle.records.proofs.body_size.Goals.{After-listed_of}

pub loop-k-init : goal.loop-k-init
loop-k-init c =
    let a = c.args in
    record { whole = zero-add _ ∙ ap length (rest-start a.list.now a.chunk.now); most = omega arith }

-- the record measured is the first of what is left
step : (c : After-listed_of) → let a = c.args in let k = c.loop-k.k in
    (length (body_rest a.list.now a.chunk.now k)
    ≡ c.start_size.result + newest.width * c.listed_of.result + length (body_rest a.list.now a.chunk.now (k + 1)))
    × (c.start_size.result + newest.width * c.listed_of.result ≤ record_most)
step c =
    let a = c.args in
    let m = c.summary_of-s in
    let z = c.start_size in
    let n = c.listed_of in (
      record-step a.list.now a.words c.requires.reads a.chunk.now c.loop-k.k c.loop-k-test.true m.result m.ensures z.result n.result
          z.ensures n.ensures,
      record-most a.list.now a.words c.requires.reads a.chunk.now c.loop-k.k c.loop-k-test.true m.result m.ensures z.result n.result
          c.requires.short z.ensures n.ensures,
    )

pub overflow_mul-size : goal.overflow_mul-size
overflow_mul-size c = omega (arith, (step (goal.at.overflow_mul-size c).After-listed_of).1)

pub overflow_add-size : goal.overflow_add-size
overflow_add-size c = omega (arith, (step (goal.at.overflow_add-size c).After-listed_of).1)

pub overflow_add-size-in-loop-k : goal.overflow_add-size-in-loop-k
overflow_add-size-in-loop-k c =
    let few = keywords-few c.args.list.now c.args.words c.requires.reads in
    omega (arith, (step (goal.at.overflow_add-size-in-loop-k c).After-listed_of).1, few, c.loop-k-test.true, c.loop-k.invariant.most)

pub loop-k-preserved : goal.loop-k-preserved
loop-k-preserved c =
    let s = step (goal.at.loop-k-preserved c).After-listed_of in
    let v = c.loop-k.invariant in
    record { whole = omega (arith, s.0, v.whole); most = omega (arith, s.1, v.most) }

pub returns : goal.returns
returns c =
    let a = c.args in
    omega (arith, c.loop-k.invariant.whole, ap length (rest-none a.list.now a.words c.requires.reads a.chunk.now c.loop-k.k c.loop-k-test.false))
