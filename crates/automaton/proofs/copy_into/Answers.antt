-- a turn's store is the first of what is left
use mathlib.Core.Path.{◌∙◌}
use Prim.Native.Nat.{◌+◌}
use native.Mathlib.Omega.{arith}
use lib.ListN.{get_or, length-set}
use Rattle.spec.proofs.Splices.{splice-on, splice-ended}
use Rattle.automaton.proofs.copy_into.Goals as goal

pub loop-i-preserved : goal.loop-i-preserved
loop-i-preserved c =
    let a = c.args in
    let s = c.loop-i in
    record {
      same = length-set s.buffer (a.at + s.i) (get_or a.run.now s.i 0) ∙ s.invariant.same;
      rest = splice-on s.buffer a.run.now a.at s.i (omega arith) (omega arith) ∙ s.invariant.rest;
    }

pub returns : goal.returns
returns c =
    let a = c.args in
    splice-ended c.loop-i.buffer a.run.now (a.at + c.loop-i.i) c.loop-i.i (omega arith) ∙ c.loop-i.invariant.rest
