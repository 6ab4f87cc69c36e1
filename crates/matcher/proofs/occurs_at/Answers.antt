use Rattle.std.proofs.Common.{◌∙◌, sym, arith}
use Rattle.std.proofs.lemmas.Bool.Decides.{nat_tests}
use native.Mathlib.Nat.{add-zero}
use Rattle.spec.proofs.Folding.{rest-same, rest-differs, rest-done, occurs_at-out}
use Rattle.matcher.proofs.occurs_at.Goals as goal

pub returns-then-is_empty : goal.returns-then-is_empty
returns-then-is_empty c =
    let a = c.args in
    sym (rw add-zero at (rest-done a.flag a.keyword.now a.chunk.now a.at 0 (grind (arith, nat_tests))))

pub returns-then-chunk-at : goal.returns-then-chunk-at
returns-then-chunk-at c = let a = c.args in sym (occurs_at-out a.flag a.keyword.now a.chunk.now a.at (grind (arith, nat_tests)))

pub returns-then-fold : goal.returns-then-fold
returns-then-fold c =
    let a = c.args in
    sym (c.loop-k.invariant.1 ∙ rest-differs a.flag a.keyword.now a.chunk.now a.at c.loop-k.k (omega arith) (omega arith) (omega arith))

pub loop-k-preserved : goal.loop-k-preserved
loop-k-preserved c =
    let a = c.args in
    (c.loop-k.invariant.0, c.loop-k.invariant.1 ∙ rest-same a.flag a.keyword.now a.chunk.now a.at c.loop-k.k (omega arith) (omega arith) (omega arith))

pub returns : goal.returns
returns c = let a = c.args in sym (c.loop-k.invariant.1 ∙ rest-done a.flag a.keyword.now a.chunk.now a.at c.loop-k.k (omega arith))
