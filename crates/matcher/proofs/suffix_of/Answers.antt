use Rattle.std.proofs.Common.{◌≡◌, ◌∙◌, sym, length, rules, arith}
use Rattle.spec.specs.Keywords.{folded}
use Rattle.spec.specs.Records.{reach, starts_with}
use Rattle.spec.proofs.Largest.{largest-yes, largest-no}
use Rattle.spec.proofs.Folding.{suffix-down, starts-part}
use Rattle.matcher.proofs.suffix_of.Goals as goal

pub loop-j-init : goal.loop-j-init
unfolding reach
loop-j-init c =
    let a = c.args in
    let e : c.min-reach.result ≡ reach (length a.keyword.now) (length a.chunk.now) = search rules in
    rw e (suffix-down a.flag a.keyword.now a.chunk.now)

pub returns-then-occurs_at : goal.returns-then-occurs_at
returns-then-occurs_at c =
    let a = c.args in
    let test = starts_with (folded a.flag a.keyword.now) (folded a.flag a.chunk.now) in
    sym
    (c.loop-j.invariant
    ∙ largest-yes test c.loop-j.j (sym (starts-part a.flag a.keyword.now a.chunk.now c.loop-j.j) ∙ sym c.occurs_at.ensures ∙ c.if-occurs_at.true))

pub loop-j-preserved : goal.loop-j-preserved
loop-j-preserved c =
    let a = c.args in
    let test = starts_with (folded a.flag a.keyword.now) (folded a.flag a.chunk.now) in
    c.loop-j.invariant
    ∙ largest-no test c.loop-j.j (omega arith) (sym (starts-part a.flag a.keyword.now a.chunk.now c.loop-j.j) ∙ sym c.occurs_at.ensures ∙ c.if-occurs_at.false)
