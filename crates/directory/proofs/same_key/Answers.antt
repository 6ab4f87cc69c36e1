use Rattle.std.proofs.Common.{◌≡◌, ◌+◌, ◌*◌, sym, ◌∙◌, arith}
use Rattle.directory.proofs.KeyFields.{equal-more, other-field}
use Rattle.directory.proofs.same_key.Goals as goal

pub returns-then-read : goal.returns-then-read
returns-then-read c =
    other-field c.args.a.now c.args.b.now (4 * c.loop-k.k) 4 (λ e. c.if-read.true (c.read.ensures ∙ e ∙ sym c.read-in-loop-k.ensures))

pub loop-k-preserved : goal.loop-k-preserved
loop-k-preserved c =
    let e : 4 * (c.loop-k.k + 1) ≡ 4 * c.loop-k.k + 4 = omega arith in
    rw e (equal-more c.args.a.now c.args.b.now (λ i. (c.type_inv.a i).fits) (λ i. (c.type_inv.b i).fits) (4 * c.loop-k.k) 4
    (omega arith) (omega arith) c.loop-k.invariant (sym c.read.ensures ∙ c.if-read.false ∙ c.read-in-loop-k.ensures))
