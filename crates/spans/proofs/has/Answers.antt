use Rattle.std.proofs.Common.{sym, refl, arith}
use borrow.Author.Tests.{le-ltb}
use Rattle.spec.specs.Bytes.{in_set}
use Rattle.spans.proofs.Members.{beyond}
use Rattle.spans.proofs.has.Goals as goal

pub returns-then-s-lt32 : goal.returns-then-s-lt32
unfolding in_set
returns-then-s-lt32 c = refl

pub returns-else-s-lt32 : goal.returns-else-s-lt32
returns-else-s-lt32 c = rw (le-ltb c.args.s 32 (omega arith)) (sym (beyond c.args.set c.args.s (omega arith) (omega arith)))
