use Rattle.records.proofs.SetLaws.{size_none, size-some}
use Rattle.records.proofs.set_size.Goals as goal

pub returns-then-set-eq-NO_STARTS : goal.returns-then-set-eq-NO_STARTS
returns-then-set-eq-NO_STARTS c = λ k. size_none k c.args.set c.if-set-eq-NO_STARTS.true

pub returns-else-set-eq-NO_STARTS : goal.returns-else-set-eq-NO_STARTS
returns-else-set-eq-NO_STARTS c = λ k. size-some k c.args.set c.if-set-eq-NO_STARTS.false
