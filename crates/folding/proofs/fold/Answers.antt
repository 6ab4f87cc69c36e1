use Rattle.std.proofs.Common.{arith}
use Rattle.spec.proofs.Folding.{upper-most}
use Rattle.folding.proofs.fold.Goals as goal

pub overflow_add-result : goal.overflow_add-result
overflow_add-result c = omega (arith, upper-most c.args.b cc)
