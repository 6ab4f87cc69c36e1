use Rattle.std.proofs.Common.{arith}
use Rattle.store.proofs.Answers.{entry-room}
use Rattle.store.proofs.entry_field.Goals as goal

pub overflow_mul-k : goal.overflow_mul-k
overflow_mul-k c = omega (arith, entry-room c.args.store.now c.args.k c.requires.0)

pub overflow_add-k : goal.overflow_add-k
overflow_add-k c = omega (arith, entry-room c.args.store.now c.args.k c.requires.0)

pub overflow_add-k-2 : goal.overflow_add-k-2
overflow_add-k-2 c = omega (arith, entry-room c.args.store.now c.args.k c.requires.0)

pub read-requires : goal.read-requires
read-requires c = (omega arith, omega (arith, entry-room c.args.store.now c.args.k c.requires.0))
