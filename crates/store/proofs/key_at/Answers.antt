use Rattle.std.proofs.Common.{◌∙◌, arith}
use Rattle.store.proofs.Answers.{entry-room, key-is}
use Rattle.store.proofs.key_at.Goals as goal

pub key-requires : goal.key-requires
key-requires c = omega (arith, entry-room c.args.store.now c.args.k c.requires)

pub returns : goal.returns
returns c = c.key.ensures ∙ key-is c.args.store.now c.args.k c.requires
