-- The examination with an array of its own.
use Rattle.directory.proofs.ChainLaws.{zeros}
use Rattle.index.proofs.check.Goals as goal

pub examine-requires : goal.examine-requires
examine-requires c = zeros
