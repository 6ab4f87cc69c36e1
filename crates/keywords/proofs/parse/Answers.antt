use Rattle.keywords.proofs.Reading.{readable}
use Rattle.keywords.proofs.parse.Goals as goal

pub split-requires : goal.split-requires
split-requires c = readable c.args.list.now c.requires
