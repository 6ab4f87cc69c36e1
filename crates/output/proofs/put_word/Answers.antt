use Rattle.std.proofs.Common.{refl, [], ◌∷◌, ◌++◌, ◌+◌, length, arith}
use lib.ListN.{length-append}
use Rattle.output.proofs.Runs.{room-first, put-end}
use Rattle.output.proofs.put_word.Goals as goal

pub copy-requires : goal.copy-requires
copy-requires c = room-first c.args.out.now c.args.at (c.args.word.now ++ (c.args.end ∷ [])) c.args.word.now (c.args.end ∷ []) refl c.requires

pub bounds-out-place : goal.bounds-out-place
bounds-out-place c = omega (arith, c.requires, length-append c.args.word.now (c.args.end ∷ []), c.copy.auto.out)

pub returns : goal.returns
returns c =
    put-end c.args.out.now c.copy.new.out c.args.at c.args.word.now c.args.end (c.args.at + length c.args.word.now) c.requires c.copy.ensures refl
