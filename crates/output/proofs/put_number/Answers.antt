-- The digits that the kit makes are the number in decimal.
use Rattle.std.proofs.Common.{ap, ◌∙◌, [], ◌∷◌, ◌++◌, ℕ, List, take}
use Rattle.spec.specs.Program.{decimal}
use Rattle.output.proofs.Runs.{room-same, puts-same}
use Rattle.output.proofs.Decimals.{digits_decimal}
use Rattle.output.proofs.put_number.Goals as goal

pub put_word-requires : goal.put_word-requires
put_word-requires c =
    room-same c.args.out.now c.args.at
    (take c.decimal-k.result c.decimal-k.new.out ++ (c.args.end ∷ [])) (decimal c.args.n ++ (c.args.end ∷ []))
    (ap (λ (t : List ℕ). t ++ (c.args.end ∷ []))
    (c.decimal-k.ensures.digits ∙ digits_decimal c.args.n c.decimal-k.result c.ranges.n.fits c.decimal-k.ensures.len)) c.requires

pub returns : goal.returns
returns c =
    puts-same c.args.out.now c.put_word.new.out c.args.at
    (take c.decimal-k.result c.decimal-k.new.out ++ (c.args.end ∷ [])) (decimal c.args.n ++ (c.args.end ∷ []))
    c.put_word.result
    (ap (λ (t : List ℕ). t ++ (c.args.end ∷ []))
    (c.decimal-k.ensures.digits ∙ digits_decimal c.args.n c.decimal-k.result c.ranges.n.fits c.decimal-k.ensures.len)) c.put_word.ensures
