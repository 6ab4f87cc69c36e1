-- Two words, the second a number.
use Rattle.std.proofs.Common.{[], ◌∷◌, ◌++◌}
use Rattle.spec.specs.Program.{refused_text, refused_word, decimal}
use Rattle.output.proofs.Runs.{room-first, room_next, puts-next}
use Rattle.output.proofs.Texts.{refused-runs}
use Rattle.output.proofs.put_refused.Goals as goal

pub put_word-a-requires : goal.put_word-a-requires
put_word-a-requires c =
    room-first c.args.out.now 0
    (refused_text c.args.code) (refused_word ++ (0x20 ∷ [])) (decimal c.args.code ++ (0x0A ∷ []))
    (refused-runs c.args.code) c.requires

pub put_number-requires : goal.put_number-requires
put_number-requires c =
    rw c.from.ensures
    (room_next c.args.out.now c.put_word-a.new.out 0 c.put_word-a.result
    (refused_text c.args.code) (refused_word ++ (0x20 ∷ [])) (decimal c.args.code ++ (0x0A ∷ []))
    (refused-runs c.args.code) c.requires c.put_word-a.ensures)

pub returns : goal.returns
returns c =
    puts-next c.args.out.now c.put_word-a.new.out 0 c.put_word-a.result
    (refused_text c.args.code) (refused_word ++ (0x20 ∷ [])) (decimal c.args.code ++ (0x0A ∷ []))
    (refused-runs c.args.code) c.requires c.put_word-a.ensures
    c.put_number.new.out c.put_number.result (rw c.from.ensures at c.put_number.ensures)
