use Rattle.std.proofs.Common.{[], ◌∷◌, ◌++◌}
use Rattle.spec.specs.Program.{too_long_text, too_long_words}
use Rattle.output.proofs.Runs.{room-first, room_next, puts-next}
use Rattle.output.proofs.Texts.{too-long-runs}
use Rattle.output.proofs.put_too_long.Goals as goal

pub put_word-a-requires : goal.put_word-a-requires
put_word-a-requires c =
    let name = c.args.name.now in
    room-first c.args.out.now 0 (too_long_text name) (too_long_words ++ (0x20 ∷ [])) (name ++ (0x0A ∷ [])) (too-long-runs name) c.requires

pub put_word-requires : goal.put_word-requires
put_word-requires c =
    let name = c.args.name.now in
    room_next c.args.out.now c.put_word-a.new.out 0 c.put_word-a.result (too_long_text name) (too_long_words ++ (0x20 ∷ [])) (name ++ (0x0A ∷ []))
    (too-long-runs name) c.requires c.put_word-a.ensures

pub returns : goal.returns
returns c =
    let name = c.args.name.now in
    puts-next c.args.out.now c.put_word-a.new.out 0 c.put_word-a.result (too_long_text name) (too_long_words ++ (0x20 ∷ [])) (name ++ (0x0A ∷ []))
    (too-long-runs name) c.requires c.put_word-a.ensures c.put_word.new.out c.put_word.result c.put_word.ensures
