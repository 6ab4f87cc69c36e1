-- The first line's two words, then the rows.
use Rattle.std.proofs.Common.{[], ◌∷◌, ◌++◌, ℕ, List}
use Rattle.spec.specs.Join.{read_list}
use Rattle.spec.specs.Program.{decimal, finds_word, list_text}
use Rattle.output.specs.Lines.{rows_text}
use Rattle.output.proofs.Runs.{room-1, room-2, room-3, puts-3}
use Rattle.output.proofs.Texts.{list-runs}
use Rattle.output.proofs.put_list.Goals as goal

abbrev word : List ℕ
word = finds_word ++ (0x20 ∷ [])

abbrev number : ℕ → List ℕ
number count = decimal count ++ (0x0A ∷ [])

pub put_word-a-requires : goal.put_word-a-requires
put_word-a-requires c =
    room-1 c.args.out.now 0 (list_text (read_list c.args.count c.args.list.now))
    word (number c.args.count) (rows_text c.args.list.now c.args.count 0)
    (list-runs c.args.list.now c.args.count) c.requires.1

pub put_number-b-requires : goal.put_number-b-requires
put_number-b-requires c =
    room-2 c.args.out.now 0 (list_text (read_list c.args.count c.args.list.now))
    word (number c.args.count) (rows_text c.args.list.now c.args.count 0)
    (list-runs c.args.list.now c.args.count) c.requires.1
    c.put_word-a.new.out c.put_word-a.result c.put_word-a.ensures

pub put_rows-requires : goal.put_rows-requires
put_rows-requires c = (
  c.requires.0,
  room-3 c.args.out.now 0 (list_text (read_list c.args.count c.args.list.now))
      word (number c.args.count) (rows_text c.args.list.now c.args.count 0)
      (list-runs c.args.list.now c.args.count) c.requires.1
      c.put_word-a.new.out c.put_word-a.result c.put_word-a.ensures
      c.put_number-b.new.out c.put_number-b.result c.put_number-b.ensures,
)

pub returns : goal.returns
returns c =
    puts-3 c.args.out.now 0 (list_text (read_list c.args.count c.args.list.now))
    word (number c.args.count) (rows_text c.args.list.now c.args.count 0)
    (list-runs c.args.list.now c.args.count) c.requires.1
    c.put_word-a.new.out c.put_word-a.result c.put_word-a.ensures
    c.put_number-b.new.out c.put_number-b.result c.put_number-b.ensures
    c.put_rows.new.out c.put_rows.result c.put_rows.ensures
