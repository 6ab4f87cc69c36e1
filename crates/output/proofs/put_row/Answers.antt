-- Three numbers, each with the byte that ends it.
use Rattle.std.proofs.Common.{[], ◌∷◌, ◌++◌, ℕ, List}
use Rattle.spec.specs.Program.{decimal}
use Rattle.output.specs.Lines.{row_text}
use Rattle.output.proofs.Runs.{room-1, room-2, room-3, puts-3}
use Rattle.output.proofs.Texts.{row-runs}
use Rattle.output.proofs.put_row.Goals as goal

-- a number's run: its digits, and the byte that ends it
abbrev run : ℕ → ℕ → List ℕ
run n end = decimal n ++ (end ∷ [])

pub put_number-a-requires : goal.put_number-a-requires
put_number-a-requires c =
    room-1 c.args.out.now c.args.at (row_text c.args.list.now c.args.from)
    (run c.read-file.result 0x20) (run c.read-offset.result 0x20) (run c.read-keyword.result 0x0A)
    (row-runs c.args.list.now c.args.from c.read-file.result c.read-offset.result c.read-keyword.result
    c.read-file.ensures c.read-offset.ensures c.read-keyword.ensures) c.requires.1

pub put_number-b-requires : goal.put_number-b-requires
put_number-b-requires c =
    room-2 c.args.out.now c.args.at (row_text c.args.list.now c.args.from)
    (run c.read-file.result 0x20) (run c.read-offset.result 0x20) (run c.read-keyword.result 0x0A)
    (row-runs c.args.list.now c.args.from c.read-file.result c.read-offset.result c.read-keyword.result
    c.read-file.ensures c.read-offset.ensures c.read-keyword.ensures) c.requires.1
    c.put_number-a.new.out c.put_number-a.result c.put_number-a.ensures

pub put_number-requires : goal.put_number-requires
put_number-requires c =
    room-3 c.args.out.now c.args.at (row_text c.args.list.now c.args.from)
    (run c.read-file.result 0x20) (run c.read-offset.result 0x20) (run c.read-keyword.result 0x0A)
    (row-runs c.args.list.now c.args.from c.read-file.result c.read-offset.result c.read-keyword.result
    c.read-file.ensures c.read-offset.ensures c.read-keyword.ensures) c.requires.1
    c.put_number-a.new.out c.put_number-a.result c.put_number-a.ensures
    c.put_number-b.new.out c.put_number-b.result c.put_number-b.ensures

pub returns : goal.returns
returns c =
    puts-3 c.args.out.now c.args.at (row_text c.args.list.now c.args.from)
    (run c.read-file.result 0x20) (run c.read-offset.result 0x20) (run c.read-keyword.result 0x0A)
    (row-runs c.args.list.now c.args.from c.read-file.result c.read-offset.result c.read-keyword.result
    c.read-file.ensures c.read-offset.ensures c.read-keyword.ensures) c.requires.1
    c.put_number-a.new.out c.put_number-a.result c.put_number-a.ensures
    c.put_number-b.new.out c.put_number-b.result c.put_number-b.ensures
    c.put_number.new.out c.put_number.result c.put_number.ensures
