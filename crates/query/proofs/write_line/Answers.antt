-- By the choice that is made in the file (LineBytes).
use Rattle.std.proofs.Common.{List, ℕ, ◌≡◌, ◌+◌, ◌*◌, ◌≤◌, length, take, replicate, arith}
use lib.Seq.{length-take-le}
use Rattle.spec.specs.Index.{lengths_in}
use Rattle.spec.specs.declared.Opened.{Opened}
use Rattle.spec.specs.Bytes.{written}
use Rattle.spec.specs.Query.{earliest, line_size}
use Rattle.listing.specs.declared.Choice.{Choice}
use Rattle.query.specs.FileLines.{file_line}
use Rattle.listing.specs.Choosing.{Chosen, chosen_from, no_choice}
use Rattle.walk.specs.Walking.{file_list, Checked}
use Rattle.plan.proofs.LengthLaws.{lengths_read, lengths-small}
use Rattle.query.proofs.LineBytes.{chosen-in, lined-none, lined-not, line-room, lined-whole}
use Rattle.query.proofs.write_line.Goals as goal

pub returns-then-not-has_line : goal.returns-then-not-has_line
returns-then-not-has_line c =
    let a = c.args in
    lined-none (lengths_in a.source.now.index.now) a.query.now a.lining.number (file_list a.lining.number a.source.now.index.now a.file.now) a.lining.place
    (c.requires.file_value c.if-not-has_line.true) a.out.now

pub choose_file-choice-requires-clause-query_len_bound : goal.choose_file-choice-requires-clause-query_len_bound
choose_file-choice-requires-clause-query_len_bound c =
    let small = lengths-small c.args.source.now.index.now c.requires.directory.0.checked.good c.args.lining.lengths c.requires.file.2 in
    (c.requires.file.1, small.0, small.1)

-- the choice is the earliest
chose : (index file query lengths : List ℕ) (number : ℕ) (opened : Opened) → Checked index opened → length query ≤ 8
    → lengths ≡ written (replicate 16 0) (lengths_in index) → (choice : Choice) → choice ≡ chosen_from lengths query (file_list number index file) no_choice
    → Chosen choice (earliest (lengths_in index) 0 query (file_list number index file))
chose index file query lengths number opened d few same choice e =
    chosen-in (lengths_in index) lengths query (file_list number index file) choice e (lengths_read index d.good lengths same) few

pub returns-then-choice-query : goal.returns-then-choice-query
returns-then-choice-query c =
    let a = c.args in
    let l = a.lining in
    let k = c.choose_file-choice in
    let chosen = chose a.source.now.index.now a.file.now a.query.now l.lengths l.number a.source.now.opened
    c.requires.directory.0.checked c.requires.file.1 c.requires.file.2 k.result k.ensures in
    lined-not (lengths_in a.source.now.index.now) a.query.now l.number (file_list l.number a.source.now.index.now a.file.now) l.place k.result chosen
    c.if-choice-query.true a.out.now

-- there is room for a line
room : (index file query lengths : List ℕ) (number : ℕ) (opened : Opened) → Checked index opened → length query ≤ 8
    → lengths ≡ written (replicate 16 0) (lengths_in index) → (choice : Choice) → choice ≡ chosen_from lengths query (file_list number index file) no_choice
    → choice.step ≡ length query → (place size : ℕ) → place + line_size query * length (file_line index query number file) ≤ size
    → (place + 4 + 4 * length query ≤ size) × (length (take (length query) choice.offsets) ≡ length query)
room index file query lengths number opened d few same choice e done place size fits =
    let chosen = chose index file query lengths number opened d few same choice e in (
      line-room (lengths_in index) query number (file_list number index file) place choice chosen done size fits,
      length-take-le (length query) choice.offsets (omega (arith, chosen.long)),
    )

pub write-requires : goal.write-requires
write-requires c =
    let a = c.args in
    let l = a.lining in
    let k = c.choose_file-choice in
    let free = room a.source.now.index.now a.file.now a.query.now l.lengths l.number a.source.now.opened
    c.requires.directory.0.checked c.requires.file.1 c.requires.file.2 k.result k.ensures
    c.if-choice-query.false l.place (length a.out.now) c.requires.file_in_bounds in
    omega (arith, free.0)

pub put_offsets-requires : goal.put_offsets-requires
put_offsets-requires c =
    let a = c.args in
    let l = a.lining in
    let k = c.choose_file-choice in
    let free = room a.source.now.index.now a.file.now a.query.now l.lengths l.number a.source.now.opened
    c.requires.directory.0.checked c.requires.file.1 c.requires.file.2 k.result k.ensures
    c.if-choice-query.false l.place (length a.out.now) c.requires.file_in_bounds in
    omega (arith, free.0, free.1, c.write.auto.out)

pub returns : goal.returns
returns c =
    let a = c.args in
    let l = a.lining in
    let k = c.choose_file-choice in
    let chosen = chose a.source.now.index.now a.file.now a.query.now l.lengths l.number a.source.now.opened
    c.requires.directory.0.checked c.requires.file.1 c.requires.file.2 k.result k.ensures in
    lined-whole (lengths_in a.source.now.index.now) a.query.now l.number (file_list l.number a.source.now.index.now a.file.now) l.place k.result chosen
    c.if-choice-query.false a.out.now c.write.new.out c.put_offsets.new.out (omega arith) c.write.ensures c.put_offsets.ensures
