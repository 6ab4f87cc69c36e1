use Rattle.walk.proofs.Entries.{counts, lies, position-is, slot_is, entry-inside, entry-behind}
use Rattle.walk.proofs.entry_at.Goals as goal

pub returns-then-file-n : goal.returns-then-file-n
returns-then-file-n c =
    entry-behind _ _ _ c.requires.file c.args.n c.if-file-n.true _ (counts _ c.args.source.now.opened c.requires.directory.checked)

pub returns-then-n-slots : goal.returns-then-n-slots
returns-then-n-slots c =
    entry-inside _ _ _ c.requires.file c.args.n c.if-file-n.false _ (slot_is _ _ _ c.requires.file c.args.n c.if-file-n.false c.if-n-slots.true)

pub entry_of-requires-clause-lies : goal.entry_of-requires-clause-lies
entry_of-requires-clause-lies c = lies _ c.args.source.now.opened c.requires.directory.checked

pub returns : goal.returns
returns c =
    entry-inside _ _ _ c.requires.file c.args.n c.if-file-n.false _
    (position-is _ c.args.source.now.opened c.requires.directory.checked _ c.entry_of.result c.entry_of.ensures)
