-- The entries of a checked index lie in it.
use Rattle.std.proofs.Common.{◌+◌, ◌*◌, ◌≤◌, length, ◌∙◌, arith}
use Rattle.index.proofs.LookupLaws.{start_is, entry-room, entry-is}
use Rattle.index.proofs.entry_field.Goals.{After-opened-known}
use Rattle.index.proofs.entry_field.Goals as goal

-- the entry lies in the index
room : (c : After-opened-known) → c.opened-known.result.directory + 32 * c.args.k + 32 ≤ length c.args.index.now
room c =
    entry-room c.args.index.now c.args.k c.requires.0 c.opened-known.result.directory
    (start_is c.args.index.now c.requires.0.checked c.opened-known.result c.opened-known.ensures)

pub overflow_mul-k : goal.overflow_mul-k
overflow_mul-k c = omega (arith, room (goal.at.overflow_mul-k c).After-opened-known)

pub overflow_add-start : goal.overflow_add-start
overflow_add-start c = omega (arith, room (goal.at.overflow_add-start c).After-opened-known)

pub overflow_add-start-2 : goal.overflow_add-start-2
overflow_add-start-2 c = omega (arith, room (goal.at.overflow_add-start-2 c).After-opened-known)

pub read-requires : goal.read-requires
read-requires c = (omega arith, omega (arith, room (goal.at.read-requires c).After-opened-known))

pub returns : goal.returns
returns c =
    let start = start_is c.args.index.now c.requires.0.checked c.opened-known.result c.opened-known.ensures in
    c.read.ensures ∙ entry-is c.args.index.now c.args.k c.requires.0 c.opened-known.result.directory start c.args.at
