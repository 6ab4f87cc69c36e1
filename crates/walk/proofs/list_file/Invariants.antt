use Rattle.std.proofs.Common.{◌≤◌, length}
use Rattle.walk.specs.Walking.{chunks_in, LoadedAt}
use Rattle.walk.proofs.Counts.{ListingFile}
use Rattle.walk.proofs.list_file.Given as goal

-- what is written and what is still to come are the file's list
abbrev pub invariant-loop-n : goal.invariant-loop-n
invariant-loop-n l =
    (l.source.opened.keywords ≤ length l.streams) × LoadedAt l.source.index.now l.source.opened (chunks_in l.source.index.now l.file) l.n l.rows l.size
    × ListingFile l.source.index.now l.fn.listing.number (chunks_in l.source.index.now l.file) l.fn.out l.out l.fn.listing.place l.p l.n l.base
