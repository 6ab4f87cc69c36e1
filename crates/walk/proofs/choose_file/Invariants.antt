use Rattle.std.proofs.Common.{◌≤◌, length}
use Rattle.walk.specs.Walking.{chunks_in, LoadedAt}
use Rattle.walk.proofs.FileChoices.{ChoosingFile}
use Rattle.walk.proofs.choose_file.Given as goal

-- the choice so far, carried along what is still to come, is the file's; a complete choice stays, so the loop may leave early
abbrev pub invariant-loop-n : goal.invariant-loop-n
invariant-loop-n l =
    (l.source.opened.keywords ≤ length l.streams) × LoadedAt l.source.index.now l.source.opened (chunks_in l.source.index.now l.file) l.n l.rows l.size
    × ChoosingFile l.source.index.now l.fn.choosing.number (chunks_in l.source.index.now l.file) l.lengths l.query l.n l.passed l.choice
