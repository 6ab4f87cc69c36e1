use Rattle.std.proofs.Common.{◌≤◌, length}
use Rattle.walk.specs.Walking.{chunks_in, LoadedAt}
use Rattle.walk.proofs.Counts.{Counting, CountingKeywords}
use Rattle.walk.proofs.count_file.Given as goal

-- what is counted and what is still to come are the file's occurrences, of all keywords and of each
abbrev pub invariant-loop-n : goal.invariant-loop-n
invariant-loop-n l =
    (l.source.opened.keywords ≤ length l.streams) × LoadedAt l.source.index.now l.source.opened (chunks_in l.source.index.now l.file) l.n l.rows l.size
    × Counting l.source.index.now (chunks_in l.source.index.now l.file) l.n l.sum
    × CountingKeywords l.source.index.now (chunks_in l.source.index.now l.file) l.fn.counts l.counts l.n
