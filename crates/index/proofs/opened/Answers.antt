-- The keyword list of a checked index reads without fault, and the rest is read from its header.
use Rattle.std.proofs.Common.{arith}
use Rattle.index.proofs.LookupLaws.{header-there, list-good, start_small, opened-is}
use Rattle.index.proofs.opened.Goals as goal

pub slice_bounds-parse-count : goal.slice_bounds-parse-count
slice_bounds-parse-count c = header-there c.args.index.now c.requires

pub slice_bounds-parse-start : goal.slice_bounds-parse-start
slice_bounds-parse-start c = header-there c.args.index.now c.requires

pub parse-list-requires : goal.parse-list-requires
parse-list-requires c = list-good c.args.index.now c.requires

pub overflow_add-start : goal.overflow_add-start
overflow_add-start c = omega (arith, start_small c.args.index.now c.requires c.parse-list.result c.parse-list.ensures)

pub chunk_count-c-requires : goal.chunk_count-c-requires
chunk_count-c-requires c = header-there c.args.index.now c.requires

pub returns : goal.returns
returns c =
    opened-is c.args.index.now c.requires c.parse-list.result c.parse-list.ensures c.chunk_count-c.result c.chunk_count-c.ensures
    c.of-format.result c.of-format.ensures
