use Rattle.std.proofs.Common.{◌+◌, ◌≤◌, ◌<◌, length, get_or, arith}
use Rattle.records.proofs.Telling.{summary-is, tells-few, tells-within, tells-most}
use Rattle.records.proofs.summary_of.Goals as goal
use Rattle.records.proofs.summary_of.Goals.{Start}

-- keyword k is one of 16, and a slice of the list
below : (c : Start) → c.args.k < 16
below c = let a = c.args in tells-few a.list.now a.words a.chunk.now a.tails.now a.last a.tally c.requires.0 a.k c.requires.1

slice : (c : Start) → let a = c.args in get_or a.words.start a.k 0 + get_or a.words.len a.k 0 ≤ length a.list.now
slice c = let a = c.args in tells-within a.list.now a.words a.chunk.now a.tails.now a.last a.tally c.requires.0 a.k c.requires.1

pub offset_bounds-words-k : goal.offset_bounds-words-k
offset_bounds-words-k c = omega (arith, below (goal.at.offset_bounds-words-k c).Start)

pub bounds-words-k : goal.bounds-words-k
bounds-words-k c = omega (arith, below (goal.at.bounds-words-k c).Start)

pub offset_bounds-words-k-2 : goal.offset_bounds-words-k-2
offset_bounds-words-k-2 c = omega (arith, below (goal.at.offset_bounds-words-k-2 c).Start)

pub bounds-words-k-2 : goal.bounds-words-k-2
bounds-words-k-2 c = omega (arith, below (goal.at.bounds-words-k-2 c).Start)

pub overflow_add-word : goal.overflow_add-word
overflow_add-word c = omega (arith, slice (goal.at.overflow_add-word c).Start)

pub slice_bounds-word-end : goal.slice_bounds-word-end
slice_bounds-word-end c = omega (arith, slice (goal.at.slice_bounds-word-end c).Start)

pub overflow_add-result : goal.overflow_add-result
overflow_add-result c = omega (arith, below (goal.at.overflow_add-result c).Start, c.requires.0.inside)

pub bounds-tails-last : goal.bounds-tails-last
bounds-tails-last c = omega (arith, below (goal.at.bounds-tails-last c).Start, c.requires.0.inside)

pub offset_bounds-tally-k : goal.offset_bounds-tally-k
offset_bounds-tally-k c = omega (arith, below (goal.at.offset_bounds-tally-k c).Start)

pub bounds-tally-k : goal.bounds-tally-k
bounds-tally-k c = omega (arith, below (goal.at.bounds-tally-k c).Start)

pub offset_bounds-tally-k-2 : goal.offset_bounds-tally-k-2
offset_bounds-tally-k-2 c = omega (arith, below (goal.at.offset_bounds-tally-k-2 c).Start)

pub bounds-tally-k-2 : goal.bounds-tally-k-2
bounds-tally-k-2 c = omega (arith, below (goal.at.bounds-tally-k-2 c).Start)

pub set_of-requires : goal.set_of-requires
set_of-requires c = let a = c.args in tells-most a.list.now a.words a.chunk.now a.tails.now a.last a.tally c.requires.0 a.k c.requires.1

pub returns : goal.returns
returns c =
    let a = c.args in
    summary-is a.list.now a.words a.chunk.now a.tails.now a.last a.tally c.requires.0 a.k c.requires.1 c.suffix_of.result c.set_of.result
    c.suffix_of.ensures c.set_of.ensures
