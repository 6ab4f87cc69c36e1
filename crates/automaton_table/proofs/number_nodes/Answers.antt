use Rattle.std.proofs.Common.{arith}
use Rattle.automaton_table.proofs.Words.{words-few, word_room, adding-room, numbering_start, numbering-on, numbering-end}
use Rattle.automaton_table.proofs.number_nodes.Goals as goal

pub loop-k-init : goal.loop-k-init
loop-k-init c = numbering_start _ _ c.requires.0 _ _ c.requires.1 c.requires.2

pub offset_bounds-words-k : goal.offset_bounds-words-k
offset_bounds-words-k c = omega (arith, words-few _ _ c.requires.0)

pub bounds-words-k : goal.bounds-words-k
bounds-words-k c = omega (arith, words-few _ _ c.requires.0)

pub offset_bounds-words-k-in-loop-k : goal.offset_bounds-words-k-in-loop-k
offset_bounds-words-k-in-loop-k c = omega (arith, words-few _ _ c.requires.0)

pub bounds-words-k-in-loop-k : goal.bounds-words-k-in-loop-k
bounds-words-k-in-loop-k c = omega (arith, words-few _ _ c.requires.0)

pub add_beginnings-count-requires-clause-within : goal.add_beginnings-count-requires-clause-within
add_beginnings-count-requires-clause-within c = (c.loop-k.invariant.lies, word_room _ _ c.requires.0 _ c.loop-k-test.true)

pub add_beginnings-count-requires-clause-starts_len : goal.add_beginnings-count-requires-clause-starts_len
add_beginnings-count-requires-clause-starts_len c =
    let i = c.loop-k.invariant in
    (i.wide, i.wide-lens, adding-room _ _ c.requires.0 _ _ _ _ i c.loop-k-test.true)

pub loop-k-preserved : goal.loop-k-preserved
loop-k-preserved c =
    let b = c.add_beginnings-count in
    numbering-on _ _ c.requires.0 _ _ _ _ c.loop-k.invariant c.loop-k-test.true _ _ _ b.auto.starts b.auto.lens b.ensures

pub returns : goal.returns
returns c = numbering-end _ _ c.requires.0 _ _ _ _ c.loop-k.invariant c.loop-k-test.false
