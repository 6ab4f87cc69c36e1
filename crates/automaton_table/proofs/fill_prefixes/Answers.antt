use Rattle.std.proofs.Common.{ap, ◌∙◌, arith, ◌%◌, ◌/◌, ◌*◌}
use Rattle.spec.specs.Keywords.{folded_keywords}
use Rattle.spec.specs.Join.{keyword_at}
use Rattle.trie.specs.Endings.{prefix_at}
use Rattle.automaton.specs.Automaton.{prefixes_of}
use Rattle.automaton_table.proofs.Words.{numbered-count, numbered-at}
use Rattle.automaton_table.proofs.Filled.{fill_start, fill_on, fill_end}
use Rattle.automaton_table.proofs.fill_prefixes.Goals as goal

pub prefix_at-requires : goal.prefix_at-requires
prefix_at-requires c = (c.requires.0.reads, c.requires.0.numbered.within.room (c.loop-i.i / 16) (omega arith))

pub loop-i-init : goal.loop-i-init
unfolding prefixes_of
loop-i-init c = fill_start _ _ (c.args.count * 16) _ (omega (arith, numbered-count _ _ _ _ c.requires.0.numbered))

pub loop-i-preserved : goal.loop-i-preserved
loop-i-preserved c =
    let i = c.loop-i.i in
    fill_on _ _ _ _ _ _ c.loop-i-test.true (omega arith)
    (c.prefix_at.ensures
    ∙ ap (prefix_at (keyword_at (folded_keywords c.args.list.now) (i % 16))) (numbered-at _ _ _ _ c.requires.0.numbered (i / 16) (omega arith)))
    c.loop-i.invariant

pub returns : goal.returns
returns c = fill_end _ _ _ _ _ c.loop-i-test.false c.loop-i.invariant
