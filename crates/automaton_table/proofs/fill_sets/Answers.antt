use Rattle.std.proofs.Common.{ap, ◌∙◌, arith}
use Rattle.spec.specs.Keywords.{folded_keywords}
use Rattle.automaton.specs.Automaton.{ending_set, sets_of}
use Rattle.automaton_table.proofs.Words.{numbered-count, numbered-at}
use Rattle.automaton_table.proofs.Filled.{fill_start, fill_on, fill_end}
use Rattle.automaton_table.proofs.fill_sets.Goals as goal

pub loop-s-init : goal.loop-s-init
unfolding sets_of
loop-s-init c = fill_start _ _ _ _ (numbered-count _ _ _ _ c.requires.0.numbered)

pub loop-s-preserved : goal.loop-s-preserved
loop-s-preserved c =
    fill_on _ _ _ _ _ _ c.loop-s-test.true (omega arith)
    (c.ending_set.ensures ∙ ap (ending_set (folded_keywords c.args.list.now)) (numbered-at _ _ _ _ c.requires.0.numbered _ c.loop-s-test.true))
    c.loop-s.invariant

pub returns : goal.returns
returns c = fill_end _ _ _ _ _ c.loop-s-test.false c.loop-s.invariant
