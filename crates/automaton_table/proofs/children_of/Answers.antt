use Rattle.std.proofs.Common.{◌≡◌, List, ℕ, ◌<◌, ap, ap₂, ◌∙◌, get_or, arith}
use Rattle.spec.specs.Keywords.{flag_of, folded_keywords}
use Rattle.trie.specs.Numbers.{node_at}
use Rattle.automaton_table.specs.Building.{run, child_byte, Numbered}
use Rattle.automaton_table.proofs.Words.{numbered-count, numbered-at}
use Rattle.automaton_table.proofs.Rows.{born-start, born-on, born-end}
use Rattle.automaton_table.proofs.children_of.Goals as goal

byte-is : (list starts lens : List ℕ) (count s t x flag : ℕ) → Numbered list starts lens count → flag ≡ flag_of list → s < count → t < count
    → x ≡ child_byte (run flag list (get_or starts s 0) (get_or lens s 0)) (run flag list (get_or starts t 0) (get_or lens t 0))
    → x ≡ child_byte (node_at (folded_keywords list) s) (node_at (folded_keywords list) t)
byte-is list starts lens count s t x flag n f h l e =
    e ∙ ap (λ (g : ℕ). child_byte (run g list (get_or starts s 0) (get_or lens s 0)) (run g list (get_or starts t 0) (get_or lens t 0))) f
    ∙ ap₂ child_byte (numbered-at list starts lens count n s h) (numbered-at list starts lens count n t l)

pub loop-t-init : goal.loop-t-init
loop-t-init c = born-start _ _

pub loop-t-preserved : goal.loop-t-preserved
loop-t-preserved c =
    let n = c.requires.0 in
    let b = c.child_byte-c in
    let t = c.loop-t-test.true in
    born-on _ _ _ _ _ c.loop-t.invariant (omega (arith, numbered-count _ _ _ _ n))
    (byte-is _ _ _ _ _ _ _ _ n c.requires.1 c.requires.2 t b.ensures.byte) b.ensures.most

pub returns : goal.returns
returns c =
    let b = c.loop-t.invariant in
    record { wide = b.wide; at = born-end _ _ _ _ b (omega (arith, numbered-count _ _ _ _ c.requires.0)) }
