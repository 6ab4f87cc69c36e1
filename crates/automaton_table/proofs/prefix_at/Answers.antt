use Rattle.std.proofs.Common.{◌≡◌, Bool, List, ℕ, ◌-◌, ◌<◌, ◌≤◌, ap, ap₂, ◌∙◌, sym, take, get_or, arith}
use Rattle.spec.specs.Keywords.{flag_of, folded_keywords}
use Rattle.spec.specs.Join.{keyword_at}
use Rattle.spec.proofs.Largest.{largest-yes, largest-no}
use Rattle.keywords.specs.declared.Keywords.{Keywords}
use Rattle.keywords.specs.Parsed.{Reads}
use Rattle.trie.specs.Endings.{is_ending, prefix_at}
use Rattle.automaton_table.specs.Building.{run}
use Rattle.automaton_table.proofs.Words.{words-few, words-flag, words-all, word_room, word-most, word-length, word-front, word_none}
use Rattle.automaton_table.proofs.prefix_at.Goals as goal

-- keyword k's first i bytes are an ending of the n bytes from `at`
abbrev test : List ℕ → ℕ → ℕ → ℕ → ℕ → Bool
test list k at n i = is_ending (take i (keyword_at (folded_keywords list) k)) (run (flag_of list) list at n)

tested : (list : List ℕ) (words : Keywords) → Reads list words → (k at n i : ℕ) → k < words.count → i ≤ get_or words.len k 0 → (b t : Bool)
    → b ≡ is_ending (run words.flag list (get_or words.start k 0) i) (run words.flag list at n) → b ≡ t → test list k at n i ≡ t
tested list words r k at n i h l b t e q =
    ap₂ is_ending (sym (word-front list words r k h i l)) (ap (λ (f : ℕ). run f list at n) (sym (words-flag list words r))) ∙ sym e ∙ q

pub returns-then-words-k : goal.returns-then-words-k
unfolding prefix_at
returns-then-words-k c = rw (word_none (folded_keywords c.args.list.now) c.args.k (omega (arith, words-all _ _ c.requires.0)))

pub offset_bounds-words-k : goal.offset_bounds-words-k
offset_bounds-words-k c = omega (arith, words-few _ _ c.requires.0)

pub bounds-words-k : goal.bounds-words-k
bounds-words-k c = omega (arith, words-few _ _ c.requires.0)

pub loop-i-init : goal.loop-i-init
unfolding prefix_at
loop-i-init c = rw (word-length _ _ c.requires.0 c.args.k c.if-words-k.false)

pub ends_with-requires : goal.ends_with-requires
ends_with-requires c = (omega (arith, word_room _ _ c.requires.0 c.args.k c.if-words-k.false), c.requires.1)

pub overflow_cast-result : goal.overflow_cast-result
overflow_cast-result c = omega (arith, word-most _ _ c.requires.0 c.args.k c.if-words-k.false)

pub returns-then-ends_with : goal.returns-then-ends_with
returns-then-ends_with c =
    let a = c.args in
    let yes = tested _ _ c.requires.0 a.k a.at a.n (c.loop-i.i - 1) c.if-words-k.false (omega arith) _ _ c.ends_with.ensures c.if-ends_with.true in
    sym (c.loop-i.invariant ∙ largest-yes (test a.list.now a.k a.at a.n) _ yes)

pub loop-i-preserved : goal.loop-i-preserved
loop-i-preserved c =
    let a = c.args in
    let no = tested _ _ c.requires.0 a.k a.at a.n (c.loop-i.i - 1) c.if-words-k.false (omega arith) _ _ c.ends_with.ensures c.if-ends_with.false in
    c.loop-i.invariant ∙ largest-no (test a.list.now a.k a.at a.n) (c.loop-i.i - 1) (omega arith) no
