use Rattle.std.proofs.Common.{◌≡◌, Bool, cond, List, ℕ, ◌+◌, ◌*◌, ◌^◌, ◌<◌, ap, ◌∙◌, length, get_or, add-one, arith}
use Rattle.spec.specs.Bytes.{set_of}
use Rattle.spec.specs.Keywords.{flag_of, folded_keywords}
use Rattle.spec.specs.Join.{keyword_at}
use Rattle.spec.proofs.Sets.{set-lt}
use Rattle.keywords.specs.declared.Keywords.{Keywords}
use Rattle.keywords.specs.Parsed.{Reads}
use Rattle.trie.specs.Endings.{is_ending}
use Rattle.automaton.specs.Automaton.{ending_set}
use Rattle.automaton_table.specs.Building.{run}
use Rattle.automaton_table.proofs.Words.{words-few, words-flag, words-all, word_room, word-is}
use Rattle.automaton_table.proofs.ending_set.Goals as goal

-- a turn: the test says whether the keyword is an ending of the node
turn : (list : List ℕ) (words : Keywords) (at n : ℕ) → Reads list words → (k set next : ℕ) (holds : Bool) → k < words.count
    → set ≡ set_of (λ j. is_ending (keyword_at (folded_keywords list) j) (run (flag_of list) list at n)) k
    → holds ≡ is_ending (run words.flag list (get_or words.start k 0) (get_or words.len k 0)) (run words.flag list at n)
    → next ≡ cond holds 1 0 * 2 ^ k + set
    → next ≡ set_of (λ j. is_ending (keyword_at (folded_keywords list) j) (run (flag_of list) list at n)) (k + 1)
turn list words at n r k set next holds h e q m =
    let yes : holds ≡ is_ending (keyword_at (folded_keywords list) k) (run (flag_of list) list at n) =
    q ∙ rw (word-is list words r k h) (ap (λ (f : ℕ). is_ending (keyword_at (folded_keywords list) k) (run f list at n)) (words-flag list words r)) in
    rw (add-one, ← yes, ← e) m

pub offset_bounds-words-k : goal.offset_bounds-words-k
offset_bounds-words-k c = omega (arith, words-few _ _ c.requires.0)

pub bounds-words-k : goal.bounds-words-k
bounds-words-k c = omega (arith, words-few _ _ c.requires.0)

pub offset_bounds-words-k-in-loop-k : goal.offset_bounds-words-k-in-loop-k
offset_bounds-words-k-in-loop-k c = omega (arith, words-few _ _ c.requires.0)

pub bounds-words-k-in-loop-k : goal.bounds-words-k-in-loop-k
bounds-words-k-in-loop-k c = omega (arith, words-few _ _ c.requires.0)

pub ends_with-holds-requires : goal.ends_with-holds-requires
ends_with-holds-requires c = (word_room _ _ c.requires.0 _ c.loop-k-test.true, c.requires.1)

pub with_bit-set-requires : goal.with_bit-set-requires
with_bit-set-requires c = (omega (arith, words-few _ _ c.requires.0), rw c.loop-k.invariant (set-lt _ _))

pub loop-k-preserved : goal.loop-k-preserved
loop-k-preserved c =
    turn _ _ _ _ c.requires.0 _ _ _ _ c.loop-k-test.true c.loop-k.invariant c.ends_with-holds.ensures c.with_bit-set.ensures

pub returns : goal.returns
unfolding ending_set
returns c =
    let q : c.loop-k.k ≡ length (folded_keywords c.args.list.now) = omega (arith, words-all _ _ c.requires.0) in
    c.loop-k.invariant ∙ ap (set_of _) q
