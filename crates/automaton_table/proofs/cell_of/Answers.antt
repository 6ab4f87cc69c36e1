-- The three cases of a step.
use Rattle.std.proofs.Common.{◌≡◌, ◌≢◌, cond, ltb, List, [], ℕ, ◌+◌, ◌*◌, ◌<◌, sym, ap, ◌∙◌, get_or, arith}
use Rattle.spec.specs.Keywords.{fold_byte, flag_of, folded_keywords}
use Rattle.spec.specs.Trie.{step}
use Rattle.trie.specs.Numbers.{node_count, node_at}
use Rattle.trie.proofs.Numbering.{number-is-node, root-number}
use Rattle.automaton.specs.Automaton.{packed, cell_of}
use Rattle.automaton_table.specs.Building.{child_number, CanFill}
use Rattle.automaton.proofs.Cells.{small, unpacked}
use Rattle.automaton_table.proofs.Rows.{no-child, child-below, to-child, to-root, to-link, some_bytes}
use Rattle.automaton_table.proofs.cell_of.Goals as goal

module _ {list table sets children : List ℕ} {flag s linked : ℕ} (r : CanFill list table sets children flag s linked) (b c : ℕ) (e : c ≡ fold_byte flag b)
    (h : c < 256) where
  born : get_or children c 0 ≡ child_number (folded_keywords list) (node_at (folded_keywords list) s) c
  born = r.born.at c h

  below : get_or children c 0 ≢ 0 → get_or children c 0 < node_count (folded_keywords list)
  below n = child-below (folded_keywords list) (node_at (folded_keywords list) s) c (get_or children c 0) n born

  -- the cell is for the folded byte
  cell-is : cell_of (flag_of list) (folded_keywords list) s b ≡ packed (folded_keywords list) (step (folded_keywords list) (node_at (folded_keywords list) s) c)
  unfolding cell_of
  cell-is = ap (λ (x : ℕ). packed (folded_keywords list) (step (folded_keywords list) (node_at (folded_keywords list) s) x))
      (ap (λ (f : ℕ). fold_byte f b) (sym r.flags) ∙ sym e)

  by-child : (x : ℕ) → get_or children c 0 ≢ 0
      → x ≡ get_or children c 0 * 256 + cond (ltb 0 (get_or sets (get_or children c 0) 0)) 1 0 * 262144 + 16777216
      → x ≡ cell_of (flag_of list) (folded_keywords list) s b
  by-child x n q =
      q ∙ to-child (folded_keywords list) (node_at (folded_keywords list) s) c (get_or children c 0) (get_or sets (get_or children c 0) 0) n born
      (r.known.at (get_or children c 0) (below n)) ∙ sym cell-is

  at-root : (x : ℕ) → get_or children c 0 ≡ 0 → s ≡ 0 → x ≡ 0 * 256 + cond (ltb 0 (get_or sets 0 0)) 1 0 * 262144 + 16777216
      → x ≡ cell_of (flag_of list) (folded_keywords list) s b
  at-root x n z q =
      let u : node_at (folded_keywords list) s ≡ [] = ap (node_at (folded_keywords list)) z ∙ (root-number (folded_keywords list)).1 in
      q ∙ to-root (folded_keywords list) (node_at (folded_keywords list) s) c (get_or sets 0 0) u
      (no-child (folded_keywords list) (node_at (folded_keywords list) s) c (sym n ∙ born))
      (ap (λ (k : ℕ). get_or sets k 0) (sym z) ∙ r.known.at s r.inside) ∙ sym cell-is

  by-link : get_or children c 0 ≡ 0 → s ≢ 0 → b < 256 → get_or table (linked * 256 + b) 0 + 16777216 ≡ cell_of (flag_of list) (folded_keywords list) s b
  unfolding cell_of
  by-link n z l =
      to-link (folded_keywords list) (node_at (folded_keywords list) s) c linked (get_or table (linked * 256 + b) 0)
      (some_bytes (folded_keywords list) s r.inside z) (no-child (folded_keywords list) (node_at (folded_keywords list) s) c (sym n ∙ born)) r.number
      ((r.row z).cells b l
      ∙ ap (λ (x : ℕ). packed (folded_keywords list) (step (folded_keywords list) (node_at (folded_keywords list) linked) x))
      (ap (λ (f : ℕ). fold_byte f b) (sym r.flags) ∙ sym e))
      ∙ sym cell-is

  -- a cell of the table is below 2^30
  link-small : s ≢ 0 → b < 256 → get_or table (linked * 256 + b) 0 < 1073741824
  unfolding cell_of
  link-small z l =
      rw ((r.row z).cells b l)
      (unpacked (folded_keywords list) (small list r.accepted) (node_at (folded_keywords list) linked) (fold_byte (flag_of list) b)
      (number-is-node (folded_keywords list) linked (r.row z).inside)).small

pub bounds-sets-t : goal.bounds-sets-t
bounds-sets-t c = omega (arith, below c.requires _ _ (c.from-c.ensures ∙ c.fold.ensures) (omega arith) c.if-t-ne0.true)

pub pack-requires : goal.pack-requires
pack-requires c =
    omega (arith, below c.requires _ _ (c.from-c.ensures ∙ c.fold.ensures) (omega arith) c.if-t-ne0.true, (small c.args.list.now c.requires.accepted).count)

pub returns-then-t-ne0 : goal.returns-then-t-ne0
returns-then-t-ne0 c = by-child c.requires _ _ (c.from-c.ensures ∙ c.fold.ensures) (omega arith) _ c.if-t-ne0.true c.pack.ensures

pub returns-then-s-eq0 : goal.returns-then-s-eq0
returns-then-s-eq0 c =
    at-root c.requires _ _ (c.from-c.ensures ∙ c.fold.ensures) (omega arith) _ c.if-t-ne0.false c.if-s-eq0.true c.pack-then-s-eq0.ensures

pub overflow_add-result-else-s-eq0 : goal.overflow_add-result-else-s-eq0
overflow_add-result-else-s-eq0 c =
    rw c.from.ensures (omega (arith, link-small c.requires _ _ (c.from-c.ensures ∙ c.fold.ensures) (omega arith) c.if-s-eq0.false (omega arith)))

pub returns-else-s-eq0 : goal.returns-else-s-eq0
returns-else-s-eq0 c =
    rw c.from.ensures (by-link c.requires _ _ (c.from-c.ensures ∙ c.fold.ensures) (omega arith) c.if-t-ne0.false c.if-s-eq0.false (omega arith))
