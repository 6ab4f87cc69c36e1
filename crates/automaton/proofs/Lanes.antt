-- The walk before byte i, by what is left of it: from the cell's node, the rest of the text leads to the whole walk's node, takes the moves that are
-- left, and logs what is left to log. Assumes nothing.
use mathlib.Core.Path.{◌≡◌, refl, sym, ap, ◌∙◌}
use mathlib.Core.Bool.{Bool, true, false}
use mathlib.Core.List.{List, [], ◌++◌}
use Prim.Native.Nat.{ℕ, suc, ◌+◌, ◌*◌, ◌/◌, ◌%◌, ◌≤◌, ◌<◌}
use native.Mathlib.Nat.{le_refl, add-zero}
use native.Mathlib.Numerals.{add-one}
use native.Mathlib.Omega.{arith}
use lib.ListN.{length, drop, get_or, length-append, drop_of_length-le}
use lib.Seq.{drop-cons}
use lib.Dec.{eqb}
use Rattle.spec.specs.Bytes.{splice, written, keep}
use Rattle.spec.specs.Keywords.{flag_of, folded, folded_keywords}
use Rattle.spec.proofs.Folding.{folded-get, folded-length}
use Rattle.spec.proofs.Splices.{splice-nil, splice-splice, length-splice}
use Rattle.spec.specs.Trie.{is_node, step, node_from, moves_from, node_after}
use Rattle.trie.specs.Numbers.{node_count, node_number, node_at}
use Rattle.trie.proofs.Nodes.{node-length}
use Rattle.trie.proofs.Steps.{step-moves, step-moves-least}
use Rattle.trie.proofs.Numbering.{number-below, number-is-node, number-of-node, root-number}
use Rattle.automaton.specs.Automaton.{packed, cell_of, logged, log_from}
use Rattle.automaton.specs.Walking.{number_in, entry_of, Rows, CanStep, CanWalk, walked_of, walk_log}
use Rattle.automaton.proofs.Cells.{Unpacked, Small, small, unpacked}

pub record Lane (keywords : List (List ℕ)) (u : List ℕ) (at : ℕ) (text log₀ : List ℕ) (cell moves k i : ℕ) (log : List ℕ) : Type 0 where
  pub within : i ≤ length text
  pub even : cell % 256 ≡ 0
  pub inside : number_in cell < node_count keywords
  pub few : k ≤ i
  pub small : moves ≤ 34 * i
  pub wide : length log ≡ length log₀
  pub node : node_from keywords (node_at keywords (number_in cell)) (drop i text) ≡ node_from keywords u text
  pub count : moves + moves_from keywords (node_at keywords (number_in cell)) (drop i text) ≡ moves_from keywords u text
  pub sum : k + length (log_from keywords (node_at keywords (number_in cell)) (at + i) (drop i text)) ≡ length (log_from keywords u at text)
  pub entries : splice log k (log_from keywords (node_at keywords (number_in cell)) (at + i) (drop i text)) ≡ splice log₀ 0 (log_from keywords u at text)

-- The node alone, from the root: it has no more bytes than were read.
pub record Reached (keywords : List (List ℕ)) (text : List ℕ) (cell i : ℕ) : Type 0 where
  pub within : i ≤ length text
  pub even : cell % 256 ≡ 0
  pub inside : number_in cell < node_count keywords
  pub short : length (node_at keywords (number_in cell)) ≤ i
  pub node : node_from keywords (node_at keywords (number_in cell)) (drop i text) ≡ node_after keywords text

-- nothing is left
pub record Ended (keywords : List (List ℕ)) (u : List ℕ) (at : ℕ) (text log₀ : List ℕ) (cell moves k : ℕ) (log : List ℕ) : Type 0 where
  pub node : number_in cell ≡ node_number keywords (node_from keywords u text)
  pub spent : moves ≡ moves_from keywords u text
  pub sum : k ≡ length (log_from keywords u at text)
  pub entries : log ≡ splice log₀ 0 (log_from keywords u at text)

-- ---- the cell of a node itself

pub number-start : (n : ℕ) → n ≤ 512 → number_in (n * 256) ≡ n
number-start n h = omega arith

pub keep-most : (b : Bool) (x : ℕ) → length (keep b x) ≤ 1
keep-most true x = le_refl 1
keep-most false x = omega arith

pub entry-most : (cell at : ℕ) → length (entry_of cell at) ≤ 1
unfolding entry_of
entry-most cell at = keep-most (eqb (cell / 262144 % 2) 1) (cell % 262144 * 4096 + at)

module _ (keywords : List (List ℕ)) (s : Small keywords) where
  pub lane-start : (n at : ℕ) (text log : List ℕ) → n < node_count keywords → Lane keywords (node_at keywords n) at text log (n * 256) 0 0 0 log
  lane-start n at text log h =
      let e : number_in (n * 256) ≡ n = number-start n (omega (arith, s.count)) in
      record {
        within = omega arith;
        even = omega arith;
        inside = omega (arith, e);
        few = omega arith;
        small = omega arith;
        wide = refl;
        node = rw e;
        count = rw e (omega arith);
        sum = rw (e, add-zero) (omega arith);
        entries = rw (e, add-zero);
      }

  -- what a byte leaves, before and after it
  module _ (v : List ℕ) (at i : ℕ) (text : List ℕ) (h : i < length text) where
    abbrev next : List ℕ
    next = (step keywords v (get_or text i 0)).node

    node-on : node_from keywords v (drop i text) ≡ node_from keywords next (drop (i + 1) text)
    unfolding node_from
    node-on = rw (add-one, drop-cons text i 0 h)

    moves-on : moves_from keywords v (drop i text) ≡ (step keywords v (get_or text i 0)).moves + moves_from keywords next (drop (i + 1) text)
    unfolding moves_from
    moves-on = rw (add-one, drop-cons text i 0 h)

    log-on : log_from keywords v (at + i) (drop i text)
        ≡ logged keywords (step keywords v (get_or text i 0)) (at + i) ++ log_from keywords next (at + (i + 1)) (drop (i + 1) text)
    unfolding log_from
    log-on = let e : at + suc i ≡ suc (at + i) = omega arith in rw (add-one, drop-cons text i 0 h, e)

  -- a turn
  pub lane-on : (u : List ℕ) (at : ℕ) (text log₀ : List ℕ) (cell moves k i : ℕ) (log : List ℕ)
      → Lane keywords u at text log₀ cell moves k i log → i < length text → length text ≤ length log₀
      → (cell' moves' k' : ℕ) (log' : List ℕ)
      → cell' ≡ packed keywords (step keywords (node_at keywords (number_in cell)) (get_or text i 0))
      → moves' ≡ moves + cell' / 16777216
      → k' ≡ k + length (entry_of cell' (at + i))
      → log' ≡ splice log k (entry_of cell' (at + i))
      → Lane keywords u at text log₀ cell' moves' k' (i + 1) log'
  lane-on u at text log₀ cell moves k i log l h room cell' moves' k' log' e m q w =
      let v = node_at keywords (number_in cell) in
      let st = step keywords v (get_or text i 0) in
      let x : Unpacked keywords st cell' = rw e (unpacked keywords s v (get_or text i 0) (number-is-node keywords (number_in cell) l.inside)) in
      let entry = entry_of cell' (at + i) in
      let rest = log_from keywords st.node (at + (i + 1)) (drop (i + 1) text) in
      let on : entry ++ rest ≡ log_from keywords v (at + i) (drop i text) =
      ap (λ (y : List ℕ). y ++ rest) (x.logs (at + i)) ∙ sym (log-on v at i text h) in
      let one : length entry ≤ 1 = entry-most cell' (at + i) in
      let long : length entry + length rest ≡ length (log_from keywords v (at + i) (drop i text)) = sym (length-append entry rest) ∙ ap length on in
      record {
        within = omega arith;
        even = x.even;
        inside = x.inside;
        few = omega (arith, l.few);
        small = omega (arith, l.small, x.moves, x.few);
        wide = ap length w ∙ length-splice log k entry (omega (arith, l.few, l.wide)) ∙ l.wide;
        node = rw x.node (sym (node-on v at i text h) ∙ l.node);
        count = rw x.node (omega (arith, l.count, moves-on v at i text h, x.moves));
        sum = rw x.node (omega (arith, l.sum, long));
        entries = rw x.node (rw (w, q) (splice-splice log k entry rest (omega (arith, l.few, l.wide)) ∙ ap (splice log k) on ∙ l.entries));
      }

  pub lane-end : (u : List ℕ) (at : ℕ) (text log₀ : List ℕ) (cell moves k i : ℕ) (log : List ℕ)
      → Lane keywords u at text log₀ cell moves k i log → length text ≤ i → Ended keywords u at text log₀ cell moves k log
  unfolding node_from moves_from log_from
  lane-end u at text log₀ cell moves k i log l h =
      let none : drop i text ≡ [] = drop_of_length-le text h in
      let node : node_at keywords (number_in cell) ≡ node_from keywords u text = rw none at l.node in
      let moves : moves + 0 ≡ moves_from keywords u text = rw none at l.count in
      let sum : k + 0 ≡ length (log_from keywords u at text) = rw none at l.sum in
      record {
        node = sym (number-of-node keywords (number_in cell) l.inside) ∙ ap (node_number keywords) node;
        spent = omega arith;
        sum = omega arith;
        entries = sym (splice-nil log k) ∙ rw none at l.entries;
      }

  -- ---- the node alone

  pub reached-start : (text : List ℕ) → Reached keywords text 0 0
  unfolding is_node
  reached-start text =
      let r = root-number keywords in
      record {
        within = omega arith;
        even = refl;
        inside = omega (arith, number-below keywords [] refl, r.0);
        short = rw r.1 (le_refl 0);
        node = rw r.1;
      }

  pub reached-on : (text : List ℕ) (cell i : ℕ) → Reached keywords text cell i → i < length text → (cell' : ℕ)
      → cell' ≡ packed keywords (step keywords (node_at keywords (number_in cell)) (get_or text i 0)) → Reached keywords text cell' (i + 1)
  reached-on text cell i r h cell' e =
      let v = node_at keywords (number_in cell) in
      let b = get_or text i 0 in
      let is = number-is-node keywords (number_in cell) r.inside in
      let x : Unpacked keywords (step keywords v b) cell' = rw e (unpacked keywords s v b is) in
      record {
        within = omega arith;
        even = x.even;
        inside = x.inside;
        short = rw x.node (omega (arith, r.short, step-moves keywords v b is, step-moves-least keywords v b));
        node = rw x.node (sym (node-on v 0 i text h) ∙ r.node);
      }

  pub reached-end : (text : List ℕ) (cell i : ℕ) → Reached keywords text cell i → length text ≤ i
      → number_in cell ≡ node_number keywords (node_after keywords text)
  unfolding node_from
  reached-end text cell i r h =
      let none : drop i text ≡ [] = drop_of_length-le text h in
      let node : node_at keywords (number_in cell) ≡ node_after keywords text = rw none at r.node in
      sym (number-of-node keywords (number_in cell) r.inside) ∙ ap (node_number keywords) node

-- ---- the table of a list

module _ (list : List ℕ) where
  abbrev words : List (List ℕ)
  words = folded_keywords list

  -- a cell read for a byte of a chunk packs the step for the byte of its text
  pub cell-is : (bytes : List ℕ) (s i cell : ℕ) → i < length bytes → cell ≡ cell_of (flag_of list) words s (get_or bytes i 0)
      → cell ≡ packed words (step words (node_at words s) (get_or (folded (flag_of list) bytes) i 0))
  unfolding cell_of
  cell-is bytes s i cell h e =
      e ∙ ap (λ (b : ℕ). packed words (step words (node_at words s) b)) (sym (folded-get (flag_of list) bytes i h))

  -- no node has more than 32 bytes, so 33 is all rows
  pub can-step : (table : List ℕ) (cell : ℕ) → Rows list table 33 → cell % 256 ≡ 0 → number_in cell < node_count words → CanStep list table cell
  can-step table cell r e h =
      let is = number-is-node words (number_in cell) h in
      record { even = e; row = r.rows (number_in cell) h (omega (arith, node-length words (node_at words (number_in cell)) is, (small list r.accepted).short)) }

  -- the walk before byte i, for a node and bytes of the code
  abbrev pub Running : ℕ → List ℕ → ℕ → List ℕ → ℕ → ℕ → ℕ → ℕ → List ℕ → Type 0
  Running node bytes at log₀ cell moves k i log = Lane words (node_at words node) at (folded (flag_of list) bytes) log₀ cell moves k i log

  module _ (table : List ℕ) (node : ℕ) (bytes : List ℕ) (at : ℕ) (log₀ : List ℕ) (can : CanWalk list table node (length bytes) at (length log₀)) where
    few : Small words
    few = small list can.rows.accepted

    long : length (folded (flag_of list) bytes) ≡ length bytes
    long = folded-length (flag_of list) bytes

    pub node-few : node ≤ 512
    node-few = omega (arith, few.count, can.inside)

    pub running-start : Running node bytes at log₀ (node * 256) 0 0 0 log₀
    running-start = lane-start words few node at (folded (flag_of list) bytes) log₀ can.inside

    module _ (cell moves k i : ℕ) (log : List ℕ) (l : Running node bytes at log₀ cell moves k i log) where
      pub running-step : CanStep list table cell
      running-step = can-step table cell can.rows l.even l.inside

      pub running-on : i < length bytes → (cell' k' : ℕ) (log' : List ℕ)
          → cell' ≡ cell_of (flag_of list) words (number_in cell) (get_or bytes i 0)
          → k' ≡ k + length (entry_of cell' (at + i)) → log' ≡ splice log k (entry_of cell' (at + i))
          → Running node bytes at log₀ cell' (moves + cell' / 16777216) k' (i + 1) log'
      running-on h cell' k' log' e q w =
          lane-on words few (node_at words node) at (folded (flag_of list) bytes) log₀ cell moves k i log l (omega (arith, long)) (omega (arith, long, can.long))
          cell' (moves + cell' / 16777216) k' log' (cell-is bytes (number_in cell) i cell' h e) refl q w

      pub running-end : length bytes ≤ i
          → (record { node = number_in cell; moves = moves; logged = k } ≡ walked_of list node bytes at) × (log ≡ written log₀ (walk_log list node bytes at))
      unfolding walked_of walk_log
      running-end h =
          let e = lane-end words few (node_at words node) at (folded (flag_of list) bytes) log₀ cell moves k i log l (omega (arith, long)) in
          (λ j. record { node = e.node j; moves = e.spent j; logged = e.sum j }, e.entries)
