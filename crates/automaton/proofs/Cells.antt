-- What a cell says is what the step says that it packs: the numbers are small enough to stand side by side. Assumes nothing.
use mathlib.Core.Path.{◌≡◌, refl, ap, ◌∙◌}
use mathlib.Core.Bool.{Bool, true, false, cond}
use mathlib.Core.List.{List}
use Prim.Native.Nat.{ℕ, ◌+◌, ◌*◌, ◌/◌, ◌%◌, ◌≤◌, ◌<◌}
use native.Mathlib.Omega.{arith}
use lib.Dec.{eqb}
use Rattle.spec.specs.Bytes.{keep}
use Rattle.spec.specs.Keywords.{folded_keywords, longest, keyword_front_code}
use Rattle.spec.proofs.KeywordLaws.{accepted}
use Rattle.spec.specs.Trie.{is_node, Step, step}
use Rattle.trie.specs.Numbers.{node_count, node_number, node_at}
use Rattle.trie.proofs.Nodes.{node-length}
use Rattle.trie.proofs.Steps.{step-is-node, step-moves}
use Rattle.trie.proofs.Numbering.{number-below, node-of-number, accepted-short, accepted-count}
use Rattle.automaton.specs.Automaton.{accepts, packed, logged}
use Rattle.automaton.specs.Walking.{number_in, entry_of}

-- ---- three numbers in one

record Parts (n : ℕ) (a : Bool) (m c : ℕ) : Type 0 where
  even : c % 256 ≡ 0
  low : c % 262144 ≡ n * 256
  bit : c / 262144 % 2 ≡ cond a 1 0
  high : c / 16777216 ≡ m
  small : c < 1073741824

parts : (n : ℕ) (a : Bool) (m : ℕ) → n ≤ 512 → m ≤ 34 → Parts n a m (n * 256 + cond a 1 0 * 262144 + m * 16777216)
parts n true m h l = record { even = omega arith; low = omega arith; bit = omega arith; high = omega arith; small = omega arith }
parts n false m h l = record { even = omega arith; low = omega arith; bit = omega arith; high = omega arith; small = omega arith }

bit_is : (a : Bool) → eqb (cond a 1 0) 1 ≡ a
bit_is true = refl
bit_is false = refl

-- ---- a step and its cell

pub record Unpacked (keywords : List (List ℕ)) (s : Step) (cell : ℕ) : Type 0 where
  pub even : cell % 256 ≡ 0
  pub number : number_in cell ≡ node_number keywords s.node
  pub node : node_at keywords (number_in cell) ≡ s.node
  pub inside : number_in cell < node_count keywords
  pub moves : cell / 16777216 ≡ s.moves
  pub few : s.moves ≤ 34
  pub small : cell < 1073741824
  pub logs : (at : ℕ) → entry_of cell at ≡ logged keywords s at

-- the keywords of an accepted list
pub record Small (keywords : List (List ℕ)) : Type 0 where
  pub count : node_count keywords ≤ 513
  pub short : longest keywords ≤ 32

pub small : (list : List ℕ) → keyword_front_code list ≡ 0 → Small (folded_keywords list)
small list e = record { count = accepted-count list (accepted list e); short = accepted-short list (accepted list e) }

module _ (keywords : List (List ℕ)) (s : Small keywords) where
  pub unpacked : (u : List ℕ) (b : ℕ) → is_node keywords u ≡ true → Unpacked keywords (step keywords u b) (packed keywords (step keywords u b))
  unfolding packed logged entry_of
  unpacked u b e =
      let v = (step keywords u b).node in
      let is = step-is-node keywords u b e in
      let below = number-below keywords v is in
      let moves = step-moves keywords u b e in
      let long = node-length keywords u e in
      let p = parts (node_number keywords v) (accepts keywords v) (step keywords u b).moves (omega (arith, s.count)) (omega (arith, s.short)) in
      let q : number_in (packed keywords (step keywords u b)) ≡ node_number keywords v = omega (arith, p.low) in
      record {
        even = p.even;
        number = q;
        node = ap (node_at keywords) q ∙ node-of-number keywords v is;
        inside = omega (arith, q, below);
        moves = p.high;
        few = omega (arith, s.short);
        small = p.small;
        logs = λ at. rw (p.bit, bit_is (accepts keywords v), p.low) (ap (λ (n : ℕ). keep (accepts keywords v) (n + at)) (omega arith));
      }
