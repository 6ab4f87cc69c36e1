-- The arrays that `automaton_table::build` fills are what the walks ask for. Assumes nothing.
use mathlib.Core.Path.{◌≡◌, sym, ap, ap₂, ◌∙◌}
use mathlib.Core.List.{List}
use Prim.Native.Nat.{ℕ, ◌+◌, ◌*◌, ◌/◌, ◌%◌, ◌≤◌, ◌<◌}
use native.Mathlib.Nat.{zero-add}
use native.Mathlib.Omega.{arith}
use lib.ListN.{length, get_or}
use Rattle.spec.specs.Bytes.{splice, written}
use Rattle.spec.specs.Join.{keyword_at}
use Rattle.spec.specs.Keywords.{flag_of, folded_keywords}
use Rattle.spec.proofs.KeywordLaws.{accepted, folded-count}
use Rattle.spec.proofs.Splices.{length-splice}
use Rattle.spec.proofs.Tabulated.{tabulated, length-tabulated, tabulated-at}
use Rattle.keywords.specs.declared.Keywords.{Keywords}
use Rattle.keywords.specs.Parsed.{Reads}
use Rattle.trie.specs.Endings.{prefix_at}
use Rattle.trie.specs.Numbers.{node_count, node_number, node_at}
use Rattle.trie.proofs.Numbering.{accepted-count, number-below, node-of-number}
use Rattle.automaton.specs.Automaton.{ending_set, sets_of, prefixes_of, cell_of, table_of}
use Rattle.automaton.specs.Walking.{Row, Rows}
use Rattle.automaton_table.proofs.Table.{splice-inside}
use Rattle.logs.specs.Log.{Tabled}
use Rattle.chunkwalk.specs.Marks.{Equipped}

-- an array whose first n elements were filled
module _ (f : ℕ → ℕ) (n : ℕ) (l l₁ : List ℕ) (room : n ≤ length l) (e : l₁ ≡ written l (tabulated f 0 n)) where
  filled_at : (i : ℕ) → i < n → get_or l₁ i 0 ≡ f i
  filled_at i h =
      let m : length (tabulated f 0 n) ≡ n = length-tabulated f 0 n in
      ap (λ (x : List ℕ). get_or x i 0) e
      ∙ ap (λ (j : ℕ). get_or (splice l 0 (tabulated f 0 n)) j 0) (sym (zero-add i))
      ∙ splice-inside l 0 (tabulated f 0 n) (omega arith) i (omega arith)
      ∙ tabulated-at f 0 n i 0 h
      ∙ ap f (zero-add i)

  filled-length : length l₁ ≡ length l
  filled-length = ap length e ∙ length-splice l 0 (tabulated f 0 n) (omega (arith, length-tabulated f 0 n))

module _ (list : List ℕ) (words : Keywords) (r : Reads list words) where
  abbrev keywords : List (List ℕ)
  keywords = folded_keywords list

  nodes-few : node_count keywords ≤ 513
  nodes-few = accepted-count list (accepted list r.accepted)

  cell : ℕ → ℕ
  cell i = cell_of (flag_of list) keywords (i / 256) (i % 256)

  built-rows : (l table : List ℕ) → 131328 ≤ length l → table ≡ written l (table_of (flag_of list) keywords) → Rows list table 33
  unfolding table_of cell
  built-rows l table h e = record { accepted = r.accepted; rows = λ s i _. row s i }
    where
      room : node_count keywords * 256 ≤ length l
      room = omega (arith, nodes-few)

      row : (s : ℕ) → s < node_count keywords → Row list table s
      row s i = record {
        inside = i;
        room = omega (arith, room, filled-length cell (node_count keywords * 256) l table room e);
        cells = λ b k.
            let p : (s * 256 + b) / 256 ≡ s = omega arith in
            let q : (s * 256 + b) % 256 ≡ b = omega arith in
            filled_at cell (node_count keywords * 256) l table room e (s * 256 + b) (omega arith)
            ∙ ap₂ {C = ℕ} (λ x y. cell_of (flag_of list) keywords x y) p q;
      }

  prefix : ℕ → ℕ
  prefix i = prefix_at (keyword_at keywords (i % 16)) (node_at keywords (i / 16))

  built-tables : (l ends m tails : List ℕ) → 513 ≤ length l → 8208 ≤ length m → ends ≡ written l (sets_of keywords) → tails ≡ written m (prefixes_of keywords)
      → Tabled keywords ends tails
  unfolding sets_of prefixes_of prefix
  built-tables l ends m tails h k e f =
      let sets : ℕ → ℕ = λ s. ending_set keywords (node_at keywords s) in
      let room : node_count keywords ≤ length l = omega (arith, nodes-few) in
      let space : node_count keywords * 16 ≤ length m = omega (arith, nodes-few) in
      record {
        wide = omega (arith, filled-length sets (node_count keywords) l ends room e);
        long = omega (arith, filled-length prefix (node_count keywords * 16) m tails space f);
        set = λ u n. filled_at sets (node_count keywords) l ends room e (node_number keywords u) (number-below keywords u n)
            ∙ ap (ending_set keywords) (node-of-number keywords u n);
        tail = λ u j n x.
            let b : node_number keywords u < node_count keywords = number-below keywords u n in
            let y : j < 16 = omega (arith, folded-count list, (accepted list r.accepted).count, (accepted list r.accepted).most) in
            let p : (node_number keywords u * 16 + j) % 16 ≡ j = omega arith in
            let q : (node_number keywords u * 16 + j) / 16 ≡ node_number keywords u = omega arith in
            filled_at prefix (node_count keywords * 16) m tails space f (node_number keywords u * 16 + j) (omega arith)
            ∙ ap₂ {C = ℕ} (λ a c. prefix_at (keyword_at keywords a) (node_at keywords c)) p q
            ∙ ap (prefix_at (keyword_at keywords j)) (node-of-number keywords u n);
      }

  pub equip : (l table m ends o tails log run1 run2 run3 : List ℕ) → 131328 ≤ length l → 513 ≤ length m → 8208 ≤ length o
      → table ≡ written l (table_of (flag_of list) keywords) → ends ≡ written m (sets_of keywords) → tails ≡ written o (prefixes_of keywords)
      → 65536 ≤ length log → 16384 ≤ length run1 → 16384 ≤ length run2 → 16384 ≤ length run3
      → Equipped list words table ends tails log run1 run2 run3
  equip l table m ends o tails log run1 run2 run3 h i j e f g k k1 k2 k3 = record {
    reads = r;
    rows = built-rows l table h e;
    tabled = built-tables m ends o tails i j f g;
    room = k;
    room1 = k1;
    room2 = k2;
    room3 = k3;
  }
