-- The table row by row: a row written in its place leaves the others, and rows of all nodes are the whole table. Assumes nothing.
use mathlib.Core.Path.{◌≡◌, refl, sym, ap, ◌∙◌}
use mathlib.Core.Logic.{◌≢◌, ◌⊎◌, inl, inr}
use mathlib.Core.Bool.{true, false, cond}
use mathlib.Core.List.{List, [], ◌∷◌, ◌++◌}
use Prim.Native.Nat.{ℕ, ◌+◌, ◌-◌, ◌*◌, ◌/◌, ◌%◌, ◌≤◌, ◌<◌}
use native.Mathlib.Nat.{zero-add}
use native.Mathlib.Omega.{arith}
use borrow.Author.Tests.{eqb-true, eqb-false}
use lib.Dec.{eqb}
use lib.ListN.{length, take, drop, get_or, length-append, get_or-append}
use lib.Seq.{length-take-le, get_or-take, get_or-drop, get_or-append-add, ext_get_or}
use Rattle.spec.specs.Bytes.{splice, written}
use Rattle.spec.specs.Keywords.{flag_of, folded_keywords, keyword_front_code}
use Rattle.spec.proofs.Tests.{le-or-lt, bool_cases}
use Rattle.spec.proofs.Splices.{length-splice}
use Rattle.spec.proofs.Tabulated.{tabulated, length-tabulated, tabulated-at}
use Rattle.spec.specs.Join.{keyword_at}
use Rattle.keywords.specs.declared.Keywords.{Keywords}
use Rattle.spec.specs.Trie.{is_node, link}
use Rattle.trie.specs.Endings.{prefix_at}
use Rattle.trie.specs.Numbers.{node_count, node_number, node_at}
use Rattle.trie.proofs.Nodes.{node-length, link-node}
use Rattle.trie.proofs.Numbering.{number-below, node-of-number, number-is-node}
use Rattle.automaton.specs.Automaton.{ending_set, sets_of, prefixes_of, cell_of, table_of}
use Rattle.automaton.specs.Walking.{Row, Rows}
use Rattle.automaton_table.specs.Building.{run, row_of, Children, Sets, CanFill, CanBuild, Built}
use Rattle.automaton.proofs.Cells.{small}
use Rattle.automaton_table.proofs.Words.{words-flag, numbered-count, numbered-at, numbered-length}
use Rattle.automaton_table.proofs.Rows.{some_bytes}

-- ---- reading a buffer that was written to

module _ (l : List ℕ) (at : ℕ) (v : List ℕ) (room : at + length v ≤ length l) where
  front : length (take at l ++ v) ≡ at + length v
  front = length-append (take at l) v ∙ ap (λ (k : ℕ). k + length v) (length-take-le at l (omega arith))

  pub splice-before : (i : ℕ) → i < at → get_or (splice l at v) i 0 ≡ get_or l i 0
  unfolding splice
  splice-before i h =
      get_or-append (take at l ++ v) (drop (at + length v) l) 0 i (omega (arith, front))
      ∙ get_or-append (take at l) v 0 i (omega (arith, length-take-le at l (omega arith)))
      ∙ get_or-take at l i 0 h

  pub splice-inside : (k : ℕ) → k < length v → get_or (splice l at v) (at + k) 0 ≡ get_or v k 0
  unfolding splice
  splice-inside k h =
      get_or-append (take at l ++ v) (drop (at + length v) l) 0 (at + k) (omega (arith, front))
      ∙ ap (λ (m : ℕ). get_or (take at l ++ v) (m + k) 0) (sym (length-take-le at l (omega arith)))
      ∙ get_or-append-add (take at l) v k 0

  pub splice-behind : (i : ℕ) → at + length v ≤ i → get_or (splice l at v) i 0 ≡ get_or l i 0
  unfolding splice
  splice-behind i h =
      let e : i ≡ length (take at l ++ v) + (i - (at + length v)) = omega (arith, front) in
      let f : at + length v + (i - (at + length v)) ≡ i = omega arith in
      ap (λ (m : ℕ). get_or (take at l ++ v ++ drop (at + length v) l) m 0) e
      ∙ get_or-append-add (take at l ++ v) (drop (at + length v) l) (i - (at + length v)) 0
      ∙ get_or-drop (at + length v) l (i - (at + length v)) 0
      ∙ ap (λ (m : ℕ). get_or l m 0) f

-- ---- one row

pub row-length : (flag : ℕ) (keywords : List (List ℕ)) (s : ℕ) → length (row_of flag keywords s) ≡ 256
unfolding row_of
row-length flag keywords s = length-tabulated (cell_of flag keywords s) 0 256

row_at : (flag : ℕ) (keywords : List (List ℕ)) (s b : ℕ) → b < 256 → get_or (row_of flag keywords s) b 0 ≡ cell_of flag keywords s b
unfolding row_of
row_at flag keywords s b h = tabulated-at (cell_of flag keywords s) 0 256 b 0 h ∙ rw zero-add

module _ (list table : List ℕ) (s : ℕ) (room : s * 256 + 256 ≤ length table) where
  abbrev row : List ℕ
  row = row_of (flag_of list) (folded_keywords list) s

  long : length row ≡ 256
  long = row-length (flag_of list) (folded_keywords list) s

  fits : s * 256 + length row ≤ length table
  fits = omega (arith, long)

  pub wide : length (splice table (s * 256) row) ≡ length table
  wide = length-splice table (s * 256) row fits

  pub row_new : s < node_count (folded_keywords list) → Row list (splice table (s * 256) row) s
  row_new h =
      record {
        inside = h;
        room = omega (arith, wide);
        cells = λ b l. splice-inside table (s * 256) row fits b (omega (arith, long)) ∙ row_at (flag_of list) (folded_keywords list) s b l;
      }

  pub row_kept : (t : ℕ) → t ≢ s → Row list table t → Row list (splice table (s * 256) row) t
  row_kept t n r =
      record {
        inside = r.inside;
        room = omega (arith, wide, r.room);
        cells = λ b l. go b l (le-or-lt (s * 256) (t * 256 + b)) ∙ r.cells b l;
      }
    where
      go : (b : ℕ) → b < 256 → (s * 256 ≤ t * 256 + b) ⊎ (t * 256 + b < s * 256) → get_or (splice table (s * 256) row) (t * 256 + b) 0 ≡ get_or table
          (t * 256 + b) 0
      go b l (inl h) = splice-behind table (s * 256) row fits (t * 256 + b) (omega (arith, long, n))
      go b l (inr h) = splice-before table (s * 256) row fits (t * 256 + b) h

-- ---- the sets, once they are written

pub sets-known : (keywords : List (List ℕ)) (before sets : List ℕ) → node_count keywords ≤ length before → sets ≡ written before (sets_of keywords)
    → Sets keywords sets
unfolding sets_of
sets-known keywords before sets room e =
    let f : ℕ → ℕ = λ s. ending_set keywords (node_at keywords s) in
    let v : List ℕ = tabulated f 0 (node_count keywords) in
    let long : length v ≡ node_count keywords = length-tabulated f 0 (node_count keywords) in
    let fit : 0 + length v ≤ length before = omega (arith, long) in
    rw e (record {
      wide = omega (arith, length-splice before 0 v fit);
      at = λ s h. ap (λ (k : ℕ). get_or (written before v) k 0) (sym (zero-add s)) ∙ splice-inside before 0 v fit s (omega (arith, long))
          ∙ tabulated-at f 0 (node_count keywords) s 0 h ∙ rw zero-add;
    })

-- ---- what filling a row asks

module _ (list : List ℕ) (words : Keywords) (starts lens : List ℕ) (count : ℕ) (sets table : List ℕ)
    (can : CanBuild list words starts lens count sets table) where
  keywords : List (List ℕ)
  keywords = folded_keywords list

  counted : count ≡ node_count (folded_keywords list)
  counted = numbered-count list starts lens count can.ready.numbered

  node-is : (s d : ℕ) → s < count → get_or lens s 0 ≡ d → run (flag_of list) list (get_or starts s 0) d ≡ node_at (folded_keywords list) s
  node-is s d h e = ap (run (flag_of list) list (get_or starts s 0)) (sym e) ∙ numbered-at list starts lens count can.ready.numbered s h

  link-short : (u : List ℕ) → u ≢ [] → (is_node (folded_keywords list) (link (folded_keywords list) u) ≡ true) × (length (link (folded_keywords list) u) < length u)
  link-short [] n = absurd (n refl)
  link-short (a ∷ u) n = let l = link-node (folded_keywords list) a u in (l.0, l.2)

  pub can-fill : (s d linked : ℕ) (children : List ℕ) → s < count → get_or lens s 0 ≡ d → Rows list table d
      → linked ≡ node_number (folded_keywords list) (link (folded_keywords list) (run (flag_of list) list (get_or starts s 0) d))
      → Children (folded_keywords list) s children → CanFill list table sets children words.flag s linked
  can-fill s d linked children h e r q c =
      let u = node_at (folded_keywords list) s in
      let q' : linked ≡ node_number (folded_keywords list) (link (folded_keywords list) u) =
      q ∙ ap (λ (v : List ℕ). node_number (folded_keywords list) (link (folded_keywords list) v)) (node-is s d h e) in
      let inside : s < node_count (folded_keywords list) = omega (arith, counted) in
      record {
        accepted = r.accepted;
        flags = words-flag list words can.ready.reads;
        inside = inside;
        known = can.known;
        born = c;
        number = q';
        row = λ z.
            let l = link-short u (some_bytes (folded_keywords list) s inside z) in
            let at : node_at (folded_keywords list) linked ≡ link (folded_keywords list) u = ap (node_at (folded_keywords list)) q'
            ∙ node-of-number (folded_keywords list) (link (folded_keywords list) u) l.0 in
            r.rows linked (omega (arith, q', number-below (folded_keywords list) (link (folded_keywords list) u) l.0))
            (omega (arith, l.1, ap length at, numbered-length list starts lens count can.ready.numbered s h));
      }

-- ---- rows of all nodes

module _ (list : List ℕ) (front : keyword_front_code list ≡ 0) where
  few : node_count (folded_keywords list) ≤ 513
  few = (small list front).count

  pub built-rows : (before table : List ℕ) (d s : ℕ) → Built list before table d s → Rows list table d
  built-rows before table d s b =
      record {
        accepted = front;
        rows = λ t h l. b.rows t h (omega (arith, few));
      }

  pub built-on : (before table table' : List ℕ) (d s n : ℕ) → Built list before table d s → s < node_count (folded_keywords list)
      → node_count (folded_keywords list) * 256 ≤ length table → n ≡ length (node_at (folded_keywords list) s)
      → table' ≡ cond (eqb n d) (splice table (s * 256) (row_of (flag_of list) (folded_keywords list) s)) table → Built list before table' d (s + 1)
  built-on before table table' d s n b h room e w = go (bool_cases (eqb n d)) w
    where
      inside : s * 256 + 256 ≤ length table
      inside = omega arith

      new : List ℕ
      new = splice table (s * 256) (row_of (flag_of list) (folded_keywords list) s)

      rows : (t : ℕ) → t < node_count (folded_keywords list) → length (node_at (folded_keywords list) t) * 513 + t < d * 513 + (s + 1)
          → (eqb t s ≡ true) ⊎ (eqb t s ≡ false) → Row list new t
      rows t k l (inl q) = let z : t ≡ s = eqb-true t s q in rw z (row_new list table s inside h)
      rows t k l (inr q) = let z : t ≢ s = eqb-false t s q in row_kept list table s inside t z (b.rows t k (omega (arith, z, few)))

      go : (eqb n d ≡ true) ⊎ (eqb n d ≡ false) → table' ≡ cond (eqb n d) new table → Built list before table' d (s + 1)
      go (inl q) w =
          let w' : table' ≡ new = rw q at w in
          rw w' (record {
            wide = wide list table s inside ∙ b.wide;
            rows = λ t k l. rows t k l (bool_cases (eqb t s));
            rest = λ i k. splice-behind table (s * 256) (row_of (flag_of list) (folded_keywords list) s) (fits list table s inside) i
                (omega (arith, row-length (flag_of list) (folded_keywords list) s)) ∙ b.rest i k;
          })
      go (inr q) w =
          let w' : table' ≡ table = rw q at w in
          let z : n ≢ d = eqb-false n d q in
          rw w' (record {
            wide = b.wide;
            rows = λ t k l. other t k l (bool_cases (eqb t s)) z;
            rest = b.rest;
          })
        where
          other : (t : ℕ) → t < node_count (folded_keywords list) → length (node_at (folded_keywords list) t) * 513 + t < d * 513 + (s + 1)
              → (eqb t s ≡ true) ⊎ (eqb t s ≡ false) → n ≢ d → Row list table t
          other t k l (inl y) z =
              let x : t ≡ s = eqb-true t s y in
              let m : length (node_at (folded_keywords list) t) ≡ n = ap (λ (j : ℕ). length (node_at (folded_keywords list) j)) x ∙ sym e in
              b.rows t k (omega (arith, z, few))
          other t k l (inr y) z = let x : t ≢ s = eqb-false t s y in b.rows t k (omega (arith, x, few))

  -- one depth after the other
  pub built-depth : (before table table' : List ℕ) (d : ℕ) → Built list before table d 0 → Built list table table' d (node_count (folded_keywords list))
      → Built list before table' (d + 1) 0
  built-depth before table table' d a b =
      record {
        wide = b.wide ∙ a.wide;
        rows = λ t h l. b.rows t h (omega (arith, few));
        rest = λ i h. b.rest i h ∙ a.rest i h;
      }

  -- all depths
  pub built-end : (before table : List ℕ) → Built list before table 33 0 → node_count (folded_keywords list) * 256 ≤ length before
      → table ≡ written before (table_of (flag_of list) (folded_keywords list))
  unfolding table_of
  built-end before table b room = ext_get_or 0 table (written before cells) (b.wide ∙ sym (length-splice before 0 cells rooms)) (λ i h. go i (le-or-lt count i))
    where
      count : ℕ
      count = node_count (folded_keywords list) * 256

      cell : ℕ → ℕ
      cell i = cell_of (flag_of list) (folded_keywords list) (i / 256) (i % 256)

      cells : List ℕ
      cells = tabulated cell 0 count

      long : length cells ≡ count
      long = length-tabulated cell 0 count

      rooms : 0 + length cells ≤ length before
      rooms = omega (arith, long)

      go : (i : ℕ) → (count ≤ i) ⊎ (i < count) → get_or table i 0 ≡ get_or (written before cells) i 0
      go i (inl h) = b.rest i h ∙ sym (splice-behind before 0 cells rooms i (omega (arith, long)))
      go i (inr h) =
          let s : i / 256 < node_count (folded_keywords list) = omega arith in
          let is = number-is-node (folded_keywords list) (i / 256) s in
          let r = b.rows (i / 256) s (omega (
            arith,
            few,
            node-length (folded_keywords list) (node_at (folded_keywords list) (i / 256)) is,
            (small list front).short,
          )) in
          let e : i / 256 * 256 + i % 256 ≡ i = omega arith in
          ap (λ (k : ℕ). get_or table k 0) (sym e) ∙ r.cells (i % 256) (omega arith)
          ∙ sym (tabulated-at cell 0 count i 0 h ∙ rw zero-add)
          ∙ sym (splice-inside before 0 cells rooms i (omega (arith, long)))
          ∙ ap (λ (k : ℕ). get_or (written before cells) k 0) (zero-add i)

-- ---- what callers read from the arrays, once they are built

-- the table has all rows that a walk asks for
pub rows_written : (list before table : List ℕ) → keyword_front_code list ≡ 0 → node_count (folded_keywords list) * 256 ≤ length before
    → table ≡ written before (table_of (flag_of list) (folded_keywords list)) → Rows list table 33
unfolding table_of
rows_written list before table front room e =
    let cell : ℕ → ℕ = λ i. cell_of (flag_of list) (folded_keywords list) (i / 256) (i % 256) in
    let n : ℕ = node_count (folded_keywords list) * 256 in
    let long : length (tabulated cell 0 n) ≡ n = length-tabulated cell 0 n in
    let fit : 0 + length (tabulated cell 0 n) ≤ length before = omega (arith, long) in
    rw e (record {
      accepted = front;
      rows = λ s h _.
          record {
            inside = h;
            room = omega (arith, length-splice before 0 (tabulated cell 0 n) fit);
            cells = λ b l.
                let i : s * 256 + b < n = omega arith in
                let q : (s * 256 + b) / 256 ≡ s = omega arith in
                let r : (s * 256 + b) % 256 ≡ b = omega arith in
                ap (λ (k : ℕ). get_or (written before (tabulated cell 0 n)) k 0) (sym (zero-add (s * 256 + b)))
                ∙ splice-inside before 0 (tabulated cell 0 n) fit (s * 256 + b) (omega (arith, long))
                ∙ tabulated-at cell 0 n (s * 256 + b) 0 i ∙ rw (zero-add, q, r);
          };
    })

-- the prefix of keyword k at node s
pub prefix-written : (keywords : List (List ℕ)) (before prefixes : List ℕ) → node_count keywords * 16 ≤ length before
    → prefixes ≡ written before (prefixes_of keywords)
    → (s k : ℕ) → s < node_count keywords → k < 16 → get_or prefixes (s * 16 + k) 0 ≡ prefix_at (keyword_at keywords k) (node_at keywords s)
unfolding prefixes_of
prefix-written keywords before prefixes room e s k h l =
    let f : ℕ → ℕ = λ i. prefix_at (keyword_at keywords (i % 16)) (node_at keywords (i / 16)) in
    let n : ℕ = node_count keywords * 16 in
    let long : length (tabulated f 0 n) ≡ n = length-tabulated f 0 n in
    let fit : 0 + length (tabulated f 0 n) ≤ length before = omega (arith, long) in
    let q : (s * 16 + k) / 16 ≡ s = omega arith in
    let r : (s * 16 + k) % 16 ≡ k = omega arith in
    ap (λ (x : List ℕ). get_or x (s * 16 + k) 0) e
    ∙ ap (λ (i : ℕ). get_or (written before (tabulated f 0 n)) i 0) (sym (zero-add (s * 16 + k)))
    ∙ splice-inside before 0 (tabulated f 0 n) fit (s * 16 + k) (omega (arith, long))
    ∙ tabulated-at f 0 n (s * 16 + k) 0 (omega arith) ∙ rw (zero-add, q, r)
