-- Nodes as parts of the list: comparing them, finding one, adding one. Assumes nothing.
use mathlib.Core.Path.{◌≡◌, sym, ap, ap₂, ◌∙◌}
use mathlib.Core.Logic.{◌⊎◌, inl, inr}
use mathlib.Core.Bool.{Bool, true, false, cond}
use mathlib.Core.List.{List, [], ◌∷◌, ◌++◌}
use Prim.Native.Nat.{ℕ, suc, ◌+◌, ◌-◌, ◌≤◌, ◌<◌}
use native.Mathlib.Nat.{add-sub_cancel_left, add_comm, add-zero, zero-add, eq-or-lt_of_le}
use native.Mathlib.Numerals.{add-one}
use native.Mathlib.Omega.{arith}
use lib.ListN.{length, take, drop, get_or, set, length-drop, length-set, drop_of_length-le}
use lib.Seq.{drop-cons, drop-drop, take-take, length-take-le, get_or-set_same, get_or-set_other}
use lib.Dec.{ltb}
use Rattle.spec.specs.Bytes.{part, each, same, contains, position_of, occurs_at}
use Rattle.spec.specs.Keywords.{folded}
use Rattle.spec.proofs.Tests.{bool_cases}
use Rattle.spec.proofs.Each.{each_append}
use Rattle.spec.proofs.Folding.{folded-length, folded-take, folded-drop}
use Rattle.spec.proofs.Splices.{drop-take}
use Rattle.spec.proofs.EntryLaws.{contains-position}
use Rattle.spec.proofs.Tabulated.{length-tabulated, tabulated-at, tabulated-same}
use Rattle.trie.specs.Endings.{is_ending}
use Rattle.trie.specs.Numbers.{beginnings}
use Rattle.trie.proofs.Numbering.{beginnings-at, beginnings-length}
use Rattle.trie.proofs.Endings.{begins-same, ending-long}
use Rattle.automaton_table.specs.Building.{run, nodes_in, Within, with_node, with_nodes, Added}

-- ---- parts of the list

pub run_length : (flag : ℕ) (list : List ℕ) (at n : ℕ) → at + n ≤ length list → length (run flag list at n) ≡ n
run_length flag list at n h = folded-length flag (part list at n) ∙ length-take-le n (drop at list) (omega (arith, length-drop at list))

-- the comparison, as the code hands the parts on
pub alike_is : (flag : ℕ) (list : List ℕ) (a b n : ℕ) → a + n ≤ length list → b + n ≤ length list
    → occurs_at (folded flag (take (a + n - a) (drop a list))) (folded flag (take (b + n - b) (drop b list))) 0 ≡ same (run flag list a n) (run flag list b n)
alike_is flag list a b n h l =
    rw (add-sub_cancel_left, add-sub_cancel_left) (begins-same (run flag list a n) (run flag list b n) (run_length flag list a n h
    ∙ sym (run_length flag list b n l)))

-- the last m bytes of n
run_end : (flag : ℕ) (list : List ℕ) (b n m : ℕ) → m ≤ n → drop (n - m) (run flag list b n) ≡ run flag list (b + (n - m)) m
run_end flag list b n m h =
    let e : n ≡ n - m + m = omega arith in
    let q : drop (n - m) (take n (drop b list)) ≡ take m (drop (b + (n - m)) list) =
    ap (λ (k : ℕ). drop (n - m) (take k (drop b list))) e ∙ drop-take (n - m) m (drop b list)
    ∙ ap (take m) (drop-drop (n - m) b list) in
    sym (folded-drop flag (n - m) (take n (drop b list))) ∙ ap (folded flag) q

pub ends_is : (flag : ℕ) (list : List ℕ) (a m b n : ℕ) (r : Bool) → a + m ≤ length list → b + n ≤ length list → m ≤ n
    → r ≡ same (run flag list a m) (run flag list (b + (n - m)) m) → r ≡ is_ending (run flag list a m) (run flag list b n)
unfolding is_ending
ends_is flag list a m b n r h l q e =
    e ∙ rw (run_length flag list a m h, run_length flag list b n l) (ap (same (run flag list a m)) (sym (run_end flag list b n m q)))

pub ends-short : (flag : ℕ) (list : List ℕ) (a m b n : ℕ) → a + m ≤ length list → b + n ≤ length list → n < m
    → false ≡ is_ending (run flag list a m) (run flag list b n)
ends-short flag list a m b n h l q =
    sym (ending-long (run flag list a m) (run flag list b n) (omega (arith, run_length flag list a m h, run_length flag list b n l)))

-- ---- the nodes that the arrays say

module _ (flag : ℕ) (list starts lens : List ℕ) where
  pub length-nodes : (count : ℕ) → length (nodes_in flag list starts lens count) ≡ count
  unfolding nodes_in
  length-nodes count = length-tabulated (λ s. run flag list (get_or starts s 0) (get_or lens s 0)) 0 count

  pub nodes-at : (count s : ℕ) → s < count → get_or (nodes_in flag list starts lens count) s [] ≡ run flag list (get_or starts s 0) (get_or lens s 0)
  unfolding nodes_in
  nodes-at count s h = tabulated-at (λ s. run flag list (get_or starts s 0) (get_or lens s 0)) 0 count s [] h ∙ rw zero-add

  pub nodes-more : (count : ℕ) → nodes_in flag list starts lens (suc count)
      ≡ nodes_in flag list starts lens count ++ run flag list (get_or starts count 0) (get_or lens count 0) ∷ []
  unfolding nodes_in
  nodes-more count =
      let f : ℕ → List (List ℕ) = λ s. run flag list (get_or starts s 0) (get_or lens s 0) ∷ [] in
      ap (each f 0) (sym (add-one count)) ∙ each_append f 0 count 1 ∙ ap (λ (k : ℕ). each f 0 count ++ (f k ++ [])) (zero-add count)

-- ---- the position of a node, from the front

module _ (key : List ℕ) (nodes : List (List ℕ)) (s : ℕ) where
  pub found_here : s + position_of key (drop s nodes) ≡ position_of key nodes → s < length nodes → same key (get_or nodes s []) ≡ true → s ≡ position_of key nodes
  found_here e h y = rw (drop-cons nodes s [] h, y, add-zero) at e

  pub found-later : s + position_of key (drop s nodes) ≡ position_of key nodes → s < length nodes → same key (get_or nodes s []) ≡ false
      → s + 1 + position_of key (drop (s + 1) nodes) ≡ position_of key nodes
  found-later e h y =
      let f : s + suc (position_of key (drop (suc s) nodes)) ≡ position_of key nodes = rw (drop-cons nodes s [] h, y) at e in
      rw add-one (omega arith)

  pub found-never : s + position_of key (drop s nodes) ≡ position_of key nodes → length nodes ≤ s → s ≡ position_of key nodes
  found-never e h = sym (add-zero s) ∙ rw (drop_of_length-le nodes h) at e

-- ---- one node more

module _ (flag : ℕ) (list starts lens : List ℕ) (count at n : ℕ) (h : count < length starts) (l : count < length lens) where
  -- the nodes before it stay
  stay : nodes_in flag list (set starts count at) (set lens count n) count ≡ nodes_in flag list starts lens count
  unfolding nodes_in
  stay =
      tabulated-same _ _ count
      (λ s m. ap₂ (run flag list) (get_or-set_other starts count s at 0 (λ z. omega arith)) (get_or-set_other lens count s n 0 (λ z. omega arith)))

  last : run flag list (get_or (set starts count at) count 0) (get_or (set lens count n) count 0) ≡ run flag list at n
  last = ap₂ (run flag list) (get_or-set_same starts count at 0 h) (get_or-set_same lens count n 0 l)

  pub node-added : (found next : ℕ) → found ≡ position_of (run flag list at n) (nodes_in flag list starts lens count)
      → next ≡ cond (ltb found count) count (suc count)
      → nodes_in flag list (set starts count at) (set lens count n) next ≡ with_node (nodes_in flag list starts lens count) (run flag list at n)
  unfolding with_node
  node-added found next f e = go (bool_cases (ltb found count))
    where
      u : List ℕ
      u = run flag list at n

      nodes : List (List ℕ)
      nodes = nodes_in flag list starts lens count

      there : (b : Bool) → ltb found count ≡ b → contains u nodes ≡ b
      there b q = contains-position u nodes ∙ ap₂ ltb (sym f) (length-nodes flag list starts lens count) ∙ q

      go : (ltb found count ≡ true) ⊎ (ltb found count ≡ false)
          → nodes_in flag list (set starts count at) (set lens count n) next ≡ cond (contains u nodes) nodes (nodes ++ u ∷ [])
      go (inl q) = rw (there true q, e, q) stay
      go (inr q) =
          rw (there false q, e, q)
          (nodes-more flag list (set starts count at) (set lens count n) count ∙ ap₂ (λ (x : List (List ℕ)) (y : List ℕ). x ++ y ∷ []) stay last)

  pub within-added : (next : ℕ) → Within list starts lens count → at + n ≤ length list → next ≤ suc count
      → Within list (set starts count at) (set lens count n) next
  within-added next w room m =
      record {
        wide = omega (arith, length-set starts count at);
        wide-lens = omega (arith, length-set lens count n);
        room = λ s k. go s (eq-or-lt_of_le {n = s} {m = count} (omega arith));
      }
    where
      go : (s : ℕ) → (s ≡ count) ⊎ (s < count) → get_or (set starts count at) s 0 + get_or (set lens count n) s 0 ≤ length list
      go s (inl q) = rw (q, get_or-set_same starts count at 0 h, get_or-set_same lens count n 0 l) room
      go s (inr q) = rw (get_or-set_other starts count s at 0 (λ z. omega arith), get_or-set_other lens count s n 0 (λ z. omega arith)) (w.room s q)

pub next-most : (b : Bool) (count : ℕ) → (count ≤ cond b count (suc count)) × (cond b count (suc count) ≤ suc count)
next-most true count = (omega arith, omega arith)
next-most false count = (omega arith, omega arith)

-- ---- the beginnings of a keyword, one after the other

pub record Adding (flag : ℕ) (list : List ℕ) (before : List (List ℕ)) (count at n : ℕ) (starts lens : List ℕ) (nodes i : ℕ) : Type 0 where
  pub within : i ≤ n
  pub wide : length starts ≡ 513
  pub wide-lens : length lens ≡ 513
  pub few : nodes ≤ count + i
  pub lies : Within list starts lens nodes
  pub left : with_nodes (nodes_in flag list starts lens nodes) (drop i (beginnings (run flag list at n))) ≡ with_nodes before (beginnings (run flag list at n))

module _ (flag : ℕ) (list : List ℕ) (at n : ℕ) (room : at + n ≤ length list) where
  beginning : (i : ℕ) → i < n → drop i (beginnings (run flag list at n)) ≡ run flag list at (i + 1) ∷ drop (i + 1) (beginnings (run flag list at n))
  beginning i h =
      let w = run flag list at n in
      let long = run_length flag list at n room in
      let e : get_or (beginnings w) i [] ≡ run flag list at (i + 1) =
      beginnings-at w i (omega arith) ∙ sym (folded-take flag (1 + i) (part list at n))
      ∙ ap (folded flag) (take-take (1 + i) n (drop at list) (omega arith) ∙ ap (λ (k : ℕ). part list at k) (add_comm 1 i)) in
      drop-cons (beginnings w) i [] (omega (arith, beginnings-length w))
      ∙ ap₂ {C = List (List ℕ)} (λ x xs. x ∷ xs) e (ap (λ (k : ℕ). drop k (beginnings w)) (sym (add-one i)))

  pub adding-on : (before : List (List ℕ)) (count : ℕ) (starts lens : List ℕ) (nodes i : ℕ) → Adding flag list before count at n starts lens nodes i
      → i < n → count + n ≤ 513 → (found next : ℕ) → found ≡ position_of (run flag list at (i + 1)) (nodes_in flag list starts lens nodes)
      → next ≡ cond (ltb found nodes) nodes (suc nodes)
      → Adding flag list before count at n (set starts nodes at) (set lens nodes (i + 1)) next (i + 1)
  unfolding with_nodes
  adding-on before count starts lens nodes i a h most found next f e =
      let m = next-most (ltb found nodes) nodes in
      let w : nodes < length starts = omega (arith, a.few, a.wide) in
      let v : nodes < length lens = omega (arith, a.few, a.wide-lens) in
      let added = node-added flag list starts lens nodes at (i + 1) w v found next f e in
      let rest = drop (i + 1) (beginnings (run flag list at n)) in
      record {
        within = omega arith;
        wide = length-set starts nodes at ∙ a.wide;
        wide-lens = length-set lens nodes (i + 1) ∙ a.wide-lens;
        few = omega (arith, m.1, a.few);
        lies = within-added flag list starts lens nodes at (i + 1) w v next a.lies (omega arith) (omega (arith, m.1));
        left = ap (λ (x : List (List ℕ)). with_nodes x rest) added ∙ ap (with_nodes (nodes_in flag list starts lens nodes)) (sym (beginning i h)) ∙ a.left;
      }

  pub adding-end : (before : List (List ℕ)) (count : ℕ) (starts lens : List ℕ) (nodes i : ℕ) → Adding flag list before count at n starts lens nodes i
      → n ≤ i → Added flag list before count at n starts lens nodes
  unfolding with_nodes
  adding-end before count starts lens nodes i a h =
      let w = run flag list at n in
      let l : length (beginnings w) ≤ i = omega (arith, beginnings-length w, run_length flag list at n room) in
      let none : drop i (beginnings w) ≡ [] = drop_of_length-le (beginnings w) l in
      record {
        nodes = rw none at a.left;
        within = a.lies;
        few = omega (arith, a.few, a.within);
      }
