-- The row of a node: its children found among the nodes, its link by a walk, and each cell as request #103 says the step. Assumes nothing.
use mathlib.Core.Path.{◌≡◌, refl, sym, ap, ap₂, ◌∙◌}
use mathlib.Core.Logic.{◌≢◌, ◌⊎◌, inl, inr}
use mathlib.Core.Bool.{Bool, true, false, ◌&&◌, cond}
use mathlib.Core.List.{List, [], ◌∷◌, ◌++◌}
use Prim.Native.Nat.{ℕ, suc, ◌+◌, ◌-◌, ◌*◌, ◌≤◌, ◌<◌}
use native.Mathlib.Numerals.{add-one}
use native.Mathlib.Omega.{arith}
use borrow.Author.Tests.{eq-eqb, ne_eqb, lt-ltb, le-ltb, ltb-true, ltb-false, eqb-true, eqb-false}
use lib.Dec.{eqb, ltb}
use lib.ListN.{length, take, drop, get_or, set, replicate}
use lib.ListN.{length-append, length-set, length-replicate, get_or-replicate, length-drop, take-append-drop, drop_of_length-le}
use lib.Seq.{drop-cons, take-take, take_at, get_or-take, get_or-drop, get_or-append_seam, get_or-set_same, get_or-set_other, length-take-le}
use Rattle.spec.specs.Bytes.{part, same, position_of}
use Rattle.spec.specs.Keywords.{fold_byte, flag_of, folded, folded_keywords}
use Rattle.spec.proofs.Tests.{bool_cases, and_left, and_right, eqb_same}
use Rattle.spec.proofs.Same.{same-eq, same_refl}
use Rattle.spec.proofs.Folding.{folded-take, folded-get}
use Rattle.spec.proofs.EntryLaws.{contains-position, position-of, position_at}
use Rattle.spec.specs.Trie.{is_node, child, has_child, link, step, node_after}
use Rattle.trie.specs.Numbers.{nodes_of, node_count, node_number, node_at}
use Rattle.trie.proofs.Distinct.{distinct-once}
use Rattle.trie.proofs.Nodes.{link-node}
use Rattle.trie.proofs.Steps.{step-child, step-root, step-link}
use Rattle.trie.proofs.Walks.{walk-node}
use Rattle.trie.proofs.Numbering.{nodes-contain, number-below, node-of-number, number-of-node, root-number}
use Rattle.automaton.specs.Automaton.{ending_set, accepts, packed}
use Rattle.automaton.specs.Walking.{number_after}
use Rattle.automaton_table.specs.Building.{run, child_byte, child_number}
use Rattle.automaton_table.proofs.Numbered.{run_length}

-- ---- the byte of a child, from the list

module _ (flag : ℕ) (list : List ℕ) (a m b n : ℕ) (h : a + m ≤ length list) (l : b + n ≤ length list) where
  pub byte-other : n ≢ suc m → 256 ≡ child_byte (run flag list a m) (run flag list b n)
  unfolding child_byte
  byte-other e = rw (run_length flag list a m h, run_length flag list b n l, ne_eqb n (suc m) e)

  front : n ≡ suc m → take m (run flag list b n) ≡ run flag list b m
  front e = sym (folded-take flag m (part list b n)) ∙ ap (folded flag) (take-take m n (drop b list) (omega arith))

  last : n ≡ suc m → get_or (run flag list b n) m 0 ≡ fold_byte flag (get_or list (b + m) 0)
  last e =
      let k : length (part list b n) ≡ n = length-take-le n (drop b list) (omega (arith, length-drop b list)) in
      folded-get flag (part list b n) m (omega arith) ∙ ap (fold_byte flag) (get_or-take n (drop b list) m 0 (omega arith) ∙ get_or-drop b list m 0)

  pub byte-yes : (x : ℕ) (y : Bool) → n ≡ suc m → y ≡ same (run flag list a m) (run flag list b m) → y ≡ true → x ≡ fold_byte flag (get_or list (b + m) 0)
      → x ≡ child_byte (run flag list a m) (run flag list b n)
  unfolding child_byte
  byte-yes x y e q t w =
      let s : same (run flag list a m) (run flag list b m) ≡ true = sym q ∙ t in
      rw (run_length flag list a m h, run_length flag list b n l, eq-eqb n (suc m) e, front e, s) (w ∙ sym (last e))

  pub byte-no : (y : Bool) → n ≡ suc m → y ≡ same (run flag list a m) (run flag list b m) → y ≡ false → 256 ≡ child_byte (run flag list a m) (run flag list b n)
  unfolding child_byte
  byte-no y e q t =
      let s : same (run flag list a m) (run flag list b m) ≡ false = sym q ∙ t in
      rw (run_length flag list a m h, run_length flag list b n l, eq-eqb n (suc m) e, front e, s)

-- ---- the byte tells the child

byte-of-child : (u : List ℕ) (c : ℕ) → child_byte u (child u c) ≡ c
unfolding child_byte
byte-of-child u c =
    let n : length (u ++ c ∷ []) ≡ suc (length u) = length-append u (c ∷ []) ∙ omega arith in
    rw (n, eqb_same (suc (length u)), take_at u (c ∷ []) (length u) refl, same_refl u) (get_or-append_seam u c [] 0)

child-of-byte : (u v : List ℕ) (c : ℕ) → child_byte u v ≡ c → c < 256 → v ≡ child u c
unfolding child_byte
child-of-byte u v c e h = go (bool_cases (eqb (length v) (suc (length u)) && same u (take (length u) v))) e
  where
    go : ((eqb (length v) (suc (length u)) && same u (take (length u) v)) ≡ true) ⊎ ((eqb (length v) (suc (length u)) && same u (take (length u) v)) ≡ false)
        → cond (eqb (length v) (suc (length u)) && same u (take (length u) v)) (get_or v (length u) 0) 256 ≡ c → v ≡ child u c
    go (inl t) q =
        let x : get_or v (length u) 0 ≡ c = rw t at q in
        let n : length v ≡ suc (length u) = eqb-true (length v) (suc (length u)) (and_left (eqb (length v) (suc (length u))) (same u (take (length u) v)) t) in
        let w : u ≡ take (length u) v = same-eq u (take (length u) v) (and_right (eqb (length v) (suc (length u))) (same u (take (length u) v)) t) in
        let k : length v ≤ suc (length u) = omega arith in
        let d : drop (length u) v ≡ c ∷ [] = drop-cons v (length u) 0 (omega arith) ∙ ap₂ {C = List ℕ} (λ y ys. y ∷ ys) x (drop_of_length-le v k) in
        sym (take-append-drop (length u) v) ∙ ap₂ (λ (y z : List ℕ). y ++ z) (sym w) d
    go (inr f) q = let z : 256 ≡ c = rw f at q in absurd (omega arith)

-- ---- the children among the nodes below t

abbrev found_below : List (List ℕ) → ℕ → List ℕ → ℕ
found_below nodes t v = cond (ltb (position_of v nodes) t) (position_of v nodes) 0

pub record Born (keywords : List (List ℕ)) (u : List ℕ) (children : List ℕ) (t : ℕ) : Type 0 where
  pub wide : length children ≡ 257
  pub at : (c : ℕ) → c < 256 → get_or children c 0 ≡ found_below (nodes_of keywords) t (child u c)

below-same : (nodes : List (List ℕ)) (t : ℕ) (v : List ℕ) → position_of v nodes ≢ t → found_below nodes t v ≡ found_below nodes (t + 1) v
below-same nodes t v n = go (bool_cases (ltb (position_of v nodes) t))
  where
    go : (ltb (position_of v nodes) t ≡ true) ⊎ (ltb (position_of v nodes) t ≡ false) → found_below nodes t v ≡ found_below nodes (t + 1) v
    go (inl e) = let l = ltb-true (position_of v nodes) t e in rw (e, lt-ltb (position_of v nodes) (t + 1) (omega arith))
    go (inr e) = let l = ltb-false (position_of v nodes) t e in rw (e, le-ltb (position_of v nodes) (t + 1) (omega (arith, n)))

module _ (keywords : List (List ℕ)) (u : List ℕ) where
  pub born-start : Born keywords u (replicate 257 0) 0
  born-start =
      record {
        wide = length-replicate {A = ℕ} 257 0;
        at = λ c h. get_or-replicate {A = ℕ} 257 c 0 0 (omega arith) ∙ rw (le-ltb (position_of (child u c) (nodes_of keywords)) 0 (omega arith));
      }

  pub born-on : (children : List ℕ) (t x : ℕ) → Born keywords u children t → t < node_count keywords → x ≡ child_byte u (node_at keywords t) → x ≤ 256
      → Born keywords u (set children x t) (t + 1)
  unfolding node_count node_at nodes_of
  born-on children t x b h e m =
      record {
        wide = length-set children x t ∙ b.wide;
        at = λ c l. go c l (bool_cases (eqb c x));
      }
    where
      nodes : List (List ℕ)
      nodes = nodes_of keywords

      v : List ℕ
      v = get_or nodes t []

      go : (c : ℕ) → c < 256 → (eqb c x ≡ true) ⊎ (eqb c x ≡ false) → get_or (set children x t) c 0 ≡ found_below nodes (t + 1) (child u c)
      go c l (inl f) =
          let q : c ≡ x = eqb-true c x f in
          let w : v ≡ child u c = child-of-byte u v c (sym e ∙ sym q) l in
          let p : position_of (child u c) nodes ≡ t = ap (λ (y : List ℕ). position_of y nodes) (sym w) ∙ position_at nodes t (distinct-once _) h in
          ap (λ (k : ℕ). get_or (set children x t) k 0) q ∙ get_or-set_same children x t 0 (omega (arith, b.wide))
          ∙ sym (rw (p, lt-ltb t (t + 1) (omega arith)))
      go c l (inr f) =
          let q : c ≢ x = eqb-false c x f in
          get_or-set_other children x c t 0 (λ z. q z) ∙ b.at c l
          ∙ below-same nodes t (child u c)
          (λ z. q (sym (e ∙ ap (child_byte u) (ap (λ (k : ℕ). get_or nodes k []) (sym z) ∙ position-of (child u c) nodes (omega (arith, z))) ∙ byte-of-child u c)))

  pub born-end : (children : List ℕ) (t : ℕ) → Born keywords u children t → t ≡ node_count keywords
      → (c : ℕ) → c < 256 → get_or children c 0 ≡ child_number keywords u c
  unfolding node_count node_number child_number has_child
  born-end children t b e c h =
      let v = child u c in
      let q : ltb (position_of v (nodes_of keywords)) t ≡ is_node keywords v =
      ap (ltb (position_of v (nodes_of keywords))) e ∙ sym (contains-position v (nodes_of keywords)) ∙ nodes-contain keywords v in
      b.at c h ∙ rw q

-- ---- a cell, case by case

module _ (keywords : List (List ℕ)) (u : List ℕ) (c : ℕ) where
  -- the root is no child
  child-some : has_child keywords u c ≡ true → node_number keywords (child u c) ≢ 0
  unfolding has_child
  child-some e z =
      let q : child u c ≡ [] = sym (node-of-number keywords (child u c) e) ∙ ap (node_at keywords) z ∙ (root-number keywords).1 in
      omega (arith, ap length q, length-append u (c ∷ []))

  pub no-child : 0 ≡ child_number keywords u c → has_child keywords u c ≡ false
  unfolding child_number
  no-child e = go (bool_cases (has_child keywords u c)) e
    where
      go : (has_child keywords u c ≡ true) ⊎ (has_child keywords u c ≡ false) → 0 ≡ cond (has_child keywords u c) (node_number keywords (child u c)) 0
          → has_child keywords u c ≡ false
      go (inl t) q = absurd (child-some t (sym (rw t at q)))
      go (inr f) q = f

  -- the child's number
  pub child-is : (t : ℕ) → t ≢ 0 → t ≡ child_number keywords u c → (has_child keywords u c ≡ true) × (t ≡ node_number keywords (child u c))
  unfolding child_number
  child-is t n e = go (bool_cases (has_child keywords u c)) e
    where
      go : (has_child keywords u c ≡ true) ⊎ (has_child keywords u c ≡ false) → t ≡ cond (has_child keywords u c) (node_number keywords (child u c)) 0
          → (has_child keywords u c ≡ true) × (t ≡ node_number keywords (child u c))
      go (inl h) q = (h, rw h at q)
      go (inr h) q = absurd (n (rw h at q))

  pub child-below : (t : ℕ) → t ≢ 0 → t ≡ child_number keywords u c → t < node_count keywords
  unfolding has_child
  child-below t n e = let i = child-is t n e in omega (arith, i.1, number-below keywords (child u c) i.0)

  pub to-child : (t set : ℕ) → t ≢ 0 → t ≡ child_number keywords u c → set ≡ ending_set keywords (node_at keywords t)
      → t * 256 + cond (ltb 0 set) 1 0 * 262144 + 16777216 ≡ packed keywords (step keywords u c)
  unfolding packed accepts has_child
  to-child t set n e q =
      let i = child-is t n e in
      let s = step-child keywords u c i.0 in
      let v : node_at keywords t ≡ child u c = ap (node_at keywords) i.1 ∙ node-of-number keywords (child u c) i.0 in
      rw (s.0, s.1, ← i.1, q, v)

  pub to-root : (set : ℕ) → u ≡ [] → has_child keywords u c ≡ false → set ≡ ending_set keywords u
      → 0 * 256 + cond (ltb 0 set) 1 0 * 262144 + 16777216 ≡ packed keywords (step keywords u c)
  unfolding packed accepts
  to-root set e h q =
      let s = step-root keywords c (ap (λ (v : List ℕ). has_child keywords v c) (sym e) ∙ h) in
      rw (q, e, s.0, s.1, (root-number keywords).0)

  -- a node with bytes, by its link
  linked-step : u ≢ [] → has_child keywords u c ≡ false
      → ((step keywords u c).node ≡ (step keywords (link keywords u) c).node) × ((step keywords u c).moves ≡ suc (step keywords (link keywords u) c).moves)
      × (is_node keywords (link keywords u) ≡ true)
  linked-step n h = go u n h
    where
      go : (v : List ℕ) → v ≢ [] → has_child keywords v c ≡ false
          → ((step keywords v c).node ≡ (step keywords (link keywords v) c).node) × ((step keywords v c).moves ≡ suc (step keywords (link keywords v) c).moves)
          × (is_node keywords (link keywords v) ≡ true)
      go [] n h = absurd (n refl)
      go (a ∷ v) n h = let s = step-link keywords a v c h in (s.0, s.1, (link-node keywords a v).0)

  pub to-link : (linked x : ℕ) → u ≢ [] → has_child keywords u c ≡ false → linked ≡ node_number keywords (link keywords u)
      → x ≡ packed keywords (step keywords (node_at keywords linked) c) → x + 16777216 ≡ packed keywords (step keywords u c)
  unfolding packed
  to-link linked x n h e q =
      let s = linked-step n h in
      let v : node_at keywords linked ≡ link keywords u = ap (node_at keywords) e ∙ node-of-number keywords (link keywords u) s.2 in
      let w : x ≡ packed keywords (step keywords (link keywords u) c) = q ∙ ap (λ (y : List ℕ). packed keywords (step keywords y c)) v in
      rw (s.0, s.1) (omega arith)

-- only the root has no bytes
pub some_bytes : (keywords : List (List ℕ)) (s : ℕ) → s < node_count keywords → s ≢ 0 → node_at keywords s ≢ []
some_bytes keywords s h n e = n (sym (number-of-node keywords s h) ∙ ap (node_number keywords) e ∙ (root-number keywords).0)

-- ---- links

pub link-root : (keywords : List (List ℕ)) (flag : ℕ) (list : List ℕ) (at n : ℕ) → n ≡ 0 → 0 ≡ node_number keywords (link keywords (run flag list at n))
unfolding link folded
link-root keywords flag list at n e = rw e (sym (root-number keywords).0)

link-tail : (keywords : List (List ℕ)) (flag : ℕ) (list : List ℕ) (at m : ℕ) → at < length list
    → link keywords (run flag list at (suc m)) ≡ node_after keywords (folded flag (take m (drop (suc at) list)))
unfolding link folded
link-tail keywords flag list at m h = rw (drop-cons list at 0 h) (sym (walk-node keywords (folded flag (take m (drop (suc at) list)))))

pub link-after : (list : List ℕ) (at n r : ℕ) → n ≢ 0 → at + n ≤ length list → r ≡ number_after list (take (at + n - (at + 1)) (drop (at + 1) list))
    → r ≡ node_number (folded_keywords list) (link (folded_keywords list) (run (flag_of list) list at n))
unfolding number_after
link-after list at n r z h e =
    let m : n ≡ suc (n - 1) = omega arith in
    let k : at + n - (at + 1) ≡ n - 1 = omega arith in
    let q : number_after list (take (at + n - (at + 1)) (drop (at + 1) list)) ≡ number_after list (take (n - 1) (drop (suc at) list)) =
    rw (k, add-one) in
    e ∙ q ∙ ap (node_number (folded_keywords list)) (sym (link-tail (folded_keywords list) (flag_of list) list at (n - 1) (omega arith))
    ∙ ap (λ (i : ℕ). link (folded_keywords list) (run (flag_of list) list at i)) (sym m))
