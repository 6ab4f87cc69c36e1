-- The keywords of a list that was read, as parts of it; and all nodes numbered, keyword by keyword. Assumes nothing.
use mathlib.Core.Path.{◌≡◌, refl, sym, ap, ◌∙◌}
use mathlib.Core.Logic.{◌⊎◌, inl, inr}
use mathlib.Core.Bool.{true, false, cond}
use mathlib.Core.List.{List, [], ◌∷◌, ◌++◌, map, append-nil, append_assoc}
use Prim.Native.Nat.{ℕ, zero, suc, ◌+◌, ◌*◌, ◌≤◌, ◌<◌}
use native.Mathlib.Numerals.{add-one}
use native.Mathlib.Omega.{arith}
use lib.ListN.{length, take, drop, get_or, set, length-set, drop_of_length-le}
use lib.Seq.{drop-cons, take-take, get_or-set_same}
use Rattle.spec.specs.Bytes.{part, contains, joined, sum}
use Rattle.spec.specs.Keywords.{flag_of, folded, folded_keywords, longest}
use Rattle.spec.specs.Join.{keyword_at}
use Rattle.spec.proofs.Tests.{bool_cases}
use Rattle.spec.proofs.Folding.{folded-take}
use Rattle.spec.proofs.KeywordLaws.{accepted, folded-count, folded-keyword}
use Rattle.keywords.specs.declared.Keywords.{Keywords}
use Rattle.keywords.specs.Parsed.{Reads, Parsed}
use Rattle.keywords.proofs.Reading.{parsed}
use Rattle.trie.specs.Numbers.{beginnings, distinct, without, nodes_of, node_count, node_at}
use Rattle.trie.proofs.Distinct.{distinct-new, distinct-old, distinct-contains}
use Rattle.trie.proofs.Numbering.{accepted-short}
use Rattle.automaton_table.specs.Building.{run, nodes_in, Within, with_node, with_nodes, Added, Numbered}
use Rattle.automaton_table.proofs.Numbered.{run_length, length-nodes, nodes-at}

-- ---- the keywords

module _ (list : List ℕ) (words : Keywords) (r : Reads list words) where
  read : Parsed list words
  read = parsed list words r

  pub words-few : words.count ≤ 16
  words-few = read.few

  pub words-flag : words.flag ≡ flag_of list
  words-flag = read.flags

  pub words-all : length (folded_keywords list) ≡ words.count
  words-all = folded-count list ∙ (accepted list r.accepted).count ∙ sym read.counts

  module _ (k : ℕ) (h : k < words.count) where
    pub word_room : get_or words.start k 0 + get_or words.len k 0 ≤ length list
    word_room = omega (arith, (read.placed k h).room, read.ends, read.room)

    pub word-most : get_or words.len k 0 ≤ 32
    word-most = (read.placed k h).most

    pub word-is : run words.flag list (get_or words.start k 0) (get_or words.len k 0) ≡ keyword_at (folded_keywords list) k
    word-is = rw (read.flags, (read.placed k h).bytes) (sym (folded-keyword list k))

    pub word-length : length (keyword_at (folded_keywords list) k) ≡ get_or words.len k 0
    word-length = ap length (sym word-is) ∙ run_length words.flag list (get_or words.start k 0) (get_or words.len k 0) word_room

    -- its first i bytes
    pub word-front : (i : ℕ) → i ≤ get_or words.len k 0 → run words.flag list (get_or words.start k 0) i ≡ take i (keyword_at (folded_keywords list) k)
    word-front i l =
        ap (folded words.flag) (sym (take-take i (get_or words.len k 0) (drop (get_or words.start k 0) list) l))
        ∙ folded-take words.flag i (part list (get_or words.start k 0) (get_or words.len k 0)) ∙ ap (take i) word-is

-- behind the last keyword there is none
pub word_none : (keywords : List (List ℕ)) (k : ℕ) → length keywords ≤ k → keyword_at keywords k ≡ []
word_none [] k h = refl
word_none (w ∷ ws) zero h = let z : ⊥ = omega arith in absurd z
word_none (w ∷ ws) (suc k) h = word_none ws k (omega arith)

-- ---- nodes added

with_append : (nodes xs ys : List (List ℕ)) → with_nodes nodes (xs ++ ys) ≡ with_nodes (with_nodes nodes xs) ys
unfolding with_nodes
with_append nodes [] ys = refl
with_append nodes (x ∷ xs) ys = with_append (with_node nodes x) xs ys

with-one : (xs : List (List ℕ)) (u : List ℕ) → with_node (distinct xs) u ≡ distinct (xs ++ u ∷ [])
unfolding with_node
with-one xs u = go (bool_cases (contains u xs))
  where
    go : (contains u xs ≡ true) ⊎ (contains u xs ≡ false) → cond (contains u (distinct xs)) (distinct xs) (distinct xs ++ u ∷ []) ≡ distinct (xs ++ u ∷ [])
    go (inl e) = rw (distinct-contains u xs, e) (sym (distinct-old xs u e))
    go (inr e) = rw (distinct-contains u xs, e) (sym (distinct-new xs u e))

with-distinct : (xs ys : List (List ℕ)) → with_nodes (distinct xs) ys ≡ distinct (xs ++ ys)
unfolding with_nodes
with-distinct xs [] = ap distinct (sym (append-nil xs))
with-distinct xs (y ∷ ys) =
    ap (λ (n : List (List ℕ)). with_nodes n ys) (with-one xs y) ∙ with-distinct (xs ++ y ∷ []) ys ∙ ap distinct (append_assoc xs (y ∷ []) ys)

-- the root, and all beginnings added, are all nodes
all-nodes : (keywords : List (List ℕ)) → with_nodes ([] ∷ []) (joined (map beginnings keywords)) ≡ nodes_of keywords
unfolding nodes_of distinct without
all-nodes keywords = with-distinct ([] ∷ []) (joined (map beginnings keywords))

sum-most : (keywords : List (List ℕ)) → longest keywords ≤ 32 → sum (map length keywords) ≤ 32 * length keywords
sum-most [] h = omega arith
sum-most (w ∷ ws) h = omega (arith, sum-most ws (omega arith))

-- ---- before keyword k

pub record Numbering (list : List ℕ) (words : Keywords) (starts lens : List ℕ) (count k : ℕ) : Type 0 where
  pub within : k ≤ words.count
  pub wide : length starts ≡ 513
  pub wide-lens : length lens ≡ 513
  pub few : count + sum (map length (drop k (folded_keywords list))) ≤ 513
  pub lies : Within list starts lens count
  pub left : with_nodes (nodes_in words.flag list starts lens count) (joined (map beginnings (drop k (folded_keywords list)))) ≡ nodes_of (folded_keywords list)

module _ (list : List ℕ) (words : Keywords) (r : Reads list words) where
  pub numbering_start : (starts lens : List ℕ) → length starts ≡ 513 → length lens ≡ 513 → Numbering list words (set starts 0 0) (set lens 0 0) 1 0
  unfolding nodes_in folded
  numbering_start starts lens w v =
      let z : get_or (set starts 0 0) 0 0 ≡ 0 = get_or-set_same starts 0 0 0 (omega arith) in
      let y : get_or (set lens 0 0) 0 0 ≡ 0 = get_or-set_same lens 0 0 0 (omega arith) in
      let n = words-all list words r in
      record {
        within = omega arith;
        wide = length-set starts 0 0 ∙ w;
        wide-lens = length-set lens 0 0 ∙ v;
        few = omega (arith, sum-most (folded_keywords list) (accepted-short list (accepted list r.accepted)), words-few list words r);
        lies = record {
          wide = omega (arith, length-set starts 0 0);
          wide-lens = omega (arith, length-set lens 0 0);
          room = λ s h. let e : s ≡ 0 = omega arith in rw (e, z, y) (omega arith);
        };
        left = rw y (all-nodes (folded_keywords list));
      }

  pub numbering-on : (starts lens : List ℕ) (count k : ℕ) → Numbering list words starts lens count k → k < words.count
      → (starts' lens' : List ℕ) (next : ℕ) → length starts' ≡ length starts → length lens' ≡ length lens
      → Added words.flag list (nodes_in words.flag list starts lens count) count (get_or words.start k 0) (get_or words.len k 0) starts' lens' next
      → Numbering list words starts' lens' next (k + 1)
  numbering-on starts lens count k m h starts' lens' next w v a =
      let kws = folded_keywords list in
      let key = keyword_at kws k in
      let n = word-length list words r k h in
      let rest = joined (map beginnings (drop (k + 1) kws)) in
      let on : drop k kws ≡ key ∷ drop (k + 1) kws =
      drop-cons kws k [] (omega (arith, words-all list words r)) ∙ ap (λ (i : ℕ). key ∷ drop i kws) (sym (add-one k)) in
      let sums : sum (map length (drop k kws)) ≡ length key + sum (map length (drop (k + 1) kws)) = ap (λ (l : List (List ℕ)). sum (map length l)) on in
      record {
        within = omega arith;
        wide = w ∙ m.wide;
        wide-lens = v ∙ m.wide-lens;
        few = omega (arith, m.few, a.few, sums, n);
        lies = a.within;
        left = ap (λ (l : List (List ℕ)). with_nodes l rest) (a.nodes ∙ ap (λ (u : List ℕ). with_nodes (nodes_in words.flag list starts lens count)
            (beginnings u)) (word-is list words r k h))
            ∙ sym (with_append (nodes_in words.flag list starts lens count) (beginnings key) rest)
            ∙ ap (λ (l : List (List ℕ)). with_nodes (nodes_in words.flag list starts lens count) (joined (map beginnings l))) (sym on) ∙ m.left;
      }

  -- there is room for the keyword's beginnings
  pub adding-room : (starts lens : List ℕ) (count k : ℕ) → Numbering list words starts lens count k → k < words.count → count + get_or words.len k 0 ≤ 513
  adding-room starts lens count k m h =
      let kws = folded_keywords list in
      let on : drop k kws ≡ keyword_at kws k ∷ drop (suc k) kws = drop-cons kws k [] (omega (arith, words-all list words r)) in
      omega (arith, m.few, ap (λ (l : List (List ℕ)). sum (map length l)) on, word-length list words r k h)

  pub numbering-end : (starts lens : List ℕ) (count k : ℕ) → Numbering list words starts lens count k → words.count ≤ k → Numbered list starts lens count
  unfolding with_nodes
  numbering-end starts lens count k m h =
      let l : length (folded_keywords list) ≤ k = omega (arith, words-all list words r) in
      let none : drop k (folded_keywords list) ≡ [] = drop_of_length-le (folded_keywords list) l in
      record {
        wide = m.wide;
        wide-lens = m.wide-lens;
        within = m.lies;
        nodes = rw (← words-flag list words r) (rw none at m.left);
      }

-- ---- the nodes by number

module _ (list starts lens : List ℕ) (count : ℕ) (n : Numbered list starts lens count) where
  pub numbered-count : count ≡ node_count (folded_keywords list)
  unfolding node_count
  numbered-count = sym (length-nodes (flag_of list) list starts lens count) ∙ ap length n.nodes

  pub numbered-at : (s : ℕ) → s < count → run (flag_of list) list (get_or starts s 0) (get_or lens s 0) ≡ node_at (folded_keywords list) s
  unfolding node_at
  numbered-at s h = sym (nodes-at (flag_of list) list starts lens count s h) ∙ ap (λ (l : List (List ℕ)). get_or l s []) n.nodes

  pub numbered-length : (s : ℕ) → s < count → length (node_at (folded_keywords list) s) ≡ get_or lens s 0
  numbered-length s h =
      ap length (sym (numbered-at s h)) ∙ run_length (flag_of list) list (get_or starts s 0) (get_or lens s 0) (n.within.room s h)
