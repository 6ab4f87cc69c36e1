-- Laws of the log: what it says of a keyword are the keyword's offsets in the chunk. Assumes nothing.
use mathlib.Core.Path.{◌≡◌, refl, sym, ap, ◌∙◌}
use mathlib.Core.Logic.{◌⊎◌, inl, inr, ⊎_elim}
use mathlib.Core.Bool.{Bool, true, false, true≢false}
use mathlib.Core.List.{List, [], ◌∷◌, ◌++◌, append_assoc}
use Prim.Native.Nat.{ℕ, zero, suc, ◌+◌, ◌*◌, ◌-◌, ◌≤◌, ◌<◌}
use native.Mathlib.Nat.{add-zero, lt_of_lt_of_le}
use native.Mathlib.Numerals.{add-one}
use native.Mathlib.Omega.{arith}
use lib.ListN.{length, take, get_or, length-append}
use lib.Seq.{take_at}
use lib.Dec.{ltb}
use lib.Pow.{pow_mono}
use borrow.Author.Tests.{lt-ltb, le-ltb}
use Rattle.spec.specs.Bytes.{each, keep, in_set}
use Rattle.spec.specs.Join.{keyword_at}
use Rattle.spec.specs.Form.{Form}
use Rattle.spec.specs.Records.{record_of}
use Rattle.spec.proofs.Tests.{le-or-lt}
use Rattle.spec.proofs.Sets.{set-lt, has-set, has_above, none-empty}
use Rattle.spec.specs.Trie.{is_node, step, node_from, node_after}
use Rattle.trie.specs.Endings.{is_ending}
use Rattle.trie.specs.Numbers.{node_count, node_number}
use Rattle.trie.proofs.Endings.{ending-le}
use Rattle.trie.proofs.Steps.{step-is-node, step-moves, step-moves-least}
use Rattle.trie.proofs.Walks.{node-append, walk-node-is}
use Rattle.trie.proofs.Records.{keyword-contained, offsets-at-nodes, prefix-at-node}
use Rattle.trie.proofs.Numbering.{number-below}
use Rattle.automaton.specs.Automaton.{ending_set, accepts, logged, log_from}
use Rattle.logs.specs.Log.{entry_of, number_in, place_in, set_at, logged_offsets, Tabled, Walked, Fits, AllFit}

-- ---- entries

pub number-entry : (number place : ℕ) → place < 1048576 → number_in (entry_of number place) ≡ number
unfolding number_in entry_of
number-entry number place h = omega arith

pub place-entry : (number place : ℕ) → place < 1048576 → place_in (entry_of number place) ≡ place
unfolding place_in entry_of
place-entry number place h = omega arith

-- ---- the log in two parts

module _ (keywords : List (List ℕ)) where
  -- the node that a byte leads to
  abbrev pub after : List ℕ → ℕ → List ℕ
  after u b = (step keywords u b).node

  pub log-append : (u : List ℕ) (at : ℕ) (x y : List ℕ)
      → log_from keywords u at (x ++ y) ≡ log_from keywords u at x ++ log_from keywords (node_from keywords u x) (at + length x) y
  unfolding log_from node_from logged accepts entry_of
  log-append u at [] y = rw add-zero
  log-append u at (b ∷ x) y =
      let n : at + suc (length x) ≡ suc at + length x = omega arith in
      rw (n, append_assoc) (ap (λ (t : List ℕ). keep (ltb 0 (ending_set keywords (after u b))) (entry_of (node_number keywords (after u b)) at) ++ t)
      (log-append (after u b) (suc at) x y))

pub logged-append : (ends : List ℕ) (k n : ℕ) (x y : List ℕ) → logged_offsets ends k n (x ++ y) ≡ logged_offsets ends k n x ++ logged_offsets ends k n y
unfolding logged_offsets
logged-append ends k n [] y = refl
logged-append ends k n (e ∷ x) y = rw (append_assoc, logged-append ends k n x y)

-- ---- entries that can be read

fits-none : (ends len : List ℕ) → AllFit ends len []
fits-none ends len i h = let z : ⊥ = omega arith in absurd z

fits-cons : (ends len : List ℕ) (b : Bool) (e : ℕ) (log : List ℕ) → (b ≡ true → Fits ends len e) → AllFit ends len log → AllFit ends len (keep b e ++ log)
fits-cons ends len true e log f g zero h = f refl
fits-cons ends len true e log f g (suc i) h = g i (omega arith)
fits-cons ends len false e log f g i h = g i h

-- ---- what the log says

module _ (keywords : List (List ℕ)) (ends tails : List ℕ) (t : Tabled keywords ends tails) where
  -- a byte adds at most one to the node's length
  step-longer : (u : List ℕ) (b : ℕ) → is_node keywords u ≡ true → length (after keywords u b) ≤ suc (length u)
  step-longer u b n = omega (arith, step-moves keywords u b n, step-moves-least keywords u b)

  node-more : (x : List ℕ) (b : ℕ) → after keywords (node_after keywords x) b ≡ node_after keywords (x ++ b ∷ [])
  unfolding node_from
  node-more x b = sym (node-append keywords [] x (b ∷ []))

  module _ (k : ℕ) (known : k < length keywords) where
    -- the keyword
    abbrev pub keyword : List ℕ
    keyword = keyword_at keywords k

    -- its offsets, told from the nodes of the bytes, from node u and place `at` on
    told : List ℕ → ℕ → List ℕ → List ℕ
    told u at [] = []
    told u at (b ∷ bytes) = keep (is_ending keyword (after keywords u b)) (suc at - length keyword) ++ told (after keywords u b) (suc at) bytes

    set_tells : (u : List ℕ) → in_set (ending_set keywords u) k ≡ is_ending keyword u
    unfolding ending_set
    set_tells u = has-set (λ j. is_ending (keyword_at keywords j) u) (length keywords) k known

    -- an entry, or none, and what it says
    entry-tells : (u : List ℕ) (at : ℕ) (rest : List ℕ) → is_node keywords u ≡ true → at < 1048576
        → logged_offsets ends k (length keyword) (keep (ltb 0 (ending_set keywords u)) (entry_of (node_number keywords u) at) ++ rest)
        ≡ keep (is_ending keyword u) (suc at - length keyword) ++ logged_offsets ends k (length keyword) rest
    unfolding logged_offsets set_at
    entry-tells u at rest n l = ⊎_elim
        (λ z. rw (le-ltb 0 (ending_set keywords u) z) (ap (λ (x : Bool). keep x (suc at - length keyword) ++ logged_offsets ends k (length keyword) rest)
        (none (omega arith))))
        (λ p. rw (
          lt-ltb 0 (ending_set keywords u) p,
          number-entry (node_number keywords u) at l,
          place-entry
              (node_number keywords u) at l,
          t.set u n,
          set_tells u,
          add-one,
        ))
        (le-or-lt (ending_set keywords u) 0)
      where
        none : ending_set keywords u ≡ 0 → false ≡ is_ending keyword u
        none z = sym (none-empty k) ∙ ap (λ (s : ℕ). in_set s k) (sym z) ∙ set_tells u

    log-tells : (u : List ℕ) (at : ℕ) (bytes : List ℕ) → is_node keywords u ≡ true → at + length bytes ≤ 1048576
        → logged_offsets ends k (length keyword) (log_from keywords u at bytes) ≡ told u at bytes
    unfolding log_from logged_offsets told logged accepts entry_of
    log-tells u at [] n l = refl
    log-tells u at (b ∷ bytes) n l =
        let v : List ℕ = after keywords u b in
        let m : is_node keywords v ≡ true = step-is-node keywords u b n in
        entry-tells v at (log_from keywords v (suc at) bytes) m (omega arith)
        ∙ ap (λ (x : List ℕ). keep (is_ending keyword v) (suc at - length keyword) ++ x) (log-tells v (suc at) bytes m (omega arith))

    -- behind the bytes x, the nodes are those of the chunk's beginnings
    told-each : (x bytes : List ℕ)
        → told (node_after keywords x) (length x) bytes
        ≡ each (λ p. keep (is_ending keyword (node_after keywords (take p (x ++ bytes)))) (p - length keyword)) (suc (length x)) (length bytes)
    unfolding told
    told-each x [] = refl
    told-each x (b ∷ bytes) =
        let y : List ℕ = x ++ b ∷ [] in
        let e : y ++ bytes ≡ x ++ b ∷ bytes = append_assoc x (b ∷ []) bytes in
        let n : length y ≡ suc (length x) = length-append x (b ∷ []) ∙ add-one (length x) in
        let v : after keywords (node_after keywords x) b ≡ node_after keywords y = node-more x b in
        let s : take (suc (length x)) (x ++ b ∷ bytes) ≡ y = ap (take (suc (length x))) (sym e) ∙ take_at y bytes (suc (length x)) n in
        rw (v, s) (ap (λ (r : List ℕ). keep (is_ending keyword (node_after keywords y)) (suc (length x) - length keyword) ++ r)
        (rw (e, n) at (told-each y bytes)))

  -- ---- every entry can be read

  set-few : (u : List ℕ) → length keywords ≤ 16 → ending_set keywords u < 65536
  unfolding ending_set
  set-few u h = lt_of_lt_of_le (set-lt (λ j. is_ending (keyword_at keywords j) u) (length keywords)) (pow_mono h)

  -- a keyword of the set ends the node, so it is no longer
  set_back : (u : List ℕ) (k : ℕ) → in_set (ending_set keywords u) k ≡ true → (k < length keywords) × (length (keyword_at keywords k) ≤ length u)
  unfolding ending_set
  set_back u k h = go (le-or-lt (length keywords) k)
    where
      go : (length keywords ≤ k) ⊎ (k < length keywords) → (k < length keywords) × (length (keyword_at keywords k) ≤ length u)
      go (inl l) = absurd (true≢false (sym h ∙ has_above (λ j. is_ending (keyword_at keywords j) u) (length keywords) k l))
      go (inr l) = (l, ending-le (keyword_at keywords k) u (sym (set_tells k l u) ∙ h))

  module _ (len : List ℕ) (lengths : (k : ℕ) → k < length keywords → get_or len k 0 ≡ length (keyword_at keywords k)) (most : length keywords ≤ 16) where
    entry-fits : (u : List ℕ) (at : ℕ) → is_node keywords u ≡ true → length u ≤ suc at → at < 1048576 → Fits ends len (entry_of (node_number keywords u) at)
    unfolding set_at
    entry-fits u at n l h =
        let p : number_in (entry_of (node_number keywords u) at) ≡ node_number keywords u = number-entry (node_number keywords u) at h in
        let q : place_in (entry_of (node_number keywords u) at) ≡ at = place-entry (node_number keywords u) at h in
        record {
          node = omega (arith, p, number-below keywords u n, t.wide);
          few = rw (p, t.set u n) (set-few u most);
          back = λ k b. let x = set_back u k (rw (p, t.set u n) at b) in omega (arith, q, lengths k x.0, x.1);
        }

    log-fits : (u : List ℕ) (at : ℕ) (bytes : List ℕ) → is_node keywords u ≡ true → length u ≤ at → at + length bytes ≤ 1048576
        → AllFit ends len (log_from keywords u at bytes)
    unfolding log_from logged accepts entry_of
    log-fits u at [] n l h = fits-none ends len
    log-fits u at (b ∷ bytes) n l h =
        let v : List ℕ = after keywords u b in
        let m : is_node keywords v ≡ true = step-is-node keywords u b n in
        let d : length v ≤ suc at = omega (arith, step-longer u b n) in
        fits-cons ends len (ltb 0 (ending_set keywords v)) (entry_of (node_number keywords v) at) (log_from keywords v (suc at) bytes)
        (λ _. entry-fits v at m d (omega arith)) (log-fits v (suc at) bytes m d (omega arith))

  -- of a number that is no keyword's nothing is said
  entry-none : (k n : ℕ) (u : List ℕ) (at : ℕ) (rest : List ℕ) → length keywords ≤ k → is_node keywords u ≡ true → at < 1048576
      → logged_offsets ends k n (keep (ltb 0 (ending_set keywords u)) (entry_of (node_number keywords u) at) ++ rest) ≡ logged_offsets ends k n rest
  unfolding logged_offsets set_at ending_set
  entry-none k n u at rest l m h = go (ltb 0 (ending_set keywords u))
    where
      go : (b : Bool) → logged_offsets ends k n (keep b (entry_of (node_number keywords u) at) ++ rest) ≡ logged_offsets ends k n rest
      go true = rw (
        number-entry (node_number keywords u) at h,
        t.set u m,
        has_above (λ j. is_ending (keyword_at keywords j) u) (length keywords) k l,
      )
      go false = refl

  log-none : (k n : ℕ) (u : List ℕ) (at : ℕ) (bytes : List ℕ) → length keywords ≤ k → is_node keywords u ≡ true → at + length bytes ≤ 1048576
      → logged_offsets ends k n (log_from keywords u at bytes) ≡ []
  unfolding log_from logged_offsets logged accepts entry_of
  log-none k n u at [] l m h = refl
  log-none k n u at (b ∷ bytes) l m h =
      let v : List ℕ = after keywords u b in
      let i : is_node keywords v ≡ true = step-is-node keywords u b m in
      entry-none k n v at (log_from keywords v (suc at) bytes) l i (omega arith) ∙ log-none k n v (suc at) bytes l i (omega arith)

  -- ---- a chunk

  module _ (chunk log : List ℕ) (last : ℕ) (w : Walked keywords chunk log last) (short : length chunk ≤ 1048576) where
    -- what the log says of keyword k are its offsets in the chunk
    pub logged-offsets : (f : Form) (k : ℕ) → k < length keywords → 1 ≤ length (keyword_at keywords k)
        → logged_offsets ends k (length (keyword_at keywords k)) log ≡ (record_of f (keyword_at keywords k) chunk).offsets
    unfolding is_node node_from
    logged-offsets f k known some =
        ap (logged_offsets ends k (length (keyword_at keywords k))) w.logged
        ∙ log-tells k known [] 0 chunk refl (omega arith)
        ∙ told-each k known [] chunk
        ∙ sym (offsets-at-nodes keywords (keyword_at keywords k) (keyword-contained keywords k known) f chunk some)

    -- the last node is one of them
    pub last-below : last < node_count keywords
    last-below = rw w.ended (number-below keywords (node_after keywords chunk) (walk-node-is keywords chunk).0)

    -- and has the prefix of keyword k
    pub logged-prefix : (f : Form) (k : ℕ) → k < length keywords → get_or tails (last * 16 + k) 0 ≡ (record_of f (keyword_at keywords k) chunk).prefix
    logged-prefix f k known =
        rw w.ended (t.tail (node_after keywords chunk) k (walk-node-is keywords chunk).0 known)
        ∙ sym (prefix-at-node keywords (keyword_at keywords k) (keyword-contained keywords k known) f chunk)

    pub logged-fits : (len : List ℕ) → ((k : ℕ) → k < length keywords → get_or len k 0 ≡ length (keyword_at keywords k)) → length keywords ≤ 16
        → AllFit ends len log
    unfolding is_node
    logged-fits len lengths most = rw w.logged (log-fits len lengths most [] 0 chunk refl (omega arith) (omega arith))

    pub logged_none : (k n : ℕ) → length keywords ≤ k → logged_offsets ends k n log ≡ []
    unfolding is_node
    logged_none k n l = rw w.logged (log-none k n [] 0 chunk l refl (omega arith))
