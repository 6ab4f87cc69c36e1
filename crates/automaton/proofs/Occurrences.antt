-- A chunk's log tells the offsets of every keyword: those of the match records. Assumes nothing.
use mathlib.Core.Path.{◌≡◌, refl, sym, ap, ap₂, ◌∙◌}
use mathlib.Core.Logic.{◌⊎◌, inl, inr}
use mathlib.Core.Bool.{Bool, true, false, cond}
use mathlib.Core.List.{List, [], ◌∷◌, ◌++◌, append-nil, append_assoc}
use Prim.Native.Nat.{ℕ, zero, suc, ◌+◌, ◌-◌, ◌*◌, ◌/◌, ◌%◌, ◌^◌, ◌≤◌, ◌<◌}
use native.Mathlib.Nat.{eq-or-lt_of_le, le_of_suc-le-suc, div-eq_of_lt}
use native.Mathlib.Omega.{arith}
use borrow.Author.Tests.{ltb-false}
use lib.Dec.{eqb}
use lib.ListN.{length, take}
use lib.Pow.{pow_pos, high, low, field, mod-mod-pow}
use Rattle.spec.specs.Bytes.{each, keep, set_of}
use Rattle.spec.specs.Join.{keyword_at}
use Rattle.spec.specs.Form.{Form}
use Rattle.spec.specs.Records.{record_of}
use Rattle.spec.proofs.Tests.{bool_cases}
use Rattle.spec.proofs.Each.{each-match}
use Rattle.spec.proofs.Sets.{set-lt}
use Rattle.spec.specs.Trie.{is_node, Step, step, node_from}
use Rattle.trie.specs.Endings.{is_ending, walk_record}
use Rattle.trie.specs.Numbers.{node_number, node_at}
use Rattle.trie.proofs.Steps.{step-is-node}
use Rattle.trie.proofs.Numbering.{node-of-number}
use Rattle.trie.proofs.Records.{keyword-contained, offsets-at-nodes}
use Rattle.automaton.specs.Automaton.{ending_set, accepts, logged, log_from, offsets_in}

-- ---- a set's bits are its tests

bit-low : (x s n : ℕ) → s < n → x / 2 ^ s % 2 ≡ (x % 2 ^ n) / 2 ^ s % 2
bit-low x s n h =
    let e : n - (1 + s) + (1 + s) ≡ n = omega arith in
    sym (field x 1 s)
    ∙ ap (λ (y : ℕ). y / 2 ^ s) (sym (mod-mod-pow x (n - (1 + s)) (1 + s)) ∙ ap (λ (m : ℕ). x % 2 ^ m % 2 ^ (1 + s)) e)
    ∙ field (x % 2 ^ n) 1 s

set-has : (t : ℕ → Bool) (n s : ℕ) → s < n → eqb (set_of t n / 2 ^ s % 2) 1 ≡ t s
set-has t zero s h = let z : ⊥ = omega arith in absurd z
set-has t (suc n) s h = go (eq-or-lt_of_le (le_of_suc-le-suc h)) (set-has t n s)
  where
    top : (b : Bool) → eqb (cond b 1 0 % 2) 1 ≡ b
    top true = refl
    top false = refl

    go : (s ≡ n) ⊎ (s < n) → (s < n → eqb (set_of t n / 2 ^ s % 2) 1 ≡ t s) → eqb (set_of t (suc n) / 2 ^ s % 2) 1 ≡ t s
    go (inl e) ih = rw (e, high (cond (t n) 1 0) n (set-lt t n)) (top (t n))
    go (inr l) ih = rw (bit-low (set_of t (suc n)) s n l, low (cond (t n) 1 0) n (set-lt t n)) (ih l)

module _ (keywords : List (List ℕ)) (k : ℕ) where
  -- bit k of a node's set: it ends with keyword k
  pub set-bit : (u : List ℕ) → k < length keywords → eqb (ending_set keywords u / 2 ^ k % 2) 1 ≡ is_ending (keyword_at keywords k) u
  unfolding ending_set
  set-bit u h = set-has (λ j. is_ending (keyword_at keywords j) u) (length keywords) k h

  -- a log in two parts
  pub offsets-append : (x y : List ℕ) → offsets_in keywords k (x ++ y) ≡ offsets_in keywords k x ++ offsets_in keywords k y
  unfolding offsets_in
  offsets-append [] y = refl
  offsets-append (e ∷ x) y =
      let one = keep (eqb (ending_set keywords (node_at keywords (e / 1048576)) / 2 ^ k % 2) 1) (e % 1048576 + 1 - length (keyword_at keywords k)) in
      ap (λ (l : List ℕ). one ++ l) (offsets-append x y) ∙ sym (append_assoc one (offsets_in keywords k x) (offsets_in keywords k y))

  -- ---- one entry

  entry-tells : (number at : ℕ) (v : List ℕ) → at < 1048576 → node_at keywords number ≡ v → k < length keywords
      → offsets_in keywords k ((number * 1048576 + at) ∷ []) ≡ keep (is_ending (keyword_at keywords k) v) (suc at - length (keyword_at keywords k))
  unfolding offsets_in
  entry-tells number at v h e l =
      let q : (number * 1048576 + at) / 1048576 ≡ number = omega arith in
      let r : (number * 1048576 + at) % 1048576 + 1 ≡ suc at = omega arith in
      rw (append-nil, q, r, e, set-bit v l)

  none-tells : (v : List ℕ) (offset : ℕ) → accepts keywords v ≡ false → k < length keywords → [] ≡ keep (is_ending (keyword_at keywords k) v) offset
  unfolding accepts
  none-tells v offset e h =
      let z : ending_set keywords v ≡ 0 = omega (arith, ltb-false 0 (ending_set keywords v) e) in
      let d : 0 / 2 ^ k ≡ 0 = div-eq_of_lt (pow_pos k) in
      let b : is_ending (keyword_at keywords k) v ≡ false = sym (set-bit v h) ∙ rw (z, d) in
      rw b

  step-tells : (s : Step) (at : ℕ) → at < 1048576 → is_node keywords s.node ≡ true → k < length keywords
      → offsets_in keywords k (logged keywords s at) ≡ keep (is_ending (keyword_at keywords k) s.node) (suc at - length (keyword_at keywords k))
  unfolding logged offsets_in
  step-tells s at h e l = go (bool_cases (accepts keywords s.node))
    where
      go : (accepts keywords s.node ≡ true) ⊎ (accepts keywords s.node ≡ false)
          → offsets_in keywords k (logged keywords s at) ≡ keep (is_ending (keyword_at keywords k) s.node) (suc at - length (keyword_at keywords k))
      go (inl t) = rw t (entry-tells (node_number keywords s.node) at s.node h (node-of-number keywords s.node e) l)
      go (inr f) = rw f (none-tells s.node (suc at - length (keyword_at keywords k)) f l)

  -- ---- all entries

  unfoldable along : List ℕ → ℕ → List ℕ → List ℕ
  along u at [] = []
  along u at (b ∷ bytes) =
      keep (is_ending (keyword_at keywords k) (step keywords u b).node) (suc at - length (keyword_at keywords k)) ++ along (step keywords u b).node
      (suc at) bytes

  log-along : (u : List ℕ) (at : ℕ) (bytes : List ℕ) → is_node keywords u ≡ true → at + length bytes ≤ 1048576 → k < length keywords
      → offsets_in keywords k (log_from keywords u at bytes) ≡ along u at bytes
  unfolding log_from along offsets_in
  log-along u at [] e h l = refl
  log-along u at (b ∷ bytes) e h l =
      let s = step keywords u b in
      let is = step-is-node keywords u b e in
      offsets-append (logged keywords s at) (log_from keywords s.node (suc at) bytes)
      ∙ ap₂ (λ (x y : List ℕ). x ++ y) (step-tells s at (omega arith) is l) (log-along s.node (suc at) bytes is (omega arith) l)

  -- for each place, the node after so many bytes
  along-each : (u : List ℕ) (at : ℕ) (bytes : List ℕ)
      → along u at bytes
      ≡ each (λ p. keep (is_ending (keyword_at keywords k) (node_from keywords u (take (p - at) bytes))) (p - length (keyword_at keywords k))) (suc at)
      (length bytes)
  unfolding along node_from
  along-each u at [] = refl
  along-each u at (b ∷ bytes) =
      let w = keyword_at keywords k in
      let v = (step keywords u b).node in
      let one : suc at - at ≡ 1 = omega arith in
      let first : keep (is_ending w v) (suc at - length w) ≡ keep (is_ending w (node_from keywords u (take (suc at - at) (b ∷ bytes))))
      (suc at - length w) = rw one in
      ap₂ (λ (x y : List ℕ). x ++ y) first (along-each v (suc at) bytes
      ∙ each-match _ _ (suc (suc at)) (suc (suc at)) (length bytes)
      (λ p h. let n : suc (suc at) + p - at ≡ suc (suc (suc at) + p - suc at) = omega arith in rw n))

  -- the offsets of keyword k in a chunk
  pub log-offsets : (f : Form) (chunk : List ℕ) → length chunk ≤ 1048576 → k < length keywords
      → offsets_in keywords k (log_from keywords [] 0 chunk) ≡ (walk_record f keywords (keyword_at keywords k) chunk).offsets
  unfolding walk_record is_node
  log-offsets f chunk h l =
      log-along [] 0 chunk refl (omega arith) l ∙ along-each [] 0 chunk
      ∙ each-match _ _ 1 1 (length chunk) (λ p m. let n : 1 + p - 0 ≡ 1 + p = omega arith in rw n)

  -- those of its match record
  pub log-record : (f : Form) (chunk : List ℕ) → length chunk ≤ 1048576 → k < length keywords → 1 ≤ length (keyword_at keywords k)
      → offsets_in keywords k (log_from keywords [] 0 chunk) ≡ (record_of f (keyword_at keywords k) chunk).offsets
  unfolding walk_record
  log-record f chunk h l n =
      log-offsets f chunk h l ∙ sym (offsets-at-nodes keywords (keyword_at keywords k) (keyword-contained keywords k l) f chunk n)
