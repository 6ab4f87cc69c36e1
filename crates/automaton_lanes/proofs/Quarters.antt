-- The quarters of the bytes: parts of the same length, walked side by side; their logs are joined. Assumes nothing.
use mathlib.Core.Path.{◌≡◌, sym, ap, ap₂, ◌∙◌}
use mathlib.Core.List.{List, ◌++◌, append_assoc}
use Prim.Native.Nat.{ℕ, ◌+◌, ◌-◌, ◌*◌, ◌≤◌, ◌<◌}
use native.Mathlib.Omega.{arith}
use lib.ListN.{length, take, drop, length-append, length-drop, take-append-drop}
use lib.Seq.{drop-drop, take_all, length-take-le}
use Rattle.spec.specs.Bytes.{splice, written}
use Rattle.spec.specs.Keywords.{folded_keywords, keyword_front_code}
use Rattle.spec.proofs.Splices.{splice-read, splice-then}
use Rattle.trie.specs.Numbers.{node_count}
use Rattle.automaton.specs.Walking.{CanWalk, walked_of, walk_log, number_after}
use Rattle.automaton.proofs.Parts.{walked-inside, window-node, logged-is, log-short, two-logs, two-nodes, two-moves}
use Rattle.automaton_lanes.specs.Lanes.{CanWalkFour, CanWalkLanes, lanes_of}
use Rattle.automaton_lanes.specs.declared.WalkedLanes.{WalkedLanes}

-- ---- quarters

module _ (bytes : List ℕ) (q : ℕ) (e : length bytes ≡ 4 * q) where
  abbrev part0 : List ℕ
  part0 = take q bytes

  abbrev part1 : List ℕ
  part1 = take (2 * q - q) (drop q bytes)

  abbrev part2 : List ℕ
  part2 = take (3 * q - 2 * q) (drop (2 * q) bytes)

  abbrev part3 : List ℕ
  part3 = take (length bytes - 3 * q) (drop (3 * q) bytes)

  pub length-part0 : length part0 ≡ q
  length-part0 = length-take-le q bytes (omega arith)

  pub length-part1 : length part1 ≡ q
  length-part1 = length-take-le (2 * q - q) (drop q bytes) (omega (arith, length-drop q bytes)) ∙ omega arith

  pub length-part2 : length part2 ≡ q
  length-part2 = length-take-le (3 * q - 2 * q) (drop (2 * q) bytes) (omega (arith, length-drop (2 * q) bytes)) ∙ omega arith

  pub length-part3 : length part3 ≡ q
  length-part3 = length-take-le (length bytes - 3 * q) (drop (3 * q) bytes) (omega (arith, length-drop (3 * q) bytes)) ∙ omega arith

  tail_of : (a : ℕ) → drop (a + q) bytes ≡ drop q (drop a bytes)
  tail_of a = sym (drop-drop q a bytes)

  pub parts_whole : part0 ++ (part1 ++ (part2 ++ part3)) ≡ bytes
  parts_whole =
      let l3 : length (drop (3 * q) bytes) ≤ length bytes - 3 * q = omega (arith, length-drop (3 * q) bytes) in
      let a3 : 3 * q ≡ 2 * q + q = omega arith in
      let a2 : 2 * q ≡ q + q = omega arith in
      let d3 : 3 * q - 2 * q ≡ q = omega arith in
      let d2 : 2 * q - q ≡ q = omega arith in
      let p3 : part3 ≡ drop q (drop (2 * q) bytes) = take_all (length bytes - 3 * q) (drop (3 * q) bytes) l3 ∙ ap (λ (k : ℕ). drop k bytes) a3
      ∙ tail_of (2 * q) in
      let p2 : part2 ++ part3 ≡ drop q (drop q bytes) =
      ap₂ (λ (k : ℕ) (y : List ℕ). take k (drop (2 * q) bytes) ++ y) d3 p3 ∙ take-append-drop q (drop (2 * q) bytes) ∙ ap (λ (k : ℕ). drop k bytes) a2
      ∙ tail_of q in
      let p1 : part1 ++ (part2 ++ part3) ≡ drop q bytes = ap₂ (λ (k : ℕ) (y : List ℕ). take k (drop q bytes) ++ y) d2 p2 ∙ take-append-drop q (drop q bytes) in
      ap (λ (y : List ℕ). part0 ++ y) p1 ∙ take-append-drop q bytes

-- ---- four parts, side by side, then joined

-- four runs, one after the other in a buffer
gathered : (l l₁ l₂ l₃ l₄ r₁ r₂ r₃ s₁ s₂ s₃ v₀ v₁ v₂ v₃ : List ℕ) (k₀ k₁ k₂ k₃ p₂ p₃ : ℕ)
    → k₀ ≡ length v₀ → k₁ ≡ length v₁ → k₂ ≡ length v₂ → k₃ ≡ length v₃ → p₂ ≡ k₀ + k₁ → p₃ ≡ p₂ + k₂
    → l₁ ≡ written l v₀ → s₁ ≡ written r₁ v₁ → s₂ ≡ written r₂ v₂ → s₃ ≡ written r₃ v₃
    → l₂ ≡ splice l₁ k₀ (take k₁ s₁) → l₃ ≡ splice l₂ p₂ (take k₂ s₂) → l₄ ≡ splice l₃ p₃ (take k₃ s₃)
    → l₄ ≡ written l (v₀ ++ v₁ ++ v₂ ++ v₃)
gathered l l₁ l₂ l₃ l₄ r₁ r₂ r₃ s₁ s₂ s₃ v₀ v₁ v₂ v₃ k₀ k₁ k₂ k₃ p₂ p₃ h₀ h₁ h₂ h₃ q₂ q₃ e₁ f₁ f₂ f₃ e₂ e₃ e₄ =
    let read : (r t v : List ℕ) (k : ℕ) → t ≡ written r v → k ≡ length v → take k t ≡ v = λ r t v k f h. rw (f, h) (splice-read r 0 v (omega arith)) in
    let a₂ : l₂ ≡ written l (v₀ ++ v₁) =
    splice-then l 0 v₀ v₁ {out₁ = l₁} {out₂ = l₂} {place = k₀} (omega arith) e₁ (omega arith) (e₂ ∙ ap (splice l₁ k₀) (read r₁ s₁ v₁ k₁ f₁ h₁)) in
    let a₃ : l₃ ≡ written l (v₀ ++ v₁ ++ v₂) =
    splice-then l 0 (v₀ ++ v₁) v₂ {out₁ = l₂} {out₂ = l₃} {place = p₂} (omega arith) a₂ (omega (arith, length-append v₀ v₁))
    (e₃ ∙ ap (splice l₂ p₂) (read r₂ s₂ v₂ k₂ f₂ h₂)) in
    splice-then l 0 (v₀ ++ v₁ ++ v₂) v₃ {out₁ = l₃} {out₂ = l₄} {place = p₃} (omega arith) a₃
    (omega (arith, length-append v₀ v₁, length-append (v₀ ++ v₁) v₂))
    (e₄ ∙ ap (splice l₃ p₃) (read r₃ s₃ v₃ k₃ f₃ h₃))

-- what is known once the lanes have walked
pub record Walks (list : List ℕ) (node at q : ℕ) (bytes : List ℕ) (n1 n2 n3 : ℕ) (w : WalkedLanes) : Type 0 where
  pub node-is : w.node ≡ (walked_of list node bytes at).node
  pub moves-is : w.moves ≡ (walked_of list node bytes at).moves
  pub log_is : walk_log list node bytes at
      ≡ walk_log list node (take q bytes) at ++ walk_log list n1 (take (2 * q - q) (drop q bytes)) (at + q)
      ++ walk_log list n2 (take (3 * q - 2 * q) (drop (2 * q) bytes)) (at + 2 * q) ++ walk_log list n3 (take (length bytes - 3 * q) (drop (3 * q) bytes))
      (at + 3 * q)
  pub logged0 : w.logged0 ≡ length (walk_log list node (take q bytes) at)
  pub logged1 : w.logged1 ≡ length (walk_log list n1 (take (2 * q - q) (drop q bytes)) (at + q))
  pub logged2 : w.logged2 ≡ length (walk_log list n2 (take (3 * q - 2 * q) (drop (2 * q) bytes)) (at + 2 * q))
  pub logged3 : w.logged3 ≡ length (walk_log list n3 (take (length bytes - 3 * q) (drop (3 * q) bytes)) (at + 3 * q))

-- the last three lanes start after the quarter before
module _ {list table : List ℕ} {node at q room0 room1 room2 room3 : ℕ} (bytes : List ℕ) {n1 n2 n3 : ℕ}
    (first : n1 ≡ number_after list (drop (length (take q bytes) - 32) (take q bytes)))
    (second : n2 ≡ number_after list (drop (length (take (2 * q - q) (drop q bytes)) - 32) (take (2 * q - q) (drop q bytes))))
    (third : n3 ≡ number_after list (drop (length (take (3 * q - 2 * q) (drop (2 * q) bytes)) - 32) (take (3 * q - 2 * q) (drop (2 * q) bytes))))
    (can : CanWalkLanes list table node (length bytes) at room0 room1 room2 room3) (e : length bytes ≡ 4 * q) (long : 32 ≤ q) where
  front : keyword_front_code list ≡ 0
  front = can.walks.rows.accepted

  h : node < node_count (folded_keywords list)
  h = can.walks.inside

  abbrev p0 : List ℕ
  p0 = take q bytes

  abbrev p1 : List ℕ
  p1 = take (2 * q - q) (drop q bytes)

  abbrev p2 : List ℕ
  p2 = take (3 * q - 2 * q) (drop (2 * q) bytes)

  abbrev p3 : List ℕ
  p3 = take (length bytes - 3 * q) (drop (3 * q) bytes)

  is1 : n1 ≡ (walked_of list node p0 at).node
  is1 = first ∙ window-node list front node h p0 at (omega (arith, length-part0 bytes q e))

  inside1 : n1 < node_count (folded_keywords list)
  inside1 = omega (arith, is1, walked-inside list front node h p0 at)

  is2 : n2 ≡ (walked_of list n1 p1 (at + q)).node
  is2 = second ∙ window-node list front n1 inside1 p1 (at + q) (omega (arith, length-part1 bytes q e))

  inside2 : n2 < node_count (folded_keywords list)
  inside2 = omega (arith, is2, walked-inside list front n1 inside1 p1 (at + q))

  is3 : n3 ≡ (walked_of list n2 p2 (at + 2 * q)).node
  is3 = third ∙ window-node list front n2 inside2 p2 (at + 2 * q) (omega (arith, length-part2 bytes q e))

  inside3 : n3 < node_count (folded_keywords list)
  inside3 = omega (arith, is3, walked-inside list front n2 inside2 p2 (at + 2 * q))

  -- each quarter is a walk
  quarter : (n m place room : ℕ) → n < node_count (folded_keywords list) → place + m ≤ at + length bytes → m ≤ room → CanWalk list table n m place room
  quarter n m place room i p r = record { rows = can.walks.rows; inside = i; places = omega (arith, can.walks.places); long = r }

  pub quarters-can : (log run1 run2 run3 : List ℕ) → length log ≡ room0 → length run1 ≡ room1 → length run2 ≡ room2 → length run3 ≡ room3
      → CanWalkFour list table node n1 n2 n3 p0 p1 p2 p3 at (at + q) (at + 2 * q) (at + 3 * q) log run1 run2 run3
  quarters-can log run1 run2 run3 r0 r1 r2 r3 =
      let m0 = length-part0 bytes q e in
      let m1 = length-part1 bytes q e in
      let m2 = length-part2 bytes q e in
      let m3 = length-part3 bytes q e in
      record {
        can0 = quarter node (length p0) at (length log) h (omega (arith, m0)) (omega (arith, m0, can.walks.long));
        can1 = quarter n1 (length p1) (at + q) (length run1) inside1 (omega (arith, m1)) (omega (arith, m1, can.long1));
        can2 = quarter n2 (length p2) (at + 2 * q) (length run2) inside2 (omega (arith, m2)) (omega (arith, m2, can.long2));
        can3 = quarter n3 (length p3) (at + 3 * q) (length run3) inside3 (omega (arith, m3)) (omega (arith, m3, can.long3));
        same1 = m1 ∙ sym m0;
        same2 = m2 ∙ sym m0;
        same3 = m3 ∙ sym m0;
      }

  at1 : at + q ≡ at + length p0
  at1 = omega (arith, length-part0 bytes q e)

  at2 : at + 2 * q ≡ at + q + length p1
  at2 = omega (arith, length-part1 bytes q e)

  at3 : at + 3 * q ≡ at + 2 * q + length p2
  at3 = omega (arith, length-part2 bytes q e)

  logs : walk_log list node (p0 ++ (p1 ++ (p2 ++ p3))) at
      ≡ walk_log list node p0 at ++ walk_log list n1 p1 (at + q) ++ walk_log list n2 p2 (at + 2 * q) ++ walk_log list n3 p3 (at + 3 * q)
  logs =
      let v0 = walk_log list node p0 at in
      let v1 = walk_log list n1 p1 (at + q) in
      let v2 = walk_log list n2 p2 (at + 2 * q) in
      let v3 = walk_log list n3 p3 (at + 3 * q) in
      two-logs list front node n1 at (at + q) p0 (p1 ++ (p2 ++ p3)) h is1 at1
      ∙ ap (λ (y : List ℕ). v0 ++ y) (two-logs list front n1 n2 (at + q) (at + 2 * q) p1 (p2 ++ p3) inside1 is2 at2
      ∙ ap (λ (y : List ℕ). v1 ++ y) (two-logs list front n2 n3 (at + 2 * q) (at + 3 * q) p2 p3 inside2 is3 at3))
      ∙ ap (λ (y : List ℕ). v0 ++ y) (sym (append_assoc v1 v2 v3)) ∙ sym (append_assoc v0 (v1 ++ v2) v3)
      ∙ ap (λ (y : List ℕ). y ++ v3) (sym (append_assoc v0 v1 v2))

  nodes : (walked_of list node (p0 ++ (p1 ++ (p2 ++ p3))) at).node ≡ (walked_of list n3 p3 (at + 3 * q)).node
  nodes =
      two-nodes list front node n1 at (at + q) p0 (p1 ++ (p2 ++ p3)) h is1 at1
      ∙ two-nodes list front n1 n2 (at + q) (at + 2 * q) p1 (p2 ++ p3) inside1 is2 at2
      ∙ two-nodes list front n2 n3 (at + 2 * q) (at + 3 * q) p2 p3 inside2 is3 at3

  moves : (walked_of list node (p0 ++ (p1 ++ (p2 ++ p3))) at).moves
      ≡ (walked_of list node p0 at).moves + (walked_of list n1 p1 (at + q)).moves + (walked_of list n2 p2 (at + 2 * q)).moves + (walked_of list n3 p3
      (at + 3 * q)).moves
  moves =
      let a = two-moves list front node n1 at (at + q) p0 (p1 ++ (p2 ++ p3)) h is1 at1 in
      let b = two-moves list front n1 n2 (at + q) (at + 2 * q) p1 (p2 ++ p3) inside1 is2 at2 in
      let c = two-moves list front n2 n3 (at + 2 * q) (at + 3 * q) p2 p3 inside2 is3 at3 in
      omega (arith, a, b, c)

  walks : (w : WalkedLanes) → w ≡ lanes_of list node n1 n2 n3 p0 p1 p2 p3 at (at + q) (at + 2 * q) (at + 3 * q) → Walks list node at q bytes n1 n2 n3 w
  unfolding lanes_of
  walks w x =
      let all = parts_whole bytes q e in
      record {
        node-is = ap (λ (r : WalkedLanes). r.node) x ∙ sym nodes ∙ ap (λ (l : List ℕ). (walked_of list node l at).node) all;
        moves-is = ap (λ (r : WalkedLanes). r.moves) x ∙ sym moves ∙ ap (λ (l : List ℕ). (walked_of list node l at).moves) all;
        log_is = ap (λ (l : List ℕ). walk_log list node l at) (sym all) ∙ logs;
        logged0 = ap (λ (r : WalkedLanes). r.logged0) x ∙ logged-is list front node p0 at;
        logged1 = ap (λ (r : WalkedLanes). r.logged1) x ∙ logged-is list front n1 p1 (at + q);
        logged2 = ap (λ (r : WalkedLanes). r.logged2) x ∙ logged-is list front n2 p2 (at + 2 * q);
        logged3 = ap (λ (r : WalkedLanes). r.logged3) x ∙ logged-is list front n3 p3 (at + 3 * q);
      }

  module _ (w : WalkedLanes) (answer : w ≡ lanes_of list node n1 n2 n3 p0 p1 p2 p3 at (at + q) (at + 2 * q) (at + 3 * q)) where
    x : Walks list node at q bytes n1 n2 n3 w
    x = walks w answer

    -- no lane logs more than a quarter
    pub quarters-few : (w.logged0 ≤ q) × (w.logged1 ≤ q) × (w.logged2 ≤ q) × (w.logged3 ≤ q)
    quarters-few = (
      omega (arith, x.logged0, log-short list front node p0 at, length-part0 bytes q e),
      omega (arith, x.logged1, log-short list front n1 p1 (at + q), length-part1 bytes q e),
      omega (arith, x.logged2, log-short list front n2 p2 (at + 2 * q), length-part2 bytes q e),
      omega (arith, x.logged3, log-short list front n3 p3 (at + 3 * q), length-part3 bytes q e),
    )

    pub quarters-end : (k₂ k₃ k₄ : ℕ) → k₂ ≡ w.logged0 + w.logged1 → k₃ ≡ k₂ + w.logged2
        → k₄ ≡ k₃ + w.logged3
        → record { node = w.node; moves = w.moves; logged = k₄ } ≡ walked_of list node bytes at
    quarters-end k₂ k₃ k₄ f g k =
        let v0 = walk_log list node p0 at in
        let v1 = walk_log list n1 p1 (at + q) in
        let v2 = walk_log list n2 p2 (at + 2 * q) in
        let v3 = walk_log list n3 p3 (at + 3 * q) in
        let logged : k₄ ≡ (walked_of list node bytes at).logged =
        omega (
          arith,
          logged-is list front node bytes at,
          ap length x.log_is,
          length-append v0 v1,
          length-append (v0 ++ v1) v2,
          length-append (v0 ++ v1 ++ v2) v3,
          x.logged0,
          x.logged1,
          x.logged2,
          x.logged3,
        ) in
        λ i. record { node = x.node-is i; moves = x.moves-is i; logged = logged i }

    pub quarters-log : (k₂ k₃ : ℕ) → k₂ ≡ w.logged0 + w.logged1 → k₃ ≡ k₂ + w.logged2
        → (l l₁ l₂ l₃ l₄ r₁ r₂ r₃ s₁ s₂ s₃ : List ℕ)
        → l₁ ≡ written l (walk_log list node p0 at) → s₁ ≡ written r₁ (walk_log list n1 p1 (at + q))
        → s₂ ≡ written r₂ (walk_log list n2 p2 (at + 2 * q)) → s₃ ≡ written r₃ (walk_log list n3 p3 (at + 3 * q))
        → l₂ ≡ splice l₁ w.logged0 (take w.logged1 s₁) → l₃ ≡ splice l₂ k₂ (take w.logged2 s₂) → l₄ ≡ splice l₃ k₃ (take w.logged3 s₃)
        → l₄ ≡ written l (walk_log list node bytes at)
    quarters-log k₂ k₃ f g l l₁ l₂ l₃ l₄ r₁ r₂ r₃ s₁ s₂ s₃ a b c d a₂ a₃ a₄ =
        gathered l l₁ l₂ l₃ l₄ r₁ r₂ r₃ s₁ s₂ s₃ _ _ _ _ w.logged0 w.logged1 w.logged2 w.logged3 k₂ k₃
        x.logged0 x.logged1 x.logged2 x.logged3 f g a b c d a₂ a₃ a₄
        ∙ ap (splice l 0) (sym x.log_is)
