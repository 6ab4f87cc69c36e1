-- The quarters, then the bytes left.
use Rattle.std.proofs.Common.{◌≡◌, List, ◌++◌, ℕ, ◌+◌, ◌*◌, ◌/◌, ◌-◌, ◌≤◌, ◌<◌, refl, sym, ap, ◌∙◌, arith}
use Rattle.std.proofs.Common.{length, take, drop, length-drop, length-take, take-append-drop}
use Rattle.std.proofs.Math.Seq.{length-take-le, take_all}
use borrow.Rule.Slice.PartMut.{mid_of, put_mid}
use Rattle.spec.specs.Bytes.{written}
use Rattle.spec.specs.Keywords.{folded_keywords, keyword_front_code}
use Rattle.spec.proofs.Splices.{splice-tail}
use Rattle.trie.specs.Numbers.{node_count}
use Rattle.automaton.specs.Walking.{walked_of, walk_log}
use Rattle.automaton.specs.declared.Walked.{Walked}
use Rattle.automaton.proofs.Parts.{logged-is, log-short, walked-inside, walked-moves, walked-two}
use Rattle.automaton_lanes.specs.Lanes.{CanWalkLanes}
use Rattle.automaton_lanes.proofs.walk_lanes.Goals as goal

-- ---- the quarters, and the bytes left

abbrev even : List ℕ → List ℕ
even bytes = take (4 * (length bytes / 4)) bytes

abbrev left : List ℕ → List ℕ
left bytes = take (length bytes - 4 * (length bytes / 4)) (drop (4 * (length bytes / 4)) bytes)

even-length : (bytes : List ℕ) → length (even bytes) ≡ 4 * (length bytes / 4)
even-length bytes = length-take-le (4 * (length bytes / 4)) bytes (omega arith)

left-length : (bytes : List ℕ) → length (left bytes) ≡ length bytes - 4 * (length bytes / 4)
left-length bytes =
    length-take-le (length bytes - 4 * (length bytes / 4)) (drop (4 * (length bytes / 4)) bytes) (omega (arith, length-drop (4 * (length bytes / 4)) bytes))

both : (bytes : List ℕ) → bytes ≡ even bytes ++ left bytes
both bytes =
    let h : length (drop (4 * (length bytes / 4)) bytes) ≤ length bytes - 4 * (length bytes / 4) = omega (arith, length-drop (4 * (length bytes / 4)) bytes) in
    sym (take-append-drop (4 * (length bytes / 4)) bytes)
    ∙ ap (λ (y : List ℕ). even bytes ++ y) (sym (take_all (length bytes - 4 * (length bytes / 4)) (drop (4 * (length bytes / 4)) bytes) h))

module _ {list table : List ℕ} {node at room room1 room2 room3 : ℕ} (bytes : List ℕ)
    (can : CanWalkLanes list table node (length bytes) at room room1 room2 room3) {w : Walked} (e : w ≡ walked_of list node (even bytes) at) where
  front : keyword_front_code list ≡ 0
  front = can.walks.rows.accepted

  logged-few : w.logged ≤ 4 * (length bytes / 4)
  logged-few = omega (
    arith,
    ap (λ (r : Walked). r.logged) e,
    logged-is list front node (even bytes) at,
    log-short list front node (even bytes) at,
    even-length bytes,
  )

  moves-few : w.moves ≤ 32 + 2 * length bytes
  moves-few = omega (arith, ap (λ (r : Walked). r.moves) e, walked-moves list front node can.walks.inside (even bytes) at, even-length bytes)

  node-inside : w.node < node_count (folded_keywords list)
  node-inside = omega (arith, ap (λ (r : Walked). r.node) e, walked-inside list front node can.walks.inside (even bytes) at)

  module _ {v : Walked} (f : v ≡ walked_of list w.node (left bytes) (at + 4 * (length bytes / 4))) where
    abbrev p : ℕ
    p = at + 4 * (length bytes / 4)

    rest-moves : v.moves ≤ 32 + 2 * length bytes
    rest-moves = omega (arith, ap (λ (r : Walked). r.moves) f, walked-moves list front w.node node-inside (left bytes) p, left-length bytes)

    rest-logged : v.logged ≤ length bytes - 4 * (length bytes / 4)
    rest-logged = omega (
      arith,
      ap (λ (r : Walked). r.logged) f,
      logged-is list front w.node (left bytes) p,
      log-short list front w.node (left bytes) p,
      left-length bytes,
    )

    -- the two walks are one, and the second logs behind the first
    whole : (log log₁ last : List ℕ) → length log ≡ room → length log₁ ≡ length log → log₁ ≡ written log (walk_log list node (even bytes) at)
        → last ≡ written (mid_of w.logged (length log₁ - w.logged) log₁) (walk_log list w.node (left bytes) p)
        → (record { node = v.node; moves = w.moves + v.moves; logged = w.logged + v.logged } ≡ walked_of list node bytes at)
        × (put_mid w.logged (length log₁ - w.logged) log₁ last ≡ written log (walk_log list node bytes at))
    whole log log₁ last r m g h =
        let k = ap (λ (r : Walked). r.logged) f ∙ logged-is list front w.node (left bytes) p in
        walked-two list front node w.node at p bytes (even bytes) (left bytes) log log₁ _ w v can.walks.inside (both bytes)
        (omega (arith, even-length bytes)) (omega (arith, can.walks.long)) e g refl f
        (splice-tail w.logged log₁ last (walk_log list w.node (left bytes) p) (omega (arith, logged-few, rest-logged, k, can.walks.long)) h)

pub offset_bounds-log-k : goal.offset_bounds-log-k
offset_bounds-log-k c = omega (arith, logged-few c.args.bytes.now c.requires c.walk_quarters-w.ensures.answer)

pub slice_bounds-walk-count-2 : goal.slice_bounds-walk-count-2
slice_bounds-walk-count-2 c = omega (arith, logged-few c.args.bytes.now c.requires c.walk_quarters-w.ensures.answer)

pub slice_bounds-walk-start-2 : goal.slice_bounds-walk-start-2
slice_bounds-walk-start-2 c = omega (arith, logged-few c.args.bytes.now c.requires c.walk_quarters-w.ensures.answer)

pub walk-rest-requires : goal.walk-rest-requires
walk-rest-requires c =
    let bytes = c.args.bytes.now in
    let n = left-length bytes in
    let k = logged-few bytes c.requires c.walk_quarters-w.ensures.answer in
    record {
      rows = c.requires.walks.rows;
      inside = node-inside bytes c.requires c.walk_quarters-w.ensures.answer;
      places = omega (arith, n);
      long = simp (length-take, length-drop) (omega (arith, n, k));
    }

pub overflow_add-result : goal.overflow_add-result
overflow_add-result c =
    let bytes = c.args.bytes.now in
    let w = c.walk_quarters-w.ensures.answer in
    omega (arith, moves-few bytes c.requires w, rest-moves bytes c.requires w c.walk-rest.ensures.answer)

pub overflow_add-result-2 : goal.overflow_add-result-2
overflow_add-result-2 c =
    let bytes = c.args.bytes.now in
    let w = c.walk_quarters-w.ensures.answer in
    omega (arith, logged-few bytes c.requires w, rest-logged bytes c.requires w c.walk-rest.ensures.answer)

pub returns-clause-answer : goal.returns-clause-answer
returns-clause-answer c =
    let w = c.walk_quarters-w in
    (whole c.args.bytes.now c.requires w.ensures.answer c.walk-rest.ensures.answer
    c.args.log.now w.new.log _ refl w.auto.log w.ensures.entries c.walk-rest.ensures.entries).0

pub returns-clause-entries : goal.returns-clause-entries
returns-clause-entries c =
    let w = c.walk_quarters-w in
    (whole c.args.bytes.now c.requires w.ensures.answer c.walk-rest.ensures.answer
    c.args.log.now w.new.log _ refl w.auto.log w.ensures.entries c.walk-rest.ensures.entries).1
