-- Four lanes side by side, each as in `automaton::walk`; the moves of all are one sum. Assumes nothing.
use mathlib.Core.Path.{◌≡◌, refl, ap}
use mathlib.Core.List.{List}
use Prim.Native.Nat.{ℕ, ◌+◌, ◌*◌, ◌/◌, ◌≤◌, ◌<◌}
use native.Mathlib.Omega.{arith}
use lib.ListN.{length, get_or}
use Rattle.spec.specs.Bytes.{splice, written}
use Rattle.spec.specs.Keywords.{flag_of, folded_keywords}
use Rattle.automaton.specs.Automaton.{cell_of}
use Rattle.automaton.specs.Walking.{number_in, entry_of, CanStep, walked_of, walk_log}
use Rattle.automaton.specs.declared.Walked.{Walked}
use Rattle.automaton.proofs.Lanes.{Running, node-few, running-start, running-step, running-on, running-end}
use Rattle.automaton_lanes.specs.Lanes.{CanWalkFour, lanes_of}

-- before byte i: m0 to m3 are the moves of each lane
pub record Four (list : List ℕ) (n0 n1 n2 n3 : ℕ) (b0 b1 b2 b3 : List ℕ) (at0 at1 at2 at3 : ℕ) (l0 l1 l2 l3 : List ℕ)
    (c0 c1 c2 c3 moves k0 k1 k2 k3 i : ℕ) (g0 g1 g2 g3 : List ℕ) : Type 0 where
  pub m0 : ℕ
  pub m1 : ℕ
  pub m2 : ℕ
  pub m3 : ℕ
  pub total : moves ≡ m0 + m1 + m2 + m3
  pub lane0 : Running list n0 b0 at0 l0 c0 m0 k0 i g0
  pub lane1 : Running list n1 b1 at1 l1 c1 m1 k1 i g1
  pub lane2 : Running list n2 b2 at2 l2 c2 m2 k2 i g2
  pub lane3 : Running list n3 b3 at3 l3 c3 m3 k3 i g3

-- four answers as one
one_answer : (moves m0 m1 m2 m3 : ℕ) (w0 w1 w2 w3 v0 v1 v2 v3 : Walked) → moves ≡ m0 + m1 + m2 + m3
    → w0 ≡ v0 → w1 ≡ v1 → w2 ≡ v2 → w3 ≡ v3 → w0.moves ≡ m0 → w1.moves ≡ m1 → w2.moves ≡ m2 → w3.moves ≡ m3
    → moves ≡ v0.moves + v1.moves + v2.moves + v3.moves
one_answer moves m0 m1 m2 m3 w0 w1 w2 w3 v0 v1 v2 v3 t e0 e1 e2 e3 f0 f1 f2 f3 =
    let moves_of : Walked → ℕ = λ w. w.moves in
    omega (arith, ap moves_of e0, ap moves_of e1, ap moves_of e2, ap moves_of e3)

module _ {list table : List ℕ} {n0 n1 n2 n3 : ℕ} {b0 b1 b2 b3 : List ℕ} {at0 at1 at2 at3 : ℕ} {l0 l1 l2 l3 : List ℕ}
    (can : CanWalkFour list table n0 n1 n2 n3 b0 b1 b2 b3 at0 at1 at2 at3 l0 l1 l2 l3) where
  pub four-nodes : (n0 ≤ 512) × (n1 ≤ 512) × (n2 ≤ 512) × (n3 ≤ 512)
  four-nodes = (
    node-few list table n0 b0 at0 l0 can.can0,
    node-few list table n1 b1 at1 l1 can.can1,
    node-few list table n2 b2 at2 l2 can.can2,
    node-few list table n3 b3 at3 l3 can.can3,
  )

  pub four-start : Four list n0 n1 n2 n3 b0 b1 b2 b3 at0 at1 at2 at3 l0 l1 l2 l3 (n0 * 256) (n1 * 256) (n2 * 256) (n3 * 256) 0 0 0 0 0 0 l0 l1 l2 l3
  four-start =
      record {
        m0 = 0;
        m1 = 0;
        m2 = 0;
        m3 = 0;
        total = omega arith;
        lane0 = running-start list table n0 b0 at0 l0 can.can0;
        lane1 = running-start list table n1 b1 at1 l1 can.can1;
        lane2 = running-start list table n2 b2 at2 l2 can.can2;
        lane3 = running-start list table n3 b3 at3 l3 can.can3;
      }

  module _ {c0 c1 c2 c3 moves k0 k1 k2 k3 i : ℕ} {g0 g1 g2 g3 : List ℕ}
      (f : Four list n0 n1 n2 n3 b0 b1 b2 b3 at0 at1 at2 at3 l0 l1 l2 l3 c0 c1 c2 c3 moves k0 k1 k2 k3 i g0 g1 g2 g3) where
    pub four-steps : CanStep list table c0 × CanStep list table c1 × CanStep list table c2 × CanStep list table c3
    four-steps = (
      running-step list table n0 b0 at0 l0 can.can0 c0 f.m0 k0 i g0 f.lane0,
      running-step list table n1 b1 at1 l1 can.can1 c1 f.m1 k1 i g1 f.lane1,
      running-step list table n2 b2 at2 l2 can.can2 c2 f.m2 k2 i g2 f.lane2,
      running-step list table n3 b3 at3 l3 can.can3 c3 f.m3 k3 i g3 f.lane3,
    )

    pub four-inside : i < length b0 → (i < length b1) × (i < length b2) × (i < length b3)
    four-inside h = (omega (arith, can.same1), omega (arith, can.same2), omega (arith, can.same3))

    pub four-on : i < length b0 → {d0 d1 d2 d3 j0 j1 j2 j3 : ℕ} {h0 h1 h2 h3 : List ℕ}
        → d0 ≡ cell_of (flag_of list) (folded_keywords list) (number_in c0) (get_or b0 i 0)
        → d1 ≡ cell_of (flag_of list) (folded_keywords list) (number_in c1) (get_or b1 i 0)
        → d2 ≡ cell_of (flag_of list) (folded_keywords list) (number_in c2) (get_or b2 i 0)
        → d3 ≡ cell_of (flag_of list) (folded_keywords list) (number_in c3) (get_or b3 i 0)
        → j0 ≡ k0 + length (entry_of d0 (at0 + i)) → h0 ≡ splice g0 k0 (entry_of d0 (at0 + i))
        → j1 ≡ k1 + length (entry_of d1 (at1 + i)) → h1 ≡ splice g1 k1 (entry_of d1 (at1 + i))
        → j2 ≡ k2 + length (entry_of d2 (at2 + i)) → h2 ≡ splice g2 k2 (entry_of d2 (at2 + i))
        → j3 ≡ k3 + length (entry_of d3 (at3 + i)) → h3 ≡ splice g3 k3 (entry_of d3 (at3 + i))
        → Four list n0 n1 n2 n3 b0 b1 b2 b3 at0 at1 at2 at3 l0 l1 l2 l3 d0 d1 d2 d3
        (moves + (d0 / 16777216 + d1 / 16777216 + d2 / 16777216 + d3 / 16777216)) j0 j1 j2 j3 (i + 1) h0 h1 h2 h3
    four-on h {d0} {d1} {d2} {d3} {j0} {j1} {j2} {j3} {h0} {h1} {h2} {h3} e0 e1 e2 e3 q0 w0 q1 w1 q2 w2 q3 w3 =
        record {
          m0 = f.m0 + d0 / 16777216;
          m1 = f.m1 + d1 / 16777216;
          m2 = f.m2 + d2 / 16777216;
          m3 = f.m3 + d3 / 16777216;
          total = omega (arith, f.total);
          lane0 = running-on list table n0 b0 at0 l0 can.can0 c0 f.m0 k0 i g0 f.lane0 h d0 j0 h0 e0 q0 w0;
          lane1 = running-on list table n1 b1 at1 l1 can.can1 c1 f.m1 k1 i g1 f.lane1 (four-inside h).0 d1 j1 h1 e1 q1 w1;
          lane2 = running-on list table n2 b2 at2 l2 can.can2 c2 f.m2 k2 i g2 f.lane2 (four-inside h).1 d2 j2 h2 e2 q2 w2;
          lane3 = running-on list table n3 b3 at3 l3 can.can3 c3 f.m3 k3 i g3 f.lane3 (four-inside h).2 d3 j3 h3 e3 q3 w3;
        }

    pub four-end : length b0 ≤ i
        → (record { node = number_in c3; moves = moves; logged0 = k0; logged1 = k1; logged2 = k2; logged3 = k3 }
        ≡ lanes_of list n0 n1 n2 n3 b0 b1 b2 b3 at0 at1 at2 at3)
        × (g0 ≡ written l0 (walk_log list n0 b0 at0))
        × (g1 ≡ written l1 (walk_log list n1 b1 at1))
        × (g2 ≡ written l2 (walk_log list n2 b2 at2))
        × (g3 ≡ written l3 (walk_log list n3 b3 at3))
    unfolding lanes_of
    four-end h =
        let e0 = running-end list table n0 b0 at0 l0 can.can0 c0 f.m0 k0 i g0 f.lane0 h in
        let e1 = running-end list table n1 b1 at1 l1 can.can1 c1 f.m1 k1 i g1 f.lane1 (omega (arith, can.same1)) in
        let e2 = running-end list table n2 b2 at2 l2 can.can2 c2 f.m2 k2 i g2 f.lane2 (omega (arith, can.same2)) in
        let e3 = running-end list table n3 b3 at3 l3 can.can3 c3 f.m3 k3 i g3 f.lane3 (omega (arith, can.same3)) in
        let t : moves ≡ (walked_of list n0 b0 at0).moves + (walked_of list n1 b1 at1).moves + (walked_of list n2 b2 at2).moves + (walked_of list n3 b3 at3).moves =
        one_answer moves f.m0 f.m1 f.m2 f.m3 _ _ _ _ _ _ _ _ f.total e0.0 e1.0 e2.0 e3.0 refl refl refl refl in (
          λ j.
              record {
                node = (e3.0 j).node;
                moves = t j;
                logged0 = (e0.0 j).logged;
                logged1 = (e1.0 j).logged;
                logged2 = (e2.0 j).logged;
                logged3 = (e3.0 j).logged;
              },
          e0.1,
          e1.1,
          e2.1,
          e3.1,
        )
