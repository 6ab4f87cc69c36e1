-- What four lanes ask and answer.
use Rattle.std.specs.Prelude.{◌≡◌, List, ℕ, ◌+◌, ◌/◌, ◌≤◌, length}
use Rattle.automaton.specs.Walking.{CanWalk, walked_of}
use Rattle.automaton_lanes.specs.declared.WalkedLanes.{WalkedLanes}

-- What four lanes ask: each what a walk asks, over as many bytes.
pub record CanWalkFour (list table : List ℕ) (n0 n1 n2 n3 : ℕ) (b0 b1 b2 b3 : List ℕ) (at0 at1 at2 at3 : ℕ) (log0 log1 log2 log3 : List ℕ) : Type 0 where
  pub can0 : CanWalk list table n0 (length b0) at0 (length log0)
  pub can1 : CanWalk list table n1 (length b1) at1 (length log1)
  pub can2 : CanWalk list table n2 (length b2) at2 (length log2)
  pub can3 : CanWalk list table n3 (length b3) at3 (length log3)
  pub same1 : length b1 ≡ length b0
  pub same2 : length b2 ≡ length b0
  pub same3 : length b3 ≡ length b0

-- What they answer: the last lane's node, the moves of all, and what each logged.
unfoldable pub lanes_of : List ℕ → (n0 n1 n2 n3 : ℕ) → (b0 b1 b2 b3 : List ℕ) → (at0 at1 at2 at3 : ℕ) → WalkedLanes
lanes_of list n0 n1 n2 n3 b0 b1 b2 b3 at0 at1 at2 at3 =
    let w0 = walked_of list n0 b0 at0 in
    let w1 = walked_of list n1 b1 at1 in
    let w2 = walked_of list n2 b2 at2 in
    let w3 = walked_of list n3 b3 at3 in
    record {
      node = w3.node;
      moves = w0.moves + w1.moves + w2.moves + w3.moves;
      logged0 = w0.logged;
      logged1 = w1.logged;
      logged2 = w2.logged;
      logged3 = w3.logged;
    }

-- What a walk in four lanes asks: what a walk asks, and a log of a quarter for each lane but the first.
pub record CanWalkLanes (list table : List ℕ) (node size at room room1 room2 room3 : ℕ) : Type 0 where
  pub walks : CanWalk list table node size at room
  pub long1 : size / 4 ≤ room1
  pub long2 : size / 4 ≤ room2
  pub long3 : size / 4 ≤ room3
