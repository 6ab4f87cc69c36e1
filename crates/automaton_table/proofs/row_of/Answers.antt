use Rattle.std.proofs.Common.{◌≡◌, List, ℕ, ◌+◌, ◌-◌, ◌≤◌, length, append-nil, length-set, arith}
use Rattle.std.proofs.Math.ListN.{replicate, length-replicate, drop_of_length-le}
use Rattle.spec.specs.Bytes.{splice}
use Rattle.spec.proofs.Tabulated.{tabulated, length-tabulated}
use Rattle.automaton.specs.Automaton.{cell_of}
use Rattle.automaton_table.specs.Building.{row_of}
use Rattle.automaton_table.proofs.Filled.{fill_on, fill_end}
use Rattle.automaton_table.proofs.row_of.Goals as goal

-- a row written over an array of its length is the row
whole : (flag : ℕ) (keywords : List (List ℕ)) (s : ℕ) (l : List ℕ) → length l ≡ 256
    → splice l 0 (tabulated (cell_of flag keywords s) 0 (256 - 0)) ≡ row_of flag keywords s
unfolding row_of splice
whole flag keywords s l e =
    let n = length-tabulated (cell_of flag keywords s) 0 256 in
    let k : length l ≤ 0 + length (tabulated (cell_of flag keywords s) 0 256) = omega (arith, n) in
    rw (drop_of_length-le l k) (append-nil (tabulated (cell_of flag keywords s) 0 256))

pub loop-b-init : goal.loop-b-init
loop-b-init c = let n = length-replicate {A = ℕ} 256 0 in (n, whole _ _ _ (replicate 256 0) n)

pub loop-b-preserved : goal.loop-b-preserved
loop-b-preserved c =
    let l = c.loop-b in (
      omega (arith, length-set l.row l.b c.cell_of.result),
      fill_on _ _ _ _ _ _ c.loop-b-test.true (omega (arith, l.invariant.0)) c.cell_of.ensures l.invariant.1,
    )

pub returns : goal.returns
returns c = fill_end _ _ _ _ _ c.loop-b-test.false c.loop-b.invariant.1
