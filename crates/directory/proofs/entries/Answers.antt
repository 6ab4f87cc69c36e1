use Rattle.std.proofs.Common.{◌<◌, ◌≤◌, ◌≡◌, ◌-◌, ℕ, ◌⊎◌, ⊎_elim, sym, ap, ◌∙◌, arith}
use Rattle.std.proofs.lemmas.Grind.{common_steps}
use Rattle.spec.specs.Directory.{entries_code}
use Rattle.directory.specs.Chains.{layout_of}
use Rattle.directory.proofs.EntryTurns.{turn-none, turn-long, turn_gap, turn-past, turn_more, ended}
use Rattle.directory.proofs.entries.Goals.{Else-not-contains}
use Rattle.directory.proofs.entries.Goals as goal

sized : (c : Else-not-contains) → (1 ≤ c.read.result) × (c.read.result ≤ c.args.most)
sized c = (grind (arith, common_steps, c.contains.ensures.cases), grind (arith, common_steps, c.contains.ensures.cases))

pub returns-then-not-contains : goal.returns-then-not-contains
returns-then-not-contains c code =
    let a = c.args in
    let layout = layout_of a.start a.stride a.sizes a.offsets a.lengths in
    let h : (c.read.result < 1) ⊎ (a.most < c.read.result) = grind (arith, common_steps, c.contains.ensures.cases) in
    ⊎_elim
    (λ z. turn-none layout a.bytes.now a.most code a.count c.loop-k.k c.loop-k.at _ (c.loop-k.invariant.left code) c.loop-k-test.true (omega arith))
    (λ l. turn-long layout a.bytes.now a.most code a.count c.loop-k.k c.loop-k.at _ (c.loop-k.invariant.left code) c.loop-k-test.true (omega arith)) h

pub returns-then-read-at : goal.returns-then-read-at
returns-then-read-at c code =
    let a = c.args in
    let layout = layout_of a.start a.stride a.sizes a.offsets a.lengths in
    let in_range = sized (goal.at.returns-then-read-at c).Else-not-contains in
    turn_gap layout a.bytes.now a.most code a.count c.loop-k.k c.loop-k.at _ (c.loop-k.invariant.left code)
    c.loop-k-test.true (omega arith) (omega arith) (λ e. c.if-read-at.true (c.read-in-loop-k.ensures ∙ e))

pub returns-then-bytes-at : goal.returns-then-bytes-at
returns-then-bytes-at c code =
    let a = c.args in
    let layout = layout_of a.start a.stride a.sizes a.offsets a.lengths in
    let in_range = sized (goal.at.returns-then-bytes-at c).Else-not-contains in
    turn-past layout a.bytes.now a.most code a.count c.loop-k.k c.loop-k.at _ (c.loop-k.invariant.left code)
    c.loop-k-test.true (omega arith) (omega arith) (sym c.read-in-loop-k.ensures ∙ c.if-read-at.false) (omega arith)

pub loop-k-preserved : goal.loop-k-preserved
loop-k-preserved c =
    let a = c.args in
    let layout = layout_of a.start a.stride a.sizes a.offsets a.lengths in
    let in_range = sized (goal.at.loop-k-preserved c).Else-not-contains in
    record {
      inside = omega arith;
      left = λ code. turn_more layout a.bytes.now a.most code a.count c.loop-k.k c.loop-k.at _ (c.loop-k.invariant.left code)
          c.loop-k-test.true (omega arith) (omega arith) (sym c.read-in-loop-k.ensures ∙ c.if-read-at.false) c.read-long.result c.read-long.ensures;
    }

pub returns : goal.returns
returns c code =
    let a = c.args in
    let z : a.count - c.loop-k.k ≡ 0 = omega arith in
    let layout = layout_of a.start a.stride a.sizes a.offsets a.lengths in
    ended layout a.bytes.now a.most code c.loop-k.k c.loop-k.at
    ∙ ap (λ (n : ℕ). entries_code layout a.bytes.now a.most code n c.loop-k.k c.loop-k.at) (sym z) ∙ c.loop-k.invariant.left code
