use Rattle.std.proofs.Common.{◌-◌, ◌<◌, ◌≤◌, get_or, length, ◌∙◌, arith}
use mathlib.Core.Logic.{◌≢◌}
use Rattle.std.proofs.lemmas.Bool.Decides.{nat_tests}
use Rattle.body_sets.proofs.SetChecks.{no-sets, too_short, other-number}
use Rattle.body_sets.proofs.is_set.Goals.{then-format, else-format, then-body-at-ge2, else-body-at-ge2}
use Rattle.body_sets.proofs.is_set.Goals as goal

pub returns-else-k-body : goal.returns-else-k-body
returns-else-k-body c =
    let a = c.args in
    elim c.if-format.branch [
      | then-format v ↦ elim c.if-body-at-ge2.branch [
        | then-body-at-ge2 w ↦
            let l : 2 ≤ length a.body.now - a.at = grind (arith, nat_tests) in
            let d : a.k ≢ get_or a.body.now a.at 0 = grind (arith, nat_tests) in
            c.if-k-body.false ∙ other-number a.format a.body.now a.at a.k c.requires l d
        | else-body-at-ge2 w ↦
            let l : length a.body.now - a.at < 2 = grind (arith, nat_tests) in
            c.if-k-body.false ∙ too_short a.format a.body.now a.at a.k c.requires l
      ]
      | else-format v ↦ c.if-k-body.false ∙ no-sets a.format a.body.now a.at a.k v.if-format.false
    ]
