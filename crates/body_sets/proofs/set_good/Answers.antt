use Rattle.std.proofs.Common.{◌≡◌, ℕ, ◌-◌, ◌/◌, ◌%◌, ◌^◌, ◌≤◌, sym, ap, ◌∙◌, arith}
use lib.Dec.{eqb}
use Rattle.std.proofs.lemmas.Bool.Decides.{nat_tests}
use Rattle.body_sets.proofs.SetChecks.{set-short, set-nil, set-odd, set_long, set_rest}
use Rattle.body_sets.proofs.set_good.Goals.{then-set-ne0, else-set-ne0, then-set-eq0, else-set-eq0}
use Rattle.body_sets.proofs.set_good.Goals as goal

pub returns-then-bytes-lt6 : goal.returns-then-bytes-lt6
returns-then-bytes-lt6 c = set-short c.args.n c.args.size c.args.bytes.now (omega arith) c.if-bytes-lt6.true

pub returns-then-size-n : goal.returns-then-size-n
returns-then-size-n c =
    let a = c.args in
    elim c.if-set-ne0.branch [
      | then-set-ne0 v ↦ elim c.if-set-eq0.branch [
        | then-set-eq0 w ↦
            let even : c.read-set.result % 2 ≡ 0 = grind (arith, nat_tests) in
            ap (λ (x : ℕ). eqb (x / 2 ^ (a.n - a.size)) 0) c.read-set.ensures
            ∙ set_rest a.n a.size a.bytes.now (omega arith) (λ i. (c.type_inv.bytes i).fits) c.requires.1 (λ z. v.if-set-ne0.true (c.read-set.ensures ∙ z))
            (λ z. omega arith)
        | else-set-eq0 w ↦ absurd (grind (arith, nat_tests))
      ]
      | else-set-ne0 v ↦ absurd (grind (arith, nat_tests))
    ]

pub returns-else-size-n : goal.returns-else-size-n
returns-else-size-n c =
    let a = c.args in
    elim c.if-set-ne0.branch [
      | then-set-ne0 v ↦ elim c.if-set-eq0.branch [
        | then-set-eq0 w ↦
            let l : a.n ≤ a.size = grind (arith, nat_tests) in
            c.if-size-n.false ∙ set_long a.n a.size a.bytes.now (λ z. v.if-set-ne0.true (c.read-set.ensures ∙ z)) l
        | else-set-eq0 w ↦
            let odd : c.read-set.result % 2 ≡ 1 = grind (arith, nat_tests) in
            c.if-size-n.false ∙ set-odd a.n a.size a.bytes.now (ap (λ (x : ℕ). x % 2) (sym c.read-set.ensures) ∙ odd)
      ]
      | else-set-ne0 v ↦ c.if-size-n.false ∙ set-nil a.n a.size a.bytes.now (omega arith) (omega arith)
    ]
