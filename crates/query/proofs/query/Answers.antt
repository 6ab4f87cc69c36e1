-- One law for each way out (Answers).
use Rattle.std.proofs.Common.{◌≡◌, ◌∙◌, refl, sym, List, ℕ, replicate, arith, rules}
use Rattle.spec.specs.Outcome.{Refused}
use Rattle.spec.specs.Refusal.{number_of, outcome_of}
use Rattle.spec.proofs.Refusals.{number-some}
use Rattle.directory.proofs.ChainLaws.{zeros}
use Rattle.plan.proofs.Stages.{planned}
use Rattle.query.proofs.AskedPlans.{few-asked, plan-refused, asked-code, asked-plan, asked-two, asked-eight, asked-total}
use Rattle.query.proofs.Answers.{lines-refused, lines_long, lines-room, lines-done}
use Rattle.query.proofs.query.Goals as goal

pub make-requires : goal.make-requires
make-requires c = (zeros, few-asked c.args.query.now c.askable-asked.result.now c.askable-asked.ensures)

pub returns-in_err-p : goal.returns-in_err-p
returns-in_err-p c =
    let a = c.args in
    let r = c.in_err-p.field-0.0 in
    let f : outcome_of c.from_residual.result ≡ Refused (number_of r) = search rules in
    let e = c.in_err-p.ensures.0 in
    let code = plan-refused a.index.now a.recipes.now a.query.now (λ z. number-some r (e ∙ z)) in
    let l = lines-refused a.index.now a.recipes.now a.query.now a.out.now _ code r e in
    (f ∙ l.0, l.1)

pub returns-in_err-check : goal.returns-in_err-check
returns-in_err-check c =
    let a = c.args in
    let r = c.in_err-check.field-0.0 in
    let f : outcome_of c.from_residual-in_err-check.result ≡ Refused (number_of r) = search rules in
    let m = c.in_ok-p in
    let code = asked-code a.index.now a.recipes.now a.query.now c.askable-asked.result.now c.askable-asked.ensures m.p m.ensures.1 (sym m.ensures.0)
    (number_of r) c.in_err-check.ensures in
    let l = lines-refused a.index.now a.recipes.now a.query.now a.out.now (number_of r) code r refl in
    (f ∙ l.0, l.1)

pub overflow_mul-query : goal.overflow_mul-query
overflow_mul-query c =
    let a = c.args in
    let m = c.in_ok-p in
    let few = asked-eight a.index.now a.recipes.now a.query.now c.askable-asked.result.now c.askable-asked.ensures m.p m.ensures.1 (sym m.ensures.0)
    0 c.in_ok-check.ensures refl in
    record { fits = omega (arith, few) }

pub overflow_add-query : goal.overflow_add-query
overflow_add-query c =
    let a = c.args in
    let m = c.in_ok-p in
    let few = asked-eight a.index.now a.recipes.now a.query.now c.askable-asked.result.now c.askable-asked.ensures m.p m.ensures.1 (sym m.ensures.0)
    0 c.in_ok-check.ensures refl in
    record { fits = omega (arith, few) }

pub returns-then-out-query : goal.returns-then-out-query
returns-then-out-query c =
    let a = c.args in
    let m = c.in_ok-p in
    let code = asked-code a.index.now a.recipes.now a.query.now c.askable-asked.result.now c.askable-asked.ensures m.p m.ensures.1 (sym m.ensures.0)
    0 c.in_ok-check.ensures in
    let total = asked-total a.index.now a.recipes.now a.query.now c.askable-asked.result.now c.askable-asked.ensures m.p m.ensures.1 (sym m.ensures.0)
    0 c.in_ok-check.ensures refl in
    lines_long a.index.now a.recipes.now a.query.now a.out.now 0 code refl m.p.total total c.if-out-query.true

-- the tables before the plan
abbrev no-tables : List (List (List ℕ))
no-tables = replicate {A = List (List ℕ)} 16 (replicate {A = List ℕ} 32 (replicate {A = ℕ} 32 0))

pub write_lines-requires-clause-planned : goal.write_lines-requires-clause-planned
write_lines-requires-clause-planned c =
    let a = c.args in
    let k = c.askable-asked in
    let m = c.in_ok-p in
    let y = c.in_ok-check.ensures in
    let is = asked-plan a.index.now a.recipes.now a.query.now k.result.now k.ensures m.p m.ensures.1 (sym m.ensures.0) 0 y refl in
    let two = asked-two a.index.now a.recipes.now a.query.now k.result.now k.ensures m.p m.ensures.1 (sym m.ensures.0) 0 y refl in (
      planned a.index.now a.recipes.now a.query.now m.p is (replicate 130536 0) c.make.new.chains no-tables c.make.new.tables
          (sym m.ensures.0) zeros m.ensures.2 m.ensures.3,
      omega (arith, two),
      asked-eight a.index.now a.recipes.now a.query.now k.result.now k.ensures m.p m.ensures.1 (sym m.ensures.0) 0 y refl,
    )

pub write_lines-requires-clause-query_in_bounds : goal.write_lines-requires-clause-query_in_bounds
write_lines-requires-clause-query_in_bounds c =
    let a = c.args in
    let m = c.in_ok-p in
    let code = asked-code a.index.now a.recipes.now a.query.now c.askable-asked.result.now c.askable-asked.ensures m.p m.ensures.1 (sym m.ensures.0)
    0 c.in_ok-check.ensures in
    let total = asked-total a.index.now a.recipes.now a.query.now c.askable-asked.result.now c.askable-asked.ensures m.p m.ensures.1 (sym m.ensures.0)
    0 c.in_ok-check.ensures refl in
    lines-room a.index.now a.recipes.now a.query.now a.out.now 0 code refl m.p.total total c.if-out-query.false

pub returns : goal.returns
returns c =
    let a = c.args in
    let m = c.in_ok-p in
    let code = asked-code a.index.now a.recipes.now a.query.now c.askable-asked.result.now c.askable-asked.ensures m.p m.ensures.1 (sym m.ensures.0)
    0 c.in_ok-check.ensures in
    let total = asked-total a.index.now a.recipes.now a.query.now c.askable-asked.result.now c.askable-asked.ensures m.p m.ensures.1 (sym m.ensures.0)
    0 c.in_ok-check.ensures refl in
    lines-done a.index.now a.recipes.now a.query.now a.out.now 0 code refl m.p.total total
    c.write_lines.new.out c.if-out-query.false c.write_lines.ensures
