-- The join's answer, case by case (Together).
use Rattle.std.proofs.Common.{ap}
use Rattle.spec.specs.Outcome.{Done, Refused}
use Rattle.spec.specs.Refusal.{number_of, outcome_of}
use Rattle.spec.specs.Join.{counts_of, lent}
use Rattle.search.proofs.Together.{join-answered}
use Rattle.search.proofs.joined.Goals as goal

pub returns-in-Err : goal.returns-in-Err
returns-in-Err c =
    let a = c.args in
    let j = c.tallied-j in
    join-answered a.index.now a.recipes.now (lent a.key.now a.before) a.out.now j.new.out (counts_of j.result.tally)
    (Refused (number_of c.in-Err.refusal)) (outcome_of j.result.outcome) (ap outcome_of c.in-Err.is) j.ensures.0 j.ensures.1 j.ensures.2

pub returns-in-Ok : goal.returns-in-Ok
returns-in-Ok c =
    let a = c.args in
    let j = c.tallied-j in
    join-answered a.index.now a.recipes.now (lent a.key.now a.before) a.out.now j.new.out (counts_of j.result.tally)
    (Done c.in-Ok.count) (outcome_of j.result.outcome) (ap outcome_of c.in-Ok.is) j.ensures.0 j.ensures.1 j.ensures.2
