-- From the place on, the keywords that are left say what the body says of all.
use Rattle.std.proofs.Common.{◌≡◌, ◌≤◌, length, take, drop}
use Rattle.spec.specs.Form.{form_in}
use Rattle.spec.specs.Records.{good_body}
use Rattle.bodies.specs.Steps.{good_from}
use Rattle.bodies.proofs.body_good.Given as goal

abbrev pub invariant-loop-k : goal.invariant-loop-k
invariant-loop-k l =
    (l.at ≤ length l.body)
    × (good_from (form_in l.format) l.k (drop l.k (take l.count l.lengths)) l.size (drop l.at l.body)
    ≡ good_body (form_in l.format) (take l.count l.lengths) l.size l.body)
