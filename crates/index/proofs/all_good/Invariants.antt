-- All bodies before e are good.
use Rattle.std.proofs.Common.{◌≡◌, ℕ, ◌<◌, true}
use Rattle.spec.specs.Form.{form_of}
use Rattle.spec.specs.Index.{good_at}
use Rattle.index.proofs.all_good.Given as goal

abbrev pub invariant-loop-e : goal.invariant-loop-e
invariant-loop-e l = (k : ℕ) → k < l.e → good_at (form_of l.index) l.index k ≡ true
