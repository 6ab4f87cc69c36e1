use Rattle.std.proofs.Common.{◌≡◌, ◌+◌, ◌-◌, ◌&&◌}
use Rattle.spec.specs.Bytes.{set_of, in_set}
use Rattle.spans.proofs.going.Given as goal

abbrev pub invariant-loop-s : goal.invariant-loop-s
invariant-loop-s l = l.kept ≡ set_of (λ s. in_set l.live s && in_set l.set (l.i - s + l.gone)) l.s
