use Rattle.std.proofs.Common.{ℕ, ◌+◌, sym, ap₂, ◌∙◌, arith}
use Rattle.records.proofs.Starts.{part-most}
use Rattle.records.proofs.SetLaws.{set-most, start-length}
use Rattle.records.proofs.start_size.Goals as goal

pub overflow_add-result : goal.overflow_add-result
overflow_add-result c =
    let s = c.args.s in
    omega (arith, c.record_size.ensures 0 0, part-most 0 0 s, c.set_size.ensures 0, set-most 0 s.set)

pub returns : goal.returns
returns c = λ n k. ap₂ (λ (x y : ℕ). x + y) (c.record_size.ensures n k) (c.set_size.ensures k) ∙ sym (start-length n k c.args.s)
