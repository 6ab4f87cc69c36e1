use Rattle.std.proofs.Common.{arith, inl, inr}
use Rattle.spec.specs.Form.{form_in}
use Rattle.loader.proofs.Rows.{end-other}
use Rattle.loader.proofs.next_at.Goals.{then-left-eq0-via-then-left-eq0, then-left-eq0-via-else-left-eq0+then-from-k}
use Rattle.loader.proofs.next_at.Goals as goal

pub returns-then-left-eq0 : goal.returns-then-left-eq0
returns-then-left-eq0 c =
    end-other (form_in c.args.format) _ _ _ c.args.k c.requires (elim c.then-left-eq0.branch [
      | then-left-eq0-via-then-left-eq0 w ↦ inl w.if-left-eq0.true
      | then-left-eq0-via-else-left-eq0+then-from-k w ↦ inr (omega arith, λ e. omega arith)
    ])
