use Rattle.std.proofs.Common.{sym, ◌∙◌}
use Rattle.spec.specs.Form.{form_in}
use Rattle.loader.proofs.Rows.{end-set, end_none}
use Rattle.loader.proofs.set_end.Goals as goal

pub returns-then-is_set : goal.returns-then-is_set
returns-then-is_set c = end-set (form_in c.args.format) _ _ _ c.args.k c.requires (sym c.is_set.ensures ∙ c.if-is_set.true)

pub returns : goal.returns
returns c = end_none (form_in c.args.format) _ _ _ c.args.k c.requires (sym c.is_set.ensures ∙ c.if-is_set.false)
