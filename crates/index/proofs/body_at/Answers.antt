-- The bodies of a checked index lie in it.
use Rattle.std.proofs.Common.{ℕ, ◌+◌, refl, ap, arith}
use Rattle.index.proofs.LookupLaws.{body-room, body-slice, offset-found}
use Rattle.index.proofs.body_at.Goals as goal

pub overflow_add-result : goal.overflow_add-result
overflow_add-result c = omega (arith, body-room c.args.index.now c.args.k c.requires _ _ c.entry_field-at.ensures c.entry_field-n.ensures)

pub slice_bounds-result-end : goal.slice_bounds-result-end
slice_bounds-result-end c = body-room c.args.index.now c.args.k c.requires _ _ c.entry_field-at.ensures c.entry_field-n.ensures

pub returns : goal.returns
returns c = (
  body-slice c.args.index.now c.args.k c.requires _ _ c.entry_field-at.ensures c.entry_field-n.ensures,
  refl,
  ap (λ (x : ℕ). x + c.args.index.ref_ptr.1) (offset-found c.args.index.now c.args.k c.requires _ _ c.entry_field-at.ensures c.entry_field-n.ensures),
)
