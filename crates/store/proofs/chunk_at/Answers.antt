-- The chunks of a store that passed its check lie in it.
use Rattle.std.proofs.Common.{ℕ, ◌+◌, refl, ap, arith}
use Rattle.store.proofs.Answers.{chunk-room, chunk-slice}
use Rattle.store.proofs.chunk_at.Goals as goal

pub overflow_add-result : goal.overflow_add-result
overflow_add-result c = omega (arith, chunk-room c.args.store.now c.args.k c.requires)

pub slice_bounds-result-end : goal.slice_bounds-result-end
slice_bounds-result-end c = omega (arith, chunk-room c.args.store.now c.args.k c.requires)

pub returns : goal.returns
returns c = (
  chunk-slice c.args.store.now c.args.k c.requires _ _ c.entry_field-at.ensures c.entry_field-n.ensures,
  refl,
  ap (λ (n : ℕ). n + c.args.store.ref_ptr.1) c.entry_field-at.ensures,
)
