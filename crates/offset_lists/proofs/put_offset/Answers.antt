use Rattle.std.proofs.Common.{ap, sym, ◌∙◌, arith}
use Rattle.spec.specs.Bytes.{splice}
use Rattle.offset_lists.proofs.Filling.{piece-put, piece-some, piece-length}
use Rattle.offset_lists.proofs.put_offset.Goals as goal

pub returns-then-count-le1 : goal.returns-then-count-le1
returns-then-count-le1 c = let a = c.args in piece-put a.out.now a.at a.offset a.count c.if-count-le1.true

pub write-requires : goal.write-requires
write-requires c = omega (arith, c.requires, piece-length c.args.count c.args.offset (omega arith))

pub returns : goal.returns
returns c = let a = c.args in (
  c.write.ensures ∙ ap (splice a.out.now a.at) (sym (piece-some a.count a.offset (omega arith))),
  sym (piece-length a.count a.offset (omega arith)),
)
