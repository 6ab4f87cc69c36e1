use Rattle.std.proofs.Common.{drop, arith}
use Rattle.std.proofs.lemmas.Nat.{ones-le}
use Rattle.spec.specs.Keywords.{folded_keywords}
use Rattle.spec.specs.Index.{list_in}
use Rattle.walk.specs.Walking.{chunks_in, crossings}
use Rattle.walk.proofs.Places.{crossing_on}
use Rattle.walk.proofs.cross_over.Goals as goal

pub loop-k-preserved : goal.loop-k-preserved
loop-k-preserved c = (
  crossing_on _ _ (crossings (folded_keywords (list_in c.args.source.now.index.now)) c.args.here.now
      (drop _ (chunks_in c.args.source.now.index.now c.args.file.now)))
      _ _ _ _ _ _ c.loop-k.invariant.0 c.loop-k-test.true c.crossing-set.ensures c.offsets_in-many.ensures,
  omega (
    arith,
    c.offsets_in-many.ensures,
    c.requires.prefixed.0.few c.loop-k.k c.loop-k-test.true,
    ones-le 32 c.crossing-set.result (omega arith),
    c.loop-k.invariant.1,
  ),
)
