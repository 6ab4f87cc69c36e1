use Rattle.std.proofs.Common.{refl, arith, rules}
use Rattle.std.proofs.lemmas.Nat.{ones-le}
use Rattle.walk.specs.Walking.{cells}
use Rattle.walk.proofs.Places.{crossing_on}
use Rattle.walk.proofs.cross.Goals as goal

pub loop-k-preserved : goal.loop-k-preserved
loop-k-preserved c = (
  crossing_on _ _ (cells c.args.tables.now c.args.here.now c.args.next.now) _ _ _ _ _ _ c.loop-k.invariant.0 c.loop-k-test.true refl c.offsets_in-many.ensures,
  omega (arith, c.offsets_in-many.ensures, c.requires.2.few c.loop-k.k c.loop-k-test.true, ones-le 32 (cells c.args.tables.now c.args.here.now c.args.next.now c.loop-k.k) (search rules), c.loop-k.invariant.1),
)
