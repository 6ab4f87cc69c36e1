use Rattle.std.proofs.Common.{arith}
use Rattle.scan.proofs.Fits.{count-few, share-few, shares-few, most-is, fits-never, fits_not, fits-so}
use Rattle.scan.proofs.always_fits.Goals as goal

pub returns-then-store-gt-LARGEST : goal.returns-then-store-gt-LARGEST
returns-then-store-gt-LARGEST c = fits-never c.requires c.if-store-gt-LARGEST.true c.args.room

pub overflow_mul-most : goal.overflow_mul-most
overflow_mul-most c = omega (arith, count-few c.requires)

pub overflow_add-most-2 : goal.overflow_add-most-2
overflow_add-most-2 c = omega (arith, count-few c.requires)

pub overflow_mul-most-2 : goal.overflow_mul-most-2
overflow_mul-most-2 c = omega (arith, count-few c.requires)

pub overflow_add-most-3 : goal.overflow_add-most-3
overflow_add-most-3 c = omega (arith, share-few c.requires c.if-store-gt-LARGEST.false)

pub overflow_mul-most-4 : goal.overflow_mul-most-4
overflow_mul-most-4 c = omega (arith, shares-few c.requires c.if-store-gt-LARGEST.false)

pub overflow_add-most-4 : goal.overflow_add-most-4
overflow_add-most-4 c = omega (arith, count-few c.requires, shares-few c.requires c.if-store-gt-LARGEST.false)

pub returns-then-most-room : goal.returns-then-most-room
returns-then-most-room c = fits-so c.requires _ c.args.room (most-is c.requires) c.if-most-room.true

pub returns-else-most-room : goal.returns-else-most-room
returns-else-most-room c = fits_not c.requires _ c.args.room (most-is c.requires) c.if-most-room.false
