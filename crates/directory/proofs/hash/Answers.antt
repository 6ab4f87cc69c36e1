-- Each field is below 2^32, so nothing wraps, and the sum is the definition's (`hashed`).
use Rattle.std.proofs.Common.{◌<◌, arith}
use Rattle.directory.proofs.ChainLaws.{hashed}
use Rattle.directory.proofs.KeyFields.{read-lt}
use Rattle.directory.proofs.hash.Goals.{After-read, After-read-2, After-read-3, After-read-4, After-read-5}
use Rattle.directory.proofs.hash.Goals as goal

small-1 : (c : After-read) → c.read.result < 4294967296
small-1 c = read-lt c.args.key.now 0 _ (λ i. (c.type_inv.key i).fits) c.read.ensures

small-2 : (c : After-read-2) → c.read-2.result < 4294967296
small-2 c = read-lt c.args.key.now 4 _ (λ i. (c.type_inv.key i).fits) c.read-2.ensures

small-3 : (c : After-read-3) → c.read-3.result < 4294967296
small-3 c = read-lt c.args.key.now 8 _ (λ i. (c.type_inv.key i).fits) c.read-3.ensures

small-4 : (c : After-read-4) → c.read-4.result < 4294967296
small-4 c = read-lt c.args.key.now 12 _ (λ i. (c.type_inv.key i).fits) c.read-4.ensures

small-5 : (c : After-read-5) → c.read-5.result < 4294967296
small-5 c = read-lt c.args.key.now 16 _ (λ i. (c.type_inv.key i).fits) c.read-5.ensures

pub overflow_mul-sum : goal.overflow_mul-sum
overflow_mul-sum c = let at = goal.at.overflow_mul-sum c in omega (arith, small-1 at.After-read)

pub overflow_mul-sum-2 : goal.overflow_mul-sum-2
overflow_mul-sum-2 c = let at = goal.at.overflow_mul-sum-2 c in omega (arith, small-2 at.After-read-2)

pub overflow_add-sum : goal.overflow_add-sum
overflow_add-sum c = let at = goal.at.overflow_add-sum c in omega (arith, small-1 at.After-read, small-2 at.After-read-2)

pub overflow_mul-sum-3 : goal.overflow_mul-sum-3
overflow_mul-sum-3 c = let at = goal.at.overflow_mul-sum-3 c in omega (arith, small-3 at.After-read-3)

pub overflow_add-sum-2 : goal.overflow_add-sum-2
overflow_add-sum-2 c = let at = goal.at.overflow_add-sum-2 c in omega (arith, small-1 at.After-read, small-2 at.After-read-2, small-3 at.After-read-3)

pub overflow_mul-sum-4 : goal.overflow_mul-sum-4
overflow_mul-sum-4 c = let at = goal.at.overflow_mul-sum-4 c in omega (arith, small-4 at.After-read-4)

pub overflow_add-sum-3 : goal.overflow_add-sum-3
overflow_add-sum-3 c =
    let at = goal.at.overflow_add-sum-3 c in
    omega (arith, small-1 at.After-read, small-2 at.After-read-2, small-3 at.After-read-3, small-4 at.After-read-4)

pub overflow_mul-sum-5 : goal.overflow_mul-sum-5
overflow_mul-sum-5 c = let at = goal.at.overflow_mul-sum-5 c in omega (arith, small-5 at.After-read-5)

pub overflow_add-sum-4 : goal.overflow_add-sum-4
overflow_add-sum-4 c =
    let at = goal.at.overflow_add-sum-4 c in
    omega (arith, small-1 at.After-read, small-2 at.After-read-2, small-3 at.After-read-3, small-4 at.After-read-4, small-5 at.After-read-5)

pub returns-clause-value : goal.returns-clause-value
returns-clause-value c =
    hashed c.args.key.now _ _ _ _ _ c.read.ensures c.read-2.ensures c.read-3.ensures c.read-4.ensures c.read-5.ensures
